-- Targets of assignments are read.
use Rattle.std.proofs.Common.{◌≡◌, ℕ, zero, suc, ◌≤◌, true, false, List, [], ◌∷◌, ◌++◌, Ok, refl, sym, ◌∙◌, ap, subst, inl, inr, arith}
use Rattle.std.specs.Prelude.{codes, IsTrue}
use Rattle.std.specs.Str.{bytes_eq}
use Rattle.std.proofs.lemmas.Bool.{cases_Bool}
use Rattle.vg_base.proofs.Bind.{bind_to, bind_ok, tested_ok, either_way}
use Rattle.vg_text.specs.Words.{Reading, Spelled}
use Rattle.vg_text.specs.declared.place.Place.{Place}
use Rattle.vg_text.specs.Number.{decimal_value}
use Rattle.vg_pseudo.specs.Tree.{name}
use Rattle.vg_pseudo.specs.Spots.{spot_at}
use Rattle.vg_pseudo.specs.Definitions.{Context}
use Rattle.vg_pseudo.specs.Words.{is_free}
use Rattle.vg_pseudo.specs.Grammar.{Words, Is, IsName, IsExpression, is_target, literal, named, sliced, indexed, placed, parted, parenthesised, prefixed, function_of_one, function_of_two, called, tighter, joined, compared, chosen}
use Rattle.vg_pseudo.specs.Reader.{next_at, expect_at}
use Rattle.vg_pseudo.specs.Expressions.{Part, Inner, leaf, function_at, plain_at, operand_at, level_at, expression_at, own_index_at}
use Rattle.vg_pseudo.specs.Statements.{above_follows}
use Rattle.vg_pseudo.proofs.Taking.{ok_once, same_text}
use Rattle.vg_pseudo_laws.proofs.Standing.{Reads}
use Rattle.vg_pseudo_laws.proofs.WordsAgain.{next-again, no-more, split, stops, Ends, ends-text}
use Rattle.vg_pseudo_laws.proofs.FormsAgain.{GivesIndex, GivesForm, named-form, indexed-form, sliced-form, parted-form, placed-form}
use Rattle.vg_pseudo_laws.proofs.LanguageRead.{own_index-again}

-- after the name of a function that was read stands a parenthesis
function-opens : (context : Context) (inner : Inner) (f : _) (place : Place) (n : Reading) (x : Part × Reading) → function_at inner f place n ≡ Ok x → (p : Spelled × Reading) × (next_at n ≡ Ok p) × Is p.0 (codes "(")
unfolding function_at
function-opens context inner f place n x e =
    let o = bind_ok (expect_at (codes "(") n) _ e in
    let w = bind_ok (next_at n) _ o.1 in
    let t = tested_ok (bytes_eq w.0.0.bytes (codes "(")) _ _ w.2 in
    (w.0, w.1, same_text w.0.0.bytes (codes "(") t.0)

max-opens : (context : Context) (inner : Inner) (w : Spelled) (n : Reading) (x : Part × Reading) → Is w (codes "MAX") → plain_at context inner w n ≡ Ok x → (p : Spelled × Reading) × (next_at n ≡ Ok p) × Is p.0 (codes "(")
unfolding decimal_value
max-opens context inner w n x is e =
    let h = subst (λ (b : List ℕ). plain_at context inner (record { bytes = b; place = w.place; is_end = w.is_end }) n ≡ Ok x) is e in
    function-opens context inner _ w.place n x h

operand-opens : (context : Context) (inner : Inner) (r : Reading) (v : Spelled × Reading) (x : Part × Reading) → operand_at context inner r ≡ Ok x → next_at r ≡ Ok v → Is v.0 (codes "MAX") → (p : Spelled × Reading) × (next_at v.1 ≡ Ok p) × Is p.0 (codes "(")
unfolding operand_at
operand-opens context inner r v x e t is =
    let w = bind_ok (next_at r) _ e in
    let same : w.0 ≡ v = ok_once w.0 v (sym w.1 ∙ t) in
    let at : Is w.0.0 (codes "MAX") = ap (λ (y : Spelled × Reading). y.0.bytes) same ∙ is in
    elim (either_way (bytes_eq w.0.0.bytes (codes "(")) _ _ w.2) [
      | inl opened ↦ absurd (let bad : false ≡ true = sym (ap (λ (b : List ℕ). bytes_eq b (codes "(")) at) ∙ opened.0 in cc)
      | inr plain ↦ subst (λ (y : Spelled × Reading). (p : Spelled × Reading) × (next_at y.1 ≡ Ok p) × Is p.0 (codes "(")) same (max-opens context inner w.0.0 w.0.1 x at plain.1)
    ]

level-opens : (context : Context) (whole : Place) (inner : Inner) (room level : ℕ) (r : Reading) (v : Spelled × Reading) (x : Part × Reading) → level_at context whole inner room level r ≡ Ok x → next_at r ≡ Ok v → Is v.0 (codes "MAX") → (p : Spelled × Reading) × (next_at v.1 ≡ Ok p) × Is p.0 (codes "(")
unfolding level_at
level-opens context whole inner room zero r v x e t is = operand-opens context inner r v x e t is
level-opens context whole inner room (suc level) r v x e t is = let y = bind_ok (level_at context whole inner room level r) _ e in level-opens context whole inner room level r v y.0 y.1 t is

expression-opens : (context : Context) (whole : Place) (room level : ℕ) (r : Reading) (v : Spelled × Reading) (x : Part × Reading) → expression_at context whole room level r ≡ Ok x → next_at r ≡ Ok v → Is v.0 (codes "MAX") → (p : Spelled × Reading) × (next_at v.1 ≡ Ok p) × Is p.0 (codes "(")
unfolding expression_at
expression-opens context whole zero level r v x e t is = absurd (let w = bind_ok (next_at r) _ e in let bad = w.2 in cc)
expression-opens context whole (suc room) level r v x e t is = level-opens context whole (expression_at context whole room) room level r v x e t is

-- brackets with an index do not begin with `[MAX:`
not-above : (context : Context) (opening : Spelled) (r n : Reading) (x : Part × Reading) → next_at r ≡ Ok (opening, n) → Is opening (codes "[") → own_index_at context n ≡ Ok x → above_follows r ≡ Ok (false, r)
unfolding above_follows
not-above context opening r n x t is e =
    let w = bind_ok (next_at n) _ e in
    let square : bytes_eq opening.bytes (codes "[") ≡ true = ap (λ (b : List ℕ). bytes_eq b (codes "[")) is in
    elim (cases_Bool (bytes_eq w.0.0.bytes (codes "MAX"))) [
      | inl greatest ↦
          let p = expression-opens context w.0.0.place 64 7 n w.0 x w.2 w.1 (same_text w.0.0.bytes (codes "MAX") greatest) in
          let no_colon : bytes_eq p.0.0.bytes (codes ":") ≡ false = ap (λ (b : List ℕ). bytes_eq b (codes ":")) p.2 in
          bind_to (next_at r) _ t (rw square (bind_to (next_at n) _ w.1 (rw greatest (bind_to (next_at w.0.1) _ p.1 (rw no_colon refl)))))
      | inr other ↦ bind_to (next_at r) _ t (rw square (bind_to (next_at n) _ w.1 (rw other refl)))
    ]

-- no bracket stands next
no-bracket : (r n : Reading) (w : Spelled) → next_at r ≡ Ok (w, n) → bytes_eq w.bytes (codes "[") ≡ false → above_follows r ≡ Ok (false, r)
unfolding above_follows
no-bracket r n w t f = bind_to (next_at r) _ t (rw f refl)

-- a target is read after its name, and not as one with MAX
pub record TargetLaw (context : Context) (w : Spelled) (ws : Words) (x : Part) : Type 0 where
  pub reads : GivesForm (own_index_at context) w ws x
  pub other : (r m : Reading) → Reads ws r m → Ends 0 m → above_follows r ≡ Ok (false, r)

abbrev pub TargetWords : Context → Words → Part → Type 0
TargetWords context [] x = Unit {0}
TargetWords context (w ∷ ws) x = TargetLaw context w ws x

abbrev FirstName : Words → Type 0
FirstName [] = ⊥
FirstName (w ∷ ws) = IsName w

not_name : (w : Spelled) → Is w (codes "(") → IsName w → ⊥
not_name w is free = let bad : false ≡ true = sym (ap is_free is) ∙ free in cc

module _ (context : Context) where
  named-target : (w : Spelled) → TargetLaw context w [] (leaf (name (spot_at w.place) w.bytes))
  named-target w = record { reads = named-form (own_index_at context) w; other = λ r m h end. no-bracket r end.behind end.word (ap next_at (no-more h) ∙ end.next) end.square }

  dotted : (dot : Spelled) (ws : Words) (r m : Reading) → Is dot (codes ".") → Reads (dot ∷ ws) r m → above_follows r ≡ Ok (false, r)
  dotted dot ws r m is h = (let a = next-again h in no-bracket r a.behind dot a.next (ap (λ (b : List ℕ). bytes_eq b (codes "[")) is))

  bracketed : (opening stop : Spelled) (text : List ℕ) (ks ws : Words) (k : Part) (r m : Reading) → Is opening (codes "[") → GivesIndex (own_index_at context) ks k → Is stop text → stops text ≡ true → Reads (opening ∷ (ks ++ stop ∷ ws)) r m → above_follows r ≡ Ok (false, r)
  bracketed opening stop text ks ws k r m is law stop_is s h =
      let a = next-again h in
      let b = split ks a.rest in
      let c = next-again b.second in
      not-above context opening r a.behind (k, b.middle) a.next is (law a.behind b.middle b.first (ends-text 7 text stop c.behind b.middle c.next stop_is s))

  pub target-words : (level : ℕ) (ws : Words) (x : Part) → IsExpression context level ws x → level ≡ 0 → FirstName ws → IsTrue (is_target x.expression) → x.depth ≤ 65 → TargetWords context ws x
  target-words _ _ _ (literal w n is) zero_is first target deep = cc
  target-words _ _ _ (named w is) zero_is first target deep = named-target w
  target-words _ _ _ (sliced w opening colon closing hs ls h l is opening_is is_h colon_is is_l closing_is) zero_is first target deep =
      let high = own_index-again context hs h (is_h, omega arith) in
      let low = own_index-again context ls l (is_l, omega arith) in
      record { reads = sliced-form (own_index_at context) w opening colon closing hs ls h l opening_is high colon_is low closing_is; other = λ r m reads end. bracketed opening colon (codes ":") hs _ h r m opening_is high colon_is refl reads }
  target-words _ _ _ (indexed w opening closing ks k is opening_is is_k closing_is) zero_is first target deep =
      let index = own_index-again context ks k (is_k, omega arith) in
      record { reads = indexed-form (own_index_at context) w opening closing ks k opening_is index closing_is; other = λ r m reads end. bracketed opening closing (codes "]") ks _ k r m opening_is index closing_is refl reads }
  target-words _ _ _ (placed w dot text opening closing size ks k is dot_is text_is opening_is is_k closing_is) zero_is first target deep =
      let index = own_index-again context ks k (is_k, omega arith) in
      record { reads = placed-form (own_index_at context) w dot text opening closing size ks k dot_is text_is opening_is index closing_is; other = λ r m reads end. dotted dot _ r m dot_is reads }
  target-words _ _ _ (parted w dot text size is dot_is text_is) zero_is first target deep = record { reads = parted-form (own_index_at context) w dot text size dot_is text_is; other = λ r m reads end. dotted dot _ r m dot_is reads }
  target-words _ _ _ (parenthesised opening closing xs y opening_is is_y closing_is) zero_is first target deep = absurd (not_name opening opening_is first)
  target-words _ _ _ (prefixed op w xs y is is_y) zero_is first target deep = cc
  target-words _ _ _ (function_of_one op w opening closing xs y is opening_is is_y closing_is) zero_is first target deep = cc
  target-words _ _ _ (function_of_two op w opening comma closing xs ys y z is opening_is is_y comma_is is_z closing_is) zero_is first target deep = cc
  target-words _ _ _ (called w opening closing calls xs rest y ps is opening_is counts is_y are takes_them closing_is) zero_is first target deep = cc
  target-words _ _ _ (tighter level ws x is) zero_is first target deep = absurd (omega arith)
  target-words _ _ _ (joined op w level xs ys y z is_y name_is binds other is_z) zero_is first target deep = absurd (omega arith)
  target-words _ _ _ (compared op w xs ys y z is_y name_is binds is_z) zero_is first target deep = absurd (omega arith)
  target-words _ _ _ (chosen mark colon cs xs ys c y z is_c mark_is is_y colon_is is_z) zero_is first target deep = absurd (omega arith)
