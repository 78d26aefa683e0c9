-- What is read as statements is in the language.
use Rattle.std.proofs.Common.{◌≡◌, ℕ, zero, suc, Bool, true, false, [], ◌∷◌, ◌++◌, Result, Ok, refl, sym, ◌∙◌, ap, subst, inl, inr, ◌⊎◌, append_assoc}
use Rattle.std.specs.Prelude.{codes, max}
use Rattle.std.specs.Str.{bytes_eq}
use Rattle.vg_base.proofs.Bind.{bind_ok, tested_ok, either_way}
use Rattle.vg_text.specs.Words.{Reading, Spelled}
use Rattle.vg_pseudo.specs.declared.fault.PseudoFault.{PseudoFault}
use Rattle.vg_pseudo.specs.declared.fault.PseudoFault.TheVariants.{Shape}
use Rattle.vg_pseudo.specs.Tree.{Statements}
use Rattle.vg_pseudo.specs.Definitions.{Context}
use Rattle.vg_pseudo.specs.Words.{is_free}
use Rattle.vg_pseudo.specs.Grammar.{Words, Is, IsName, AreStatements, assigned, assigned_above, repeated, chosen_way, picked_arm}
use Rattle.vg_pseudo.specs.Reader.{next_at, expect_at, name_at, items_behind}
use Rattle.vg_pseudo.specs.Expressions.{Part, form_at, whole_at, own_index_at}
use Rattle.vg_pseudo.specs.Statements.{Block, chained, nothing, Body, assigned_at, above_at, above_follows, assignment_at, for_at, if_at, arm_follows, arm_at, case_at, word_at_head, block_at, statement_at, statements_at}
use Rattle.vg_pseudo.proofs.Taking.{ok_once}
use Rattle.vg_pseudo_laws.proofs.Standing.{Reads, ◌▷◌, FoundWord, true_fact, this-word, this-found, tested-found, expect-found, name-found}
use Rattle.vg_pseudo_laws.proofs.ListsFound.{FoundItem}
use Rattle.vg_pseudo_laws.proofs.FormsFound.{FoundForm, form-found}
use Rattle.vg_pseudo_laws.proofs.ExpressionsFound.{whole-found, own_index-found}
use Rattle.vg_pseudo_laws.proofs.BlocksFound.{Before, Statement, FoundBlock, SoundBody, SoundStatement, block-found}
use Rattle.vg_pseudo_laws.proofs.ChoicesFound.{ways-found, arms-found}

-- an item of words that reading gave
item : {context : Context} {room : ℕ} {r q : Reading} {first : Spelled} {rest : Words} {b : Block} → Reads (first ∷ rest) r q → Before (Statement context room) (first ∷ rest) b → FoundItem (Before (Statement context room)) r (b, q)
item {context} {room} {r} {q} {first} {rest} {b} reads is = record { first = first; rest = rest; is = is; reads = reads }

-- the words of a loop before others
pub loop_words : (first bound inside rest : Words) (to closing : Spelled) → (first ++ to ∷ (bound ++ (inside ++ closing ∷ []))) ++ rest ≡ first ++ to ∷ (bound ++ (inside ++ closing ∷ rest))
loop_words first bound inside rest to closing = simp append_assoc

-- the same words are the same statements
same_words : {context : Context} {room calls : ℕ} {ws vs : Words} {s : Statements} → vs ≡ ws → AreStatements context room ws s calls → AreStatements context room vs s calls
same_words {context} {room} {calls} {ws} {vs} {s} e are = subst (λ (us : Words). AreStatements context room us s calls) (sym e) are

-- `[MAX:` that was taken
record FoundAbove (r q : Reading) : Type 0 where
  opening : Spelled
  greatest : Spelled
  colon : Spelled
  is_opening : Is opening (codes "[")
  is_greatest : Is greatest (codes "MAX")
  is_colon : Is colon (codes ":")
  reads : Reads (opening ∷ greatest ∷ colon ∷ []) r q

above_follows-found : (r : Reading) (x : Bool × Reading) → above_follows r ≡ Ok x → ((x.0 ≡ true) × FoundAbove r x.1) ⊎ ((x.0 ≡ false) × (x.1 ≡ r))
unfolding above_follows
above_follows-found r x e =
    let a = bind_ok (next_at r) _ e in
    elim (either_way (bytes_eq a.0.0.bytes (codes "[")) _ (Ok (false, r)) a.2) [
      | inl opening ↦
          let b = bind_ok (next_at a.0.1) _ opening.1 in
          elim (either_way (bytes_eq b.0.0.bytes (codes "MAX")) _ (Ok (false, r)) b.2) [
            | inl greatest ↦
                let c = bind_ok (next_at b.0.1) _ greatest.1 in
                elim (either_way (bytes_eq c.0.0.bytes (codes ":")) (Ok (true, c.0.1)) (Ok (false, r)) c.2) [
                  | inl colon ↦ inl (taken a.0.1 b.0.1 c.0.1 (this-found 91 [] r a.0 a.1 opening.0) (this-found 77 (codes "AX") a.0.1 b.0 b.1 greatest.0) (this-found 58 [] b.0.1 c.0 c.1 colon.0) colon.1)
                  | inr other ↦ inr (left other.1)
                ]
            | inr other ↦ inr (left other.1)
          ]
      | inr other ↦ inr (left other.1)
    ]
  where
    left : (let y : Result (Bool × Reading) PseudoFault = Ok (false, r) in y ≡ Ok x) → (x.0 ≡ false) × (x.1 ≡ r)
    left h = subst (λ (y : Bool × Reading). (y.0 ≡ false) × (y.1 ≡ r)) (ok_once _ x h) (refl, refl)

    taken : (m n q : Reading) → FoundWord (codes "[") r m → FoundWord (codes "MAX") m n → FoundWord (codes ":") n q → (let y : Result (Bool × Reading) PseudoFault = Ok (true, q) in y ≡ Ok x) → (x.0 ≡ true) × FoundAbove r x.1
    taken m n q a b c h =
        subst (λ (y : Bool × Reading). (y.0 ≡ true) × FoundAbove r y.1) (ok_once _ x h)
        (refl, record { opening = a.word; greatest = b.word; colon = c.word; is_opening = a.is; is_greatest = b.is; is_colon = c.is; reads = a.reads ▷ b.reads ▷ c.reads })

module _ (context : Context) (room : ℕ) where
  above-found : (w : Spelled) (r m q : Reading) (x : Block × Reading) → IsName w → Reads (w ∷ []) r m → FoundAbove m q → above_at context w q ≡ Ok x → FoundItem (Before (Statement context (suc room))) r x
  unfolding above_at
  above-found w r m q x name_is first a e =
      let l = bind_ok (own_index_at context q) _ e in
      let c = bind_ok (expect_at (codes "]") l.0.1) _ l.2 in
      let s = bind_ok (expect_at (codes ":=") c.0.1) _ c.2 in
      let v = bind_ok (whole_at context s.0.1) _ s.2 in
      let low = own_index-found context q l.0 l.1 in
      let closing = expect-found 93 [] l.0.1 c.0 c.1 in
      let sign = expect-found 58 (codes "=") c.0.1 s.0 s.1 in
      let value = whole-found context s.0.1 v.0 v.1 in
      subst (FoundItem (Before (Statement context (suc room))) r) (ok_once _ x v.2)
      (item (first ▷ a.reads ▷ low.reads ▷ closing.reads ▷ sign.reads ▷ value.reads)
      (λ rest t are. simp append_assoc
      (assigned_above room t.calls w a.opening a.greatest a.colon closing.word sign.word low.words value.words rest l.0.0 v.0.0 t.statements
      name_is a.is_opening a.is_greatest a.is_colon (low.is, low.deep) closing.is sign.is (value.is, value.deep) are)))

  -- `:= expression` after a target
  target-found : (w : Spelled) (r m : Reading) (t : Part × Reading) (y x : Block × Reading) → IsName w → Reads (w ∷ []) r m → FoundForm context 65 w m t → assigned_at context w.place t.0.expression t.1 ≡ Ok y
      → (let all : Result (Block × Reading) PseudoFault = Ok (record { statements = y.0.statements; calls = max t.0.calls y.0.calls }, y.1) in all ≡ Ok x) → FoundItem (Before (Statement context (suc room))) r x
  unfolding assigned_at
  target-found w r m t y x name_is first f e h =
      let s = bind_ok (expect_at (codes ":=") t.1) _ e in
      let v = bind_ok (whole_at context s.0.1) _ s.2 in
      let sign = expect-found 58 (codes "=") t.1 s.0 s.1 in
      let value = whole-found context s.0.1 v.0 v.1 in
      subst (FoundItem (Before (Statement context (suc room))) r) (ap (λ (z : Block × Reading). (record { statements = z.0.statements; calls = max t.0.calls z.0.calls }, z.1)) (ok_once _ y v.2) ∙ ok_once _ x h)
      (item (first ▷ f.reads ▷ sign.reads ▷ value.reads)
      (λ rest u are. simp append_assoc
      (assigned room u.calls w sign.word f.rest value.words rest t.0 v.0.0 u.statements (name_is, f.is, f.target, f.deep) sign.is (value.is, value.deep) are)))

  assignment-found : (w : Spelled) (r m : Reading) (x : Block × Reading) → IsName w → Reads (w ∷ []) r m → assignment_at context w m ≡ Ok x → FoundItem (Before (Statement context (suc room))) r x
  unfolding assignment_at
  assignment-found w r m x name_is first e =
      let g = bind_ok (above_follows m) _ e in
      elim (above_follows-found m g.0 g.1) [
        | inl follow ↦ above-found w r m g.0.1 x name_is first follow.1 (rw follow.0 at g.2)
        | inr none ↦
            let t = bind_ok (form_at (own_index_at context) w g.0.1) _ (rw none.0 at g.2) in
            let y = bind_ok (assigned_at context w.place t.0.0.expression t.0.1) _ t.2 in
            let f = form-found context 64 (own_index_at context) (own_index-found context) w g.0.1 t.0 name_is t.1 in
            target-found w r g.0.1 t.0 y.0 x name_is (subst (λ (n : Reading). Reads (w ∷ []) r n) (sym none.1) first) f y.1 y.2
      ]

  module _ (body : Body) (sound : SoundBody context room body) where
    for-found : (r m : Reading) (x : Block × Reading) → (w : Spelled) → Is w (codes "FOR") × Reads (w ∷ []) r m → for_at context body w.place m ≡ Ok x → FoundItem (Before (Statement context (suc room))) r x
    unfolding for_at
    for-found r m x w head e =
        let n = bind_ok (name_at m) _ e in
        let s = bind_ok (expect_at (codes ":=") n.0.1) _ n.2 in
        let a = bind_ok (whole_at context s.0.1) _ s.2 in
        let o = bind_ok (expect_at (codes "to") a.0.1) _ a.2 in
        let b = bind_ok (whole_at context o.0.1) _ o.2 in
        let i = bind_ok (body b.0.1) _ b.2 in
        let c = bind_ok (expect_at (codes "ENDFOR") i.0.1) _ i.2 in
        let variable = name-found m n.0 n.1 in
        let sign = expect-found 58 (codes "=") n.0.1 s.0 s.1 in
        let first = whole-found context s.0.1 a.0 a.1 in
        let to = expect-found 116 (codes "o") a.0.1 o.0 o.1 in
        let bound = whole-found context o.0.1 b.0 b.1 in
        let inside = sound b.0.1 i.0 i.1 in
        let closing = expect-found 69 (codes "NDFOR") i.0.1 c.0 c.1 in
        subst (FoundItem (Before (Statement context (suc room))) r) (ok_once _ x c.2)
        (item (head.1 ▷ variable.1 ▷ sign.reads ▷ first.reads ▷ to.reads ▷ bound.reads ▷ inside.reads ▷ closing.reads)
        (λ rest t are. same_words (ap (λ (ws : Words). w ∷ n.0.0 ∷ sign.word ∷ ws) (loop_words first.words bound.words inside.words rest to.word closing.word))
        (repeated room i.0.0.calls t.calls w n.0.0 sign.word to.word closing.word first.words bound.words inside.words rest a.0.0 b.0.0 i.0.0.statements t.statements
        head.0 variable.0 sign.is (first.is, first.deep) to.is (bound.is, bound.deep) inside.are closing.is are)))

    if-found : (r m : Reading) (x : Block × Reading) → FoundWord (codes "IF") r m → if_at context body m ≡ Ok x → FoundItem (Before (Statement context (suc room))) r x
    if-found r m x w e =
        let f = ways-found context room body sound m x e in
        subst (λ (b : Block). FoundItem (Before (Statement context (suc room))) r (b, x.1)) (sym f.same)
        (item (w.reads ▷ f.reads)
        (λ rest t are. simp append_assoc (chosen_way room f.calls t.calls w.word f.closing f.words rest f.ways t.statements w.is f.are f.is_closing are)))

    case-found : (r m : Reading) (x : Block × Reading) → FoundWord (codes "CASE") r m → case_at context body m ≡ Ok x → FoundItem (Before (Statement context (suc room))) r x
    unfolding case_at
    case-found r m x w e =
        let s = bind_ok (whole_at context m) _ e in
        let o = bind_ok (expect_at (codes "OF") s.0.1) _ s.2 in
        let a = bind_ok (items_behind arm_follows (arm_at body) [] o.0.1) _ o.2 in
        let c = bind_ok (expect_at (codes "ESAC") a.0.1) _ a.2 in
        let selector = whole-found context m s.0 s.1 in
        let of = expect-found 79 (codes "F") s.0.1 o.0 o.1 in
        let arms = arms-found context room body sound o.0.1 a.0 a.1 in
        let closing = expect-found 69 (codes "SAC") a.0.1 c.0 c.1 in
        subst (FoundItem (Before (Statement context (suc room))) r) (ok_once _ x c.2)
        (item (w.reads ▷ selector.reads ▷ of.reads ▷ arms.reads ▷ closing.reads)
        (λ rest t are. simp append_assoc
        (picked_arm room (chained a.0.0 nothing).calls t.calls w.word of.word closing.word selector.words arms.words rest s.0.0 (chained a.0.0 nothing).statements t.statements
        w.is (selector.is, selector.deep) of.is arms.are closing.is are)))

    head-found : (r : Reading) (w : Spelled × Reading) (x : Block × Reading) → next_at r ≡ Ok w → word_at_head context body w.0 w.1 ≡ Ok x → FoundItem (Before (Statement context (suc room))) r x
    unfolding word_at_head
    head-found r w x t e =
        elim (either_way (bytes_eq w.0.bytes (codes "FOR")) _ _ e) [
          | inl for_is ↦ for-found r w.1 x w.0 (this-word 70 (codes "OR") r w t for_is.0) for_is.1
          | inr e2 ↦ elim (either_way (bytes_eq w.0.bytes (codes "IF")) _ _ e2.1) [
            | inl if_is ↦ if-found r w.1 x (this-found 73 (codes "F") r w t if_is.0) if_is.1
            | inr e3 ↦ elim (either_way (bytes_eq w.0.bytes (codes "CASE")) _ _ e3.1) [
              | inl case_is ↦ case-found r w.1 x (this-found 67 (codes "ASE") r w t case_is.0) case_is.1
              | inr e4 ↦ (let n = tested_ok (is_free w.0.bytes) (assignment_at context w.0 w.1) (Shape w.0.place) e4.1 in assignment-found w.0 r w.1 x (true_fact _ n.0) (tested-found is_free r w t n.0 refl) n.1)
            ]
          ]
        ]

statement-found : (context : Context) (room : ℕ) → SoundStatement context room (statement_at context room)
unfolding statement_at
statement-found context zero r x e = let w = bind_ok (next_at r) _ e in absurd (let bad = w.2 in cc)
statement-found context (suc room) r x e =
    let w = bind_ok (next_at r) _ e in
    head-found context room (block_at (statement_at context room)) (block-found context room (statement_at context room) (statement-found context room)) r w.0 x w.1 w.2

pub statements-found : (context : Context) (r : Reading) (x : Block × Reading) → statements_at context r ≡ Ok x → FoundBlock context 64 r x
statements-found context r x e = block-found context 64 (statement_at context 64) (statement-found context 64) r x e
