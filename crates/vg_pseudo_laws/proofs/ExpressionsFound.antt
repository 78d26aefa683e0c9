-- What is read as an expression is in the language.
use Rattle.std.proofs.Common.{◌≡◌, ℕ, zero, suc, ◌≤◌, Bool, true, false, List, [], ◌∷◌, ◌++◌, Option, Some, None, Result, Ok, refl, sym, ◌∙◌, ap, subst, inl, inr, ◌⊎◌, arith}
use Rattle.std.specs.Prelude.{codes, is_some, nat_le, nat_eq, if◌then◌else◌}
use Rattle.std.specs.Option.{option_map_or}
use Rattle.std.proofs.lemmas.Bool.{leb-true, eqb-true}
use Rattle.vg_base.proofs.Bind.{bind_ok, tested_ok, either_way}
use Rattle.vg_text.specs.declared.place.Place.{Place}
use Rattle.vg_text.specs.Words.{Reading, Spelled}
use Rattle.vg_pseudo.specs.declared.operators.BinaryOp.{BinaryOp}
use Rattle.vg_pseudo.specs.declared.fault.PseudoFault.{PseudoFault}
use Rattle.vg_pseudo.specs.declared.fault.PseudoFault.TheVariants.{NestingTooDeep}
use Rattle.vg_pseudo.specs.Definitions.{Context}
use Rattle.vg_pseudo.specs.Words.{level_of, operator_named}
use Rattle.vg_pseudo.specs.Grammar.{tighter, joined, compared, chosen}
use Rattle.vg_pseudo.specs.Reader.{next_at, expect_at, accept_at}
use Rattle.vg_pseudo.specs.Expressions.{Part, Inner, operator_of, operator_at, join_at, joined_one, joined_at, compared_at, choice_at, chosen_at, behind_at, level_at, expression_at, whole_at, own_index_at}
use Rattle.vg_pseudo.proofs.Taking.{ok_once}
use Rattle.vg_pseudo_laws.proofs.Standing.{Reads, ◌▷◌, FoundWord, tested-found, expect-found, accept-found}
use Rattle.vg_pseudo_laws.proofs.FormsFound.{Found, Sound, SoundIndex}
use Rattle.vg_pseudo_laws.proofs.OperandsFound.{operand-found}

-- an operator of a level
pub record FoundOperator (level : ℕ) (op : BinaryOp) (r q : Reading) : Type 0 where
  pub word : Spelled
  pub named : operator_named word.bytes ≡ Some op
  pub binds : level_of op ≡ level
  pub reads : Reads (word ∷ []) r q

nothing_is_no_operator : is_some (operator_named []) ≡ false
nothing_is_no_operator = refl

operator_of-found : (level : ℕ) (bytes : List ℕ) (op : BinaryOp) → operator_of level bytes ≡ Some op → (operator_named bytes ≡ Some op) × (level_of op ≡ level)
operator_of-found level bytes op e = by (operator_named bytes) refl e
  where
    tested : (b : Bool) (o : BinaryOp) → (if b then Some o else None) ≡ Some op → (b ≡ true) × (o ≡ op)
    tested true o h = (refl, cc)
    tested false o h = cc

    by : (o : Option BinaryOp) → operator_named bytes ≡ o → option_map_or (λ o. if nat_eq (level_of o) level then Some o else None) o None ≡ Some op → (operator_named bytes ≡ Some op) × (level_of op ≡ level)
    by (Some o) k h =
        let t = tested (nat_eq (level_of o) level) o h in
        (k ∙ ap Some t.1, subst (λ (p : BinaryOp). level_of p ≡ level) t.1 (eqb-true (level_of o) level t.0))
    by None k h = cc

operator-found : (level : ℕ) (r : Reading) (x : Option BinaryOp × Reading) → operator_at level r ≡ Ok x → ((op : BinaryOp) × (x.0 ≡ Some op) × FoundOperator level op r x.1) ⊎ ((x.0 ≡ None) × (x.1 ≡ r))
operator-found level r x e =
    let w = bind_ok (next_at r) _ e in
    by w.0 w.1 (operator_of level w.0.0.bytes) refl w.2
  where
    by : (w : Spelled × Reading) → next_at r ≡ Ok w → (o : Option BinaryOp) → operator_of level w.0.bytes ≡ o → option_map_or {U = Result (Option BinaryOp × Reading) PseudoFault} (λ op. Ok (Some op, w.1)) o (Ok (None, r)) ≡ Ok x
        → ((op : BinaryOp) × (x.0 ≡ Some op) × FoundOperator level op r x.1) ⊎ ((x.0 ≡ None) × (x.1 ≡ r))
    by w t (Some op) k h =
        let is = operator_of-found level w.0.bytes op k in
        let word = tested-found (λ b. is_some (operator_named b)) r w t (ap is_some is.0) nothing_is_no_operator in
        inl (subst (λ (y : Option BinaryOp × Reading). (o : BinaryOp) × (y.0 ≡ Some o) × FoundOperator level o r y.1) (ok_once _ x h) (op, refl, record { word = w.0; named = is.0; binds = is.1; reads = word }))
    by w t None k h = inr (subst (λ (y : Option BinaryOp × Reading). (y.0 ≡ None) × (y.1 ≡ r)) (ok_once _ x h) (refl, refl))

module _ (context : Context) (whole : Place) (room : ℕ) (inner : Inner) (sound : Sound context room inner) where
  -- an operator and its right operand
  join-found : (level : ℕ) (r q : Reading) (left : Part) (op : BinaryOp) (x : Part × Reading) → (suc level ≡ 4 → ⊥) → Found context (suc room) (suc level) r (left, q) → left.depth ≤ room → (m : Reading) → FoundOperator (suc level) op q m
      → join_at inner level left op m ≡ Ok x → Found context (suc room) (suc level) r x
  unfolding join_at
  join-found level r q left op x other f few m o e =
      let y = bind_ok (inner level m) _ e in
      let g = sound level m y.0 y.1 in
      subst (Found context (suc room) (suc level) r) (ok_once _ x y.2)
      (record {
        words = f.words ++ o.word ∷ g.words;
        is = joined op o.word level f.words g.words left y.0.0 f.is o.named o.binds other g.is;
        reads = f.reads ▷ o.reads ▷ g.reads;
        deep = let d = g.deep in omega arith;
      })

  compare-found : (r q : Reading) (left : Part) (op : BinaryOp) (x : Part × Reading) → Found context (suc room) 3 r (left, q) → left.depth ≤ room → (m : Reading) → FoundOperator 4 op q m
      → join_at inner 3 left op m ≡ Ok x → Found context (suc room) 4 r x
  unfolding join_at
  compare-found r q left op x f few m o e =
      let y = bind_ok (inner 3 m) _ e in
      let g = sound 3 m y.0 y.1 in
      subst (Found context (suc room) 4 r) (ok_once _ x y.2)
      (record {
        words = f.words ++ o.word ∷ g.words;
        is = compared op o.word f.words g.words left y.0.0 f.is o.named o.binds g.is;
        reads = f.reads ▷ o.reads ▷ g.reads;
        deep = let d = g.deep in omega arith;
      })

  looser : (level : ℕ) (r : Reading) (x : Part × Reading) → Found context (suc room) level r x → Found context (suc room) (suc level) r x
  looser level r x f = record { words = f.words; is = tighter level f.words x.0 f.is; reads = f.reads; deep = f.deep }

  -- what was read so far, where nothing was taken
  kept : (level : ℕ) (r q m : Reading) (left : Part) (x : Part × Reading) → Found context (suc room) level r (left, q) → m ≡ q → (let all : Result (Part × Reading) PseudoFault = Ok (left, m) in all ≡ Ok x) → Found context (suc room) level r x
  kept level r q m left x f same e = subst (Found context (suc room) level r) (ap (λ (n : Reading). (left, n)) (sym same) ∙ ok_once _ x e) f

  one-found : (level : ℕ) (left : Part) (op : BinaryOp) (m : Reading) (x : Part × Reading) → joined_one whole inner room level left op m ≡ Ok x → (left.depth ≤ room) × (join_at inner level left op m ≡ Ok x)
  one-found level left op m x e =
      let t = tested_ok (nat_le left.depth room) (join_at inner level left op m) (NestingTooDeep whole) e in
      (leb-true left.depth room t.0, t.1)

  joined-found : (level joins : ℕ) (r q : Reading) (left : Part) (x : Part × Reading) → (suc level ≡ 4 → ⊥) → Found context (suc room) (suc level) r (left, q) → joined_at whole inner room level joins left q ≡ Ok x → Found context (suc room) (suc level) r x
  unfolding joined_at
  joined-found level zero r q left x other f e =
      let o = bind_ok (operator_at (suc level) q) _ e in
      elim (operator-found (suc level) q o.0 o.1) [
        | inl some ↦ (let bad = rw some.1 at o.2 in cc)
        | inr none ↦ kept (suc level) r q o.0.1 left x f none.1 (rw none.0 at o.2)
      ]
  joined-found level (suc joins) r q left x other f e =
      let o = bind_ok (operator_at (suc level) q) _ e in
      elim (operator-found (suc level) q o.0 o.1) [
        | inl some ↦
            let y = bind_ok (joined_one whole inner room level left some.0 o.0.1) _ (rw some.1 at o.2) in
            let j = one-found level left some.0 o.0.1 y.0 y.1 in
            joined-found level joins r y.0.1 y.0.0 x other (join-found level r q left some.0 y.0 other f j.0 o.0.1 some.2 j.1) y.2
        | inr none ↦ kept (suc level) r q o.0.1 left x f none.1 (rw none.0 at o.2)
      ]

  compared-found : (r q : Reading) (left : Part) (x : Part × Reading) → Found context (suc room) 3 r (left, q) → compared_at whole inner room left q ≡ Ok x → Found context (suc room) 4 r x
  unfolding compared_at
  compared-found r q left x f e =
      let o = bind_ok (operator_at 4 q) _ e in
      elim (operator-found 4 q o.0 o.1) [
        | inl some ↦
            let j = one-found 3 left some.0 o.0.1 x (rw some.1 at o.2) in
            compare-found r q left some.0 x f j.0 o.0.1 some.2 j.1
        | inr none ↦ kept 4 r q o.0.1 left x (looser 3 r (left, q) f) none.1 (rw none.0 at o.2)
      ]

  choice-found : (r q m : Reading) (condition : Part) (x : Part × Reading) → Found context (suc room) 7 r (condition, q) → condition.depth ≤ room → FoundWord (codes "?") q m → choice_at inner condition m ≡ Ok x → Found context (suc room) 8 r x
  unfolding choice_at
  choice-found r q m condition x f few mark e =
      let y = bind_ok (inner 8 m) _ e in
      let c = bind_ok (expect_at (codes ":") y.0.1) _ y.2 in
      let z = bind_ok (inner 8 c.0.1) _ c.2 in
      let g = sound 8 m y.0 y.1 in
      let colon = expect-found 58 [] y.0.1 c.0 c.1 in
      let h = sound 8 c.0.1 z.0 z.1 in
      subst (Found context (suc room) 8 r) (ok_once _ x z.2)
      (record {
        words = f.words ++ mark.word ∷ (g.words ++ colon.word ∷ h.words);
        is = chosen mark.word colon.word f.words g.words h.words condition y.0.0 z.0.0 f.is mark.is g.is colon.is h.is;
        reads = f.reads ▷ mark.reads ▷ g.reads ▷ colon.reads ▷ h.reads;
        deep = let d = g.deep in let d2 = h.deep in omega arith;
      })

  chosen-found : (r q : Reading) (condition : Part) (x : Part × Reading) → Found context (suc room) 7 r (condition, q) → chosen_at whole inner room condition q ≡ Ok x → Found context (suc room) 8 r x
  unfolding chosen_at
  chosen-found r q condition x f e =
      let o = bind_ok (accept_at (codes "?") q) _ e in
      elim (accept-found 63 [] q o.0 o.1) [
        | inl mark ↦
            let t = tested_ok (nat_le condition.depth room) (choice_at inner condition o.0.1) (NestingTooDeep whole) (rw mark.0 at o.2) in
            choice-found r q o.0.1 condition x f (leb-true condition.depth room t.0) mark.1 t.1
        | inr none ↦ kept 8 r q o.0.1 condition x (looser 7 r (condition, q) f) none.1 (rw none.0 at o.2)
      ]

  behind-found : (level : ℕ) (r q : Reading) (left : Part) (x : Part × Reading) → Found context (suc room) level r (left, q) → behind_at whole inner room level left q ≡ Ok x → Found context (suc room) (suc level) r x
  behind-found level r q left x f e =
      elim (either_way (nat_eq level 7) _ _ e) [
        | inl seven ↦
            let is = eqb-true level 7 seven.0 in
            subst (λ (l : ℕ). Found context (suc room) (suc l) r x) (sym is) (chosen-found r q left x (subst (λ (l : ℕ). Found context (suc room) l r (left, q)) is f) seven.1)
        | inr other ↦ elim (either_way (nat_eq level 3) _ _ other.1) [
          | inl three ↦
              let is = eqb-true level 3 three.0 in
              subst (λ (l : ℕ). Found context (suc room) (suc l) r x) (sym is) (compared-found r q left x (subst (λ (l : ℕ). Found context (suc room) l r (left, q)) is f) three.1)
          | inr more ↦ joined-found level room r q left x (not_three level more.0) (looser level r (left, q) f) more.1
        ]
      ]
    where
      not_three : (l : ℕ) → nat_eq l 3 ≡ false → suc l ≡ 4 → ⊥
      not_three l n s =
          let is : l ≡ 3 = omega arith in
          let bad : true ≡ false = subst (λ (k : ℕ). nat_eq k 3 ≡ false) is n in cc

  level-found : (level : ℕ) (r : Reading) (x : Part × Reading) → level_at context whole inner room level r ≡ Ok x → Found context (suc room) level r x
  unfolding level_at
  level-found zero r x e = operand-found context room inner sound r x e
  level-found (suc level) r x e =
      let y = bind_ok (level_at context whole inner room level r) _ e in
      behind-found level r y.0.1 y.0.0 x (level-found level r y.0 y.1) y.2

pub expression-found : (context : Context) (whole : Place) (room : ℕ) → Sound context room (expression_at context whole room)
unfolding expression_at
expression-found context whole zero level r x e = let w = bind_ok (next_at r) _ e in cc (w.2)
expression-found context whole (suc room) level r x e = level-found context whole room (expression_at context whole room) (expression-found context whole room) level r x e

pub whole-found : (context : Context) (r : Reading) (x : Part × Reading) → whole_at context r ≡ Ok x → Found context 64 8 r x
whole-found context r x e = let w = bind_ok (next_at r) _ e in expression-found context w.0.0.place 64 8 r x w.2

pub own_index-found : (context : Context) → SoundIndex context 64 (own_index_at context)
own_index-found context r x e = let w = bind_ok (next_at r) _ e in expression-found context w.0.0.place 64 7 r x w.2
