-- The cut term of an operation is its canonical form over the names of its operands.
use Rattle.std.proofs.Common.{◌≡◌, ℕ, zero, suc, ◌+◌, ◌-◌, ◌<◌, Bool, true, false, List, [], ◌∷◌, ◌++◌, length, map, Option, Some, None, refl, sym, ap, subst, ◌∙◌, arith, append_assoc}
use Rattle.std.specs.Prelude.{◌&&◌, ◌||◌, nat_eq, nat_lt, slice_get, slice_index_or, unwrap_or, if◌then◌else◌}
use Rattle.std.specs.Option.{option_map}
use Rattle.std.proofs.lemmas.Bool.{cond-false, cond-true, ltb-false}
use Rattle.std.proofs.lemmas.List.{length_push}
use Rattle.std.proofs.lemmas.Option.{none-some}
use Rattle.vg_base.specs.Trap.{◌>>=◌}
use Rattle.vg_base.specs.declared.width.Width.{Width}
use Rattle.vg_base.specs.declared.width.Width.TheVariants.{W8, W16, W32, W64}
use Rattle.vg_base.specs.Width.{bits_of}
use Rattle.vg_shapes.specs.declared.ssa.Ssa.{Ssa}
use Rattle.vg_shapes.specs.declared.ssa_unit.Operands.{Operands}
use Rattle.vg_shapes.specs.declared.ssa_unit.Operator.{Operator}
use Rattle.vg_shapes.specs.declared.ssa_unit.Operator.TheVariants.{Two, Shift, Resize, Compare, Select}
use Rattle.vg_shapes.specs.declared.ssa_unit.SsaUnit.{SsaUnit}
use Rattle.vg_shapes.specs.declared.ssa_unit.SsaUnit.TheVariants.{Load, Store, Operation}
use Rattle.vg_shapes.specs.declared.wanted.Wanted.{Wanted}
use Rattle.vg_shapes.specs.declared.wanted.Wanted.TheVariants.{Value, Constant, Nothing}
use Rattle.vg_shapes.specs.Sound.{cut_at, cut_key, cuts_of, kind_bits, name_of, pointers, unit_bits, unit_name}
use Rattle.vg_shapes.specs.Units.{arguments, integers, unit_at}
use Rattle.vg_ssa.specs.declared.value_terms.Depth.{Depth}
use Rattle.vg_ssa.specs.declared.value_terms.Depth.TheVariants.{Cut}
use Rattle.vg_ssa.specs.Cuts.{AreOverNames, named}
use Rattle.vg_ssa.specs.OfUnits.{CanBeNumbered, HaveCuts, widths_of}
use Rattle.vg_canon.specs.Canonical.{canonical}
use Rattle.vg_ssa.specs.ValueTerm.{argument_terms, cut_term, no_term, operation_term, over_operands, terms_behind, unit_term}
use Rattle.vg_ssa.proofs.Meaning.{bound}
use Rattle.vg_ssa.proofs.Soundness.{all_terms, all_widths, can-typed, over-terms, params-first, some-below, Typed, value-at, widths}
use Rattle.vg_ssa.proofs.Terms.{Stand, stand-more, terms_after, terms-behind}
use Rattle.vg_ssa.proofs.Typing.{behind, BitIn, NumberIn, OperationIn, stays, UnitIn, UnitsIn}
use Rattle.vg_terms.specs.Term.{Tree, leaf, width_of}

-- ---- lists

at-seam : (l r : List Tree) (x : Tree) → slice_get (l ++ x ∷ r) (length l) ≡ Some x
at-seam [] r x = refl
at-seam (y ∷ l) r x = at-seam l r x

before-seam : (l r : List Tree) (v : ℕ) → v < length l → slice_get (l ++ r) v ≡ Some (slice_index_or l v no_term)
before-seam [] r v h = absurd (omega arith)
before-seam (y ∷ l) r zero h = refl
before-seam (y ∷ l) r (suc v) h = before-seam l r v (omega arith)

-- ---- a unit among others: the terms before it, and what it takes of them

record At (d : Depth) (count first : ℕ) (bits : List (Option ℕ)) (terms : List Tree) (us : List SsaUnit) (j : ℕ) (u : SsaUnit) : Type 0 where
  front : List Tree
  wider : List (Option ℕ)
  rest : List Tree
  split : terms_behind d first terms us ≡ front ++ unit_term d first front u ∷ rest
  long : length front ≡ length terms + j
  takes : UnitIn count wider u
  stand : Stand wider front
  more : (v w : ℕ) → slice_index_or wider v None ≡ Some w → slice_index_or (behind bits us) v None ≡ Some w

unit-among : (d : Depth) (count first : ℕ) (bits : List (Option ℕ)) (terms : List Tree) (us : List SsaUnit) (j : ℕ) (u : SsaUnit) → Stand bits terms → UnitsIn count bits us → slice_get us j ≡ Some u → At d count first bits terms us j u
unit-among d count first bits terms [] j u s h e = absurd (none-some u e)
unit-among d count first bits terms (x ∷ us) zero u s h e =
    let same : x ≡ u = cc in
    subst (At d count first bits terms (x ∷ us) 0) same (record {
      front = terms;
      wider = bits;
      rest = terms_after d first (terms ++ unit_term d first terms x ∷ []) us;
      split = terms-behind d first terms (x ∷ us);
      long = omega arith;
      takes = h.0;
      stand = s;
      more = λ v w f. stays bits (map unit_bits (x ∷ us)) v w f;
    })
unit-among d count first bits terms (x ∷ us) (suc j) u s h e =
    let own = unit_term d first terms x in
    let a = unit-among d count first (bits ++ unit_bits x ∷ []) (terms ++ own ∷ []) us j u (stand-more d count first bits terms x s h.0) h.1 e in
    record {
      front = a.front;
      wider = a.wider;
      rest = a.rest;
      split = a.split;
      long = (let long = a.long in let one = length_push terms own in omega arith);
      takes = a.takes;
      stand = a.stand;
      more = λ v w f. sym (ap (λ l. slice_index_or l v None) (append_assoc bits (unit_bits x ∷ []) (map unit_bits us))) ∙ a.more v w f;
    }

-- ---- the operands of an operation

-- a value has a width
abbrev Known : List (Option ℕ) → Wanted → Type 0
Known bits (Value v) = (w : ℕ) × (slice_index_or bits v None ≡ Some w)
Known bits (Constant w n) = Unit {0}
Known bits Nothing = Unit {0}

number-known : (bits : List (Option ℕ)) (w : Width) (x : Wanted) → NumberIn bits w x → Known bits x
number-known bits w (Value v) h = (bits_of w, h)
number-known bits w (Constant m n) h = tt
number-known bits w Nothing h = tt

bit-known : (bits : List (Option ℕ)) (x : Wanted) → BitIn bits x → Known bits x
bit-known bits (Value v) h = (1, h)
bit-known bits (Constant m n) h = tt
bit-known bits Nothing h = tt

none-known : (bits : List (Option ℕ)) (x : Wanted) → x ≡ Nothing → Known bits x
none-known bits x e = subst (Known bits) (sym e) tt

all-known : (bits : List (Option ℕ)) (op : Operator) (w : Width) (k : ℕ) (xs : Operands) → OperationIn bits op w k xs → Known bits xs.first × Known bits xs.second × Known bits xs.third
all-known bits (Two op) w k xs h = (number-known bits w xs.first h.1, number-known bits w xs.second h.2, none-known bits xs.third h.3)
all-known bits (Shift op) w k xs h = (number-known bits w xs.first h.1, none-known bits xs.second h.2, none-known bits xs.third h.3)
all-known bits (Resize op v) w k xs h = (number-known bits v xs.first h.2, none-known bits xs.second h.3, none-known bits xs.third h.4)
all-known bits (Compare op) w k xs h = (number-known bits w xs.first h.1, number-known bits w xs.second h.2, none-known bits xs.third h.3)
all-known bits Select w k xs h = (bit-known bits xs.first h.1, number-known bits w xs.second h.2, number-known bits w xs.third h.3)

-- ---- names

wider-than-a-bit : (w : Width) → nat_eq (bits_of w) 1 ≡ false
wider-than-a-bit W8 = refl
wider-than-a-bit W16 = refl
wider-than-a-bit W32 = refl
wider-than-a-bit W64 = refl

-- the name of a value of a unit, by its cut term
unit-name-is : (v m : ℕ) (t : Tree) (u : SsaUnit) → unit_bits u ≡ Some m → width_of t ≡ m → unit_name v t u ≡ Some (if nat_eq (width_of t) 1 then t else leaf (width_of t) (cut_key v))
unit-name-is v m t (Load a w) e f =
    let same : width_of t ≡ bits_of w = f ∙ (let g : m ≡ bits_of w = cc in g) in
    ap (λ n. Some (leaf n (cut_key v))) (sym same)
    ∙ ap Some (sym (cond-false (nat_eq (width_of t) 1) t (leaf (width_of t) (cut_key v)) (ap (λ n. nat_eq n 1) same ∙ wider-than-a-bit w)))
unit-name-is v m t (Store a w x) e f = absurd (cc)
unit-name-is v m t (Operation op w k xs) e f = refl

module _ (ssa : Ssa) (terms : List Tree) (typed : Typed ssa terms) (same : cuts_of ssa ≡ all_terms Cut ssa terms) where
  -- what a value is named by is what stands for it in cut terms
  value-named : (front rest : List Tree) (v m : ℕ) → all_terms Cut ssa terms ≡ front ++ rest → v < length front → slice_index_or (all_widths ssa) v None ≡ Some m → width_of (slice_index_or front v no_term) ≡ m
      → cut_term true (arguments ssa) front (Value v) ≡ named ssa (Value v)
  value-named front rest v m split inside wide width = by (nat_lt v (arguments ssa)) refl
    where
      t : Tree
      t = slice_index_or front v no_term

      cut : cut_at ssa v ≡ Some t
      cut = ap (λ ts. slice_get ts v) (same ∙ split) ∙ before-seam front rest v inside

      by : (b : Bool) → nat_lt v (arguments ssa) ≡ b → cut_term true (arguments ssa) front (Value v) ≡ named ssa (Value v)
      by true e =
          ap (λ z. if z || (true && nat_eq (width_of t) 1) then t else leaf (width_of t) (cut_key v)) e
          ∙ sym (ap (λ o. unwrap_or (o >>= name_of ssa v) no_term) cut ∙ ap (λ o. unwrap_or o no_term) (cond-true (nat_lt v (arguments ssa)) (Some t) (unit_at ssa v >>= unit_name v t) e))
      by false e =
          let here : (unit_at ssa v >>= unit_bits) ≡ Some m =
          sym (cond-false (nat_lt v (arguments ssa)) (option_map (λ p. kind_bits p.kind) (slice_get (integers ssa) v)) (unit_at ssa v >>= unit_bits) e)
          ∙ value-at (integers ssa) ssa.units v ∙ wide in
          let b = bound (unit_at ssa v) unit_bits m here in
          ap (λ z. if z || (true && nat_eq (width_of t) 1) then t else leaf (width_of t) (cut_key v)) e
          ∙ sym (ap (λ o. unwrap_or (o >>= name_of ssa v) no_term) cut
          ∙ ap (λ o. unwrap_or o no_term) (cond-false (nat_lt v (arguments ssa)) (Some t) (unit_at ssa v >>= unit_name v t) e ∙ ap (λ o. o >>= unit_name v t) b.1 ∙ unit-name-is v m t b.0 b.2 width))

  operand-named : (front rest : List Tree) (wider : List (Option ℕ)) (x : Wanted) → all_terms Cut ssa terms ≡ front ++ rest → Stand wider front
      → ((v w : ℕ) → slice_index_or wider v None ≡ Some w → slice_index_or (all_widths ssa) v None ≡ Some w) → Known wider x → cut_term true (arguments ssa) front x ≡ named ssa x
  operand-named front rest wider (Value v) split stand more known =
      let inside : v < length front = (let l = some-below wider v known.0 known.1 in let long = stand.long in omega arith) in
      value-named front rest v known.0 split inside (more v known.0 known.1) (stand.each v known.0 known.1).1.width
  operand-named front rest wider (Constant w n) split stand more known = refl
  operand-named front rest wider Nothing split stand more known = refl

  unit-named : (v : ℕ) (op : Operator) (w : Width) (k : ℕ) (xs : Operands) → length terms ≡ arguments ssa → nat_lt v (arguments ssa) ≡ false → slice_get ssa.units (v - arguments ssa) ≡ Some (Operation op w k xs)
      → cut_at ssa v ≡ Some (over_operands (named ssa) op (bits_of w) k xs)
  unit-named v op w k xs first past at =
      let a = unit-among Cut (length (pointers ssa)) (arguments ssa) (widths (integers ssa)) terms ssa.units (v - arguments ssa) (Operation op w k xs) typed.stand typed.units at in
      let own = unit_term Cut (arguments ssa) a.front (Operation op w k xs) in
      let here : length a.front ≡ v = (let low = ltb-false v (arguments ssa) past in let long = a.long in omega arith) in
      let known = all-known a.wider op w k xs a.takes in
      let is : (x : Wanted) → Known a.wider x → cut_term true (arguments ssa) a.front x ≡ named ssa x = λ x h. operand-named a.front (own ∷ a.rest) a.wider x a.split a.stand a.more h in
      ap (λ ts. slice_get ts v) (same ∙ a.split) ∙ ap (slice_get (a.front ++ own ∷ a.rest)) (sym here) ∙ at-seam a.front a.rest own
      ∙ ap Some (λ i. canonical (operation_term op (bits_of w) k (is xs.first known.0 i) (is xs.second known.1 i) (is xs.third known.2 i)))

over-names : (ssa : Ssa) (terms : List Tree) → Typed ssa terms → length terms ≡ arguments ssa → cuts_of ssa ≡ all_terms Cut ssa terms → AreOverNames ssa
over-names ssa terms typed first same v op w k xs e = by (nat_lt v (arguments ssa)) refl
  where
    by : (b : Bool) → nat_lt v (arguments ssa) ≡ b → cut_at ssa v ≡ Some (over_operands (named ssa) op (bits_of w) k xs)
    by true f = absurd (none-some (Operation op w k xs) (sym (cond-true (nat_lt v (arguments ssa)) None (slice_get ssa.units (v - arguments ssa)) f) ∙ e))
    by false f = unit-named ssa terms typed same v op w k xs first f (sym (cond-false (nat_lt v (arguments ssa)) None (slice_get ssa.units (v - arguments ssa)) f) ∙ e)

pub numbered-over_names : (ssa : Ssa) → CanBeNumbered ssa → HaveCuts ssa.params ssa.units ssa → AreOverNames ssa
numbered-over_names ssa h cuts = over-names ssa (argument_terms 0 (widths_of ssa.params)) (can-typed ssa h) (params-first ssa) (cuts ∙ over-terms Cut ssa)
