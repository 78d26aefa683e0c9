-- The units that are turned, by the events of a kernel and the lines that have them.
use Rattle.std.proofs.Common.{◌≡◌, ℕ, zero, suc, ◌+◌, ◌-◌, ◌<◌, ◌≤◌, ◌^◌, Bool, true, false, List, [], ◌∷◌, length, map, take, Option, Some, None, refl, sym, ap, subst, ◌∙◌, arith}
use Rattle.std.specs.Prelude.{filter, not, slice_get, slice_index, if◌then◌else◌}
use Rattle.std.specs.List.{AllByRecursion, cons_option, filter_map, find, list_any}
use Rattle.std.specs.Option.{option_map}
use Rattle.std.proofs.lemmas.List.{length-map, take_all}
use Rattle.vg_base.specs.Trap.{◌>>=◌}
use Rattle.vg_shapes.specs.declared.access.Access.{Access}
use Rattle.vg_shapes.specs.declared.ssa.Ssa.{Ssa}
use Rattle.vg_shapes.specs.declared.ssa.SsaParam.{SsaParam}
use Rattle.vg_shapes.specs.declared.ssa.SsaParamKind.{SsaParamKind}
use Rattle.vg_shapes.specs.declared.ssa.SsaParamKind.TheVariants.{Pointer, Integer}
use Rattle.vg_shapes.specs.declared.ssa_unit.SsaUnit.{SsaUnit}
use Rattle.vg_shapes.specs.declared.ssa_unit.SsaUnit.TheVariants.{Load, Store, Operation}
use Rattle.vg_shapes.specs.Layout.{access_of, noalias_flags, noalias_of}
use Rattle.vg_shapes.specs.Order.{numbers_from}
use Rattle.vg_shapes.specs.Sound.{IsSound, IsUnit, is_store, pointers}
use Rattle.vg_shapes.specs.Units.{arguments, integers_of, is_integer}
use Rattle.vg_events.specs.Events.{kernel_labels, Label, label_at, labels}
use Rattle.vg_events.specs.Orders.{line_of}
use Rattle.vg_events.specs.UnitOrder.{is_out_of_order, unit_events}
use Rattle.vg_events.proofs.Owners.{owned, unit_accesses}
use Rattle.vg_known.specs.Difference.{order, turned_units, unit_numbers}
use Rattle.vg_paired.specs.declared.spans.Spans.{Spans}
use Rattle.vg_paired.specs.ByteLabels.{label_of}
use Rattle.vg_paired.specs.Rows.{is_early}
use Rattle.vg_paired.specs.Sweeps.{AreLinesFrom, ArePointers, AreRising, AreSpans, between, has_early, is_turned_unit, least_turned}
use Rattle.vg_paired.proofs.Lining.{from-zero}
use Rattle.vg_paired.proofs.Meeting.{events-at, labels-most, labels-rise, out-is}
use Rattle.vg_paired.proofs.Turning.{first_pair, pairs-first, pairs-found, unit-some}

-- ---- the numbers of first events

pub spans-long : (xs : List (Option Access)) (s : Spans) → AreSpans xs s → length s.labels.items ≡ length (labels xs)
spans-long xs s are = sym (length-map s.labels.items label_of) ∙ ap length are.events

pub spans-rising : (xs : List (Option Access)) (s : Spans) → AreSpans xs s → AreRising s.begins.items (length s.labels.items)
spans-rising xs s are =
    let long = spans-long xs s are in
    let units = are.units in
    let end : length s.begins.items - 1 ≡ length xs = omega arith in
    record {
      some = omega arith;
      rises =
          λ k h.
          let here = are.at k (omega arith) in
          let next = are.at (k + 1) (omega arith) in
          let step : suc k ≡ k + 1 = omega arith in
          let grown = labels-rise xs k in
          let same : length (labels (take (suc k) xs)) ≡ length (labels (take (k + 1) xs)) = ap (λ n. length (labels (take n xs))) step in
          omega arith;
      inside = λ k h. let here = are.at k (omega arith) in let most = labels-most xs k in omega arith;
      last = ap (slice_index s.begins.items) end ∙ are.at (length xs) (omega arith) ∙ ap (λ ys. length (labels ys)) (take_all (length xs) xs (omega arith)) ∙ sym long;
    }

-- ---- pointers

flag-more : (k : SsaParamKind) (flags : List Bool) (p : SsaParam) (ps : List SsaParam) → length flags ≡ length ps →
    length (cons_option (noalias_of k) flags) ≡ length (if not (is_integer k) then p ∷ ps else ps)
flag-more (Pointer b) flags p ps h = ap suc h
flag-more (Integer w) flags p ps h = h

flags-long : (ps : List SsaParam) → length (filter_map (λ p. noalias_of p.kind) ps) ≡ length (filter (λ p. not (is_integer p.kind)) ps)
flags-long [] = refl
flags-long (p ∷ ps) = flag-more p.kind (filter_map (λ q. noalias_of q.kind) ps) p (filter (λ q. not (is_integer q.kind)) ps) (flags-long ps)

option-more : (o : Option Bool) (flags : List Bool) → length (cons_option o flags) ≤ length flags + 1
option-more None flags = omega arith
option-more (Some b) flags = omega arith

flags-few : (ps : List SsaParam) → length (filter_map (λ p. noalias_of p.kind) ps) ≤ length ps
flags-few [] = omega arith
flags-few (p ∷ ps) = omega (arith, flags-few ps, option-more (noalias_of p.kind) (filter_map (λ q. noalias_of q.kind) ps))

integer-more : (k : SsaParamKind) (p : SsaParam) (ps : List SsaParam) → length (if is_integer k then p ∷ ps else ps) ≤ length ps + 1
integer-more (Pointer b) p ps = omega arith
integer-more (Integer w) p ps = omega arith

integers-few : (ps : List SsaParam) → length (integers_of ps) ≤ length ps
integers-few [] = omega arith
integers-few (p ∷ ps) = omega (arith, integers-few ps, integer-more p.kind p (integers_of ps))

abbrev pointer_of : Option (Option Access) → ℕ
pointer_of None = 0
pointer_of (Some None) = 0
pointer_of (Some (Some x)) = x.address.pointer

access-inside : (ssa : Ssa) (us : List SsaUnit) → AllByRecursion (IsUnit ssa) us → (k : ℕ) (x : Access) → slice_get (map access_of us) k ≡ Some (Some x) → x.address.pointer < length (pointers ssa)
access-inside ssa [] all k x e = absurd (cc)
access-inside ssa (Load a w ∷ us) all zero x e = let same : a.pointer ≡ x.address.pointer = ap pointer_of e in let small = all.0.pointer in omega arith
access-inside ssa (Store a w v ∷ us) all zero x e = let same : a.pointer ≡ x.address.pointer = ap pointer_of e in let small = all.0.0.pointer in omega arith
access-inside ssa (Operation op w k xs ∷ us) all zero x e = absurd (cc)
access-inside ssa (u ∷ us) all (suc k) x e = access-inside ssa us all.1 k x e

pub kernel-pointers : (ssa : Ssa) → IsSound ssa → ArePointers (length (noalias_flags ssa)) (kernel_labels ssa)
kernel-pointers ssa sound y h =
    let found = owned ssa y h in
    let at : (label_at (kernel_labels ssa) y).address.pointer ≡ found.1.access.address.pointer = ap (λ (l : Label). l.address.pointer) found.1.label in
    let small = access-inside ssa ssa.units sound.units (found.0 - arguments ssa) found.1.access found.1.place in
    let long : length (noalias_flags ssa) ≡ length (pointers ssa) = flags-long ssa.params in
    omega arith

pub spans-pointers : (ssa : Ssa) (flags : List Bool) (s : Spans) → IsSound ssa → flags ≡ noalias_flags ssa → AreSpans (unit_accesses ssa) s → ArePointers (length flags) (map label_of s.labels.items)
spans-pointers ssa flags s sound is are =
    subst (λ (fs : List Bool). ArePointers (length fs) (map label_of s.labels.items)) (sym is)
    (subst (ArePointers (length (noalias_flags ssa))) (sym are.events) (kernel-pointers ssa sound))

pub sound-flags : (ssa : Ssa) (flags : List Bool) → IsSound ssa → flags ≡ noalias_flags ssa → length flags ≤ 16
sound-flags ssa flags sound is = omega (arith, ap length is, flags-few ssa.params, sound.params)

pub sound-arguments : (ssa : Ssa) → IsSound ssa → arguments ssa ≤ 16
sound-arguments ssa sound = let few = integers-few ssa.params in let most = sound.params in omega arith

unit-more : (b : Bool) (u : SsaUnit) (ps qs : List SsaUnit) → length (if b then u ∷ ps else ps) + length (if not b then u ∷ qs else qs) ≡ suc (length ps + length qs)
unit-more true u ps qs = omega arith
unit-more false u ps qs = omega arith

units-parted : (us : List SsaUnit) → length (filter is_store us) + length (filter (λ u. not (is_store u)) us) ≡ length us
units-parted [] = omega arith
units-parted (u ∷ us) = unit-more (is_store u) u (filter is_store us) (filter (λ v. not (is_store v)) us) ∙ ap suc (units-parted us)

pub spans-few : (ssa : Ssa) (s : Spans) → IsSound ssa → AreSpans (unit_accesses ssa) s → length s.begins.items < 2 ^ 63
spans-few ssa s sound are =
    let parts = units-parted ssa.units in
    let stores = sound.stores in
    let uses = sound.uses in
    let units = are.units in
    let all : length (unit_accesses ssa) ≡ length ssa.units = length-map ssa.units access_of in
    let small : length s.begins.items ≤ 12289 = omega arith in
    omega arith

-- ---- units that are out of order

module _ (ssa : Ssa) (lines : List (List ℕ)) (s : Spans) (numbers : List ℕ) (are : AreSpans (unit_accesses ssa) s) (long : length numbers ≡ length (kernel_labels ssa))
    (have : AreLinesFrom lines 0 numbers) where
  abbrev flags : List Bool
  flags = noalias_flags ssa

  abbrev begins : List ℕ
  begins = s.begins.items

  line-is : (e : ℕ) → e < length (kernel_labels ssa) → slice_index numbers e ≡ line_of e lines
  line-is e h = have e (omega arith) ∙ from-zero e lines

  unit-is : (k : ℕ) → k < length (unit_accesses ssa) → unit_events ssa (arguments ssa + k) ≡ between (slice_index begins k) (slice_index begins (k + 1))
  unit-is k h =
      let step : suc k ≡ k + 1 = omega arith in
      let here = are.at k (omega arith) in
      let next = are.at (k + 1) (omega arith) in
      events-at ssa k h ∙ ap (λ n. between (length (labels (take k (unit_accesses ssa)))) (length (labels (take n (unit_accesses ssa))))) step
      ∙ (λ i. between (sym here i) (sym next i))

  pair-is : (i j : ℕ) → i < j → j < length (unit_accesses ssa) → is_out_of_order ssa lines (arguments ssa + i) (arguments ssa + j) ≡ has_early flags (kernel_labels ssa) numbers begins i j
  pair-is i j less inside =
      out-is ssa lines (slice_index numbers) line-is i j less inside
      ∙ (λ k. list_any (λ x. list_any (is_early flags (kernel_labels ssa) (slice_index numbers) x) (unit-is j inside k)) (unit-is i (omega arith) k))

  pub turned-is : least_turned (arguments ssa) (length begins - 1) (is_turned_unit flags (map label_of s.labels.items) numbers begins) (has_early flags (map label_of s.labels.items) numbers begins) ≡ turned_units ssa lines
  turned-is =
      let a = arguments ssa in
      let ls = kernel_labels ssa in
      let n = length begins - 1 in
      let units = are.units in
      let count : n ≡ length (unit_accesses ssa) = omega arith in
      let all : n ≡ length ssa.units = count ∙ length-map ssa.units access_of in
      let none : n - 0 ≡ n = omega arith in
      let zero_more : a + 0 ≡ a = omega arith in
      let rising : AreRising begins (length ls) = subst (AreRising begins) (spans-long (unit_accesses ssa) s are) (spans-rising (unit_accesses ssa) s are) in
      let out = is_out_of_order ssa lines in
      ap (λ l. least_turned a n (is_turned_unit flags l numbers begins) (has_early flags l numbers begins)) are.events
      ∙ ap (λ m. find (is_turned_unit flags ls numbers begins) (numbers_from 0 m) >>= λ i. option_map (λ j. order (a + i) (a + j)) (find (has_early flags ls numbers begins i) (between (i + 1) n))) none
      ∙ sym (pairs-found out (has_early flags ls numbers begins) (is_turned_unit flags ls numbers begins) a n
      (λ i j less inside. pair-is i j less (omega arith)) (unit-some flags ls numbers begins rising) 0 n (omega arith))
      ∙ (λ k. option_map (λ (q : ℕ × ℕ). order q.0 q.1) (first_pair out (numbers_from (zero_more k) (all k))))
      ∙ sym (ap (option_map (λ (q : ℕ × ℕ). order q.0 q.1)) (pairs-first out (unit_numbers ssa)))
