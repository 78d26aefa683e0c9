-- The units of a kernel take earlier values.
use Rattle.std.proofs.Common.{◌≡◌, ℕ, suc, ◌+◌, ◌≤◌, List, [], ◌∷◌, ◌++◌, length, subst, arith}
use Rattle.std.specs.Prelude.{slice_index_or}
use Rattle.std.proofs.lemmas.List.{length-append}
use Rattle.vg_kernel.specs.declared.parameter.KParam.{KParam}
use Rattle.vg_kernel.specs.declared.value_type.ValueType.{ValueType}
use Rattle.vg_kernel.specs.Tree.{Expression, argument, assigned, literal, load, two, shift, resize, compare, select, Statement, assign, store, gives}
use Rattle.vg_kernel.specs.WellFormed.{AreStatements, integer_widths, IsExpression}
use Rattle.vg_shapes.specs.declared.ssa_unit.Operator.TheVariants.{Two, Shift, Resize, Compare, Select}
use Rattle.vg_shapes.specs.declared.ssa_unit.SsaUnit.{SsaUnit}
use Rattle.vg_shapes.specs.declared.ssa_unit.SsaUnit.TheVariants.{Load, Store, Operation}
use Rattle.vg_shapes.specs.declared.wanted.Wanted.{Wanted}
use Rattle.vg_shapes.specs.declared.wanted.Wanted.TheVariants.{Value, Nothing}
use Rattle.vg_shapes.specs.Sound.{IsEarlier, TakeEarlier, TakesEarlier}
use Rattle.vg_ssa.specs.Laws.{UnitsTakeEarlier}
use Rattle.vg_ssa.specs.Numbering.{first_unit, Numbered, numbered, operands, units_from}
use Rattle.vg_ssa.proofs.Running.{earlier-stays, early-more, get-below}

take-append : (n : ℕ) (us vs : List SsaUnit) → TakeEarlier n us → TakeEarlier (n + length us) vs → TakeEarlier n (us ++ vs)
take-append n [] vs h g = subst (λ k. TakeEarlier k vs) (let e : n + 0 ≡ n = omega arith in e) g
take-append n (u ∷ us) vs h g = (h.0, take-append (n + 1) us vs h.1 (subst (λ k. TakeEarlier k vs) (let e : n + suc (length us) ≡ n + 1 + length us = omega arith in e) g))

-- units from this number on take earlier values, and what stands for their value is earlier than what follows them
record Takes (n : ℕ) (p : Numbered) : Type 0 where
  units : TakeEarlier n p.units
  value : IsEarlier (n + length p.units) p.value

-- one unit after others
takes-one : (n : ℕ) (us : List SsaUnit) (u : SsaUnit) → TakeEarlier n us → TakesEarlier (n + length us) u → Takes n (record { units = us ++ u ∷ []; value = Value (n + length us) })
takes-one n us u h g = record {
  units = take-append n us (u ∷ []) h (g, tt);
  value = (let long = length-append us (u ∷ []) in omega arith);
}

takes : (params : List KParam) (given : List ValueType) (names : List Wanted) (n : ℕ) (e : Expression) → IsExpression params given e → length (integer_widths params) ≤ n → ((k : ℕ) → IsEarlier n (slice_index_or names k Nothing)) → Takes n (numbered n names e)
takes params given names n (argument k w) good low early = record { units = tt; value = (let below = get-below (integer_widths params) k w good in omega arith) }
takes params given names n (assigned k t) good low early = record { units = tt; value = earlier-stays n (n + 0) (slice_index_or names k Nothing) (omega arith) (early k) }
takes params given names n (literal w v) good low early = record { units = tt; value = tt }
takes params given names n (load w a) good low early = takes-one n [] (Load a w) tt tt
takes params given names n (two op w x y) good low early =
    let p = numbered n names x in
    let q = numbered (n + length p.units) names y in
    let first = takes params given names n x good.2 low early in
    let second = takes params given names (n + length p.units) y good.3 (omega arith) (λ k. earlier-stays n (n + length p.units) (slice_index_or names k Nothing) (omega arith) (early k)) in
    let both = length-append p.units q.units in
    takes-one n (p.units ++ q.units) (Operation (Two op) w 0 (operands p.value q.value Nothing)) (take-append n p.units q.units first.units second.units)
    (earlier-stays (n + length p.units) (n + length (p.units ++ q.units)) p.value (omega arith) first.value, earlier-stays (n + length p.units + length q.units) (n + length (p.units ++ q.units)) q.value (omega arith) second.value, tt)
takes params given names n (shift op w k x) good low early =
    let p = numbered n names x in
    let first = takes params given names n x good.2 low early in
    takes-one n p.units (Operation (Shift op) w k (operands p.value Nothing Nothing)) first.units (first.value, tt, tt)
takes params given names n (resize op w v x) good low early =
    let p = numbered n names x in
    let first = takes params given names n x good.2 low early in
    takes-one n p.units (Operation (Resize op v) w 0 (operands p.value Nothing Nothing)) first.units (first.value, tt, tt)
takes params given names n (compare op w x y) good low early =
    let p = numbered n names x in
    let q = numbered (n + length p.units) names y in
    let first = takes params given names n x good.2 low early in
    let second = takes params given names (n + length p.units) y good.3 (omega arith) (λ k. earlier-stays n (n + length p.units) (slice_index_or names k Nothing) (omega arith) (early k)) in
    let both = length-append p.units q.units in
    takes-one n (p.units ++ q.units) (Operation (Compare op) w 0 (operands p.value q.value Nothing)) (take-append n p.units q.units first.units second.units)
    (earlier-stays (n + length p.units) (n + length (p.units ++ q.units)) p.value (omega arith) first.value, earlier-stays (n + length p.units + length q.units) (n + length (p.units ++ q.units)) q.value (omega arith) second.value, tt)
takes params given names n (select w c x y) good low early =
    let o = numbered n names c in
    let p = numbered (n + length o.units) names x in
    let front = o.units ++ p.units in
    let q = numbered (n + length front) names y in
    let all = n + length (front ++ q.units) in
    let one = length-append o.units p.units in
    let two = length-append front q.units in
    let first = takes params given names n c good.3 low early in
    let second = takes params given names (n + length o.units) x good.4 (omega arith) (λ k. earlier-stays n (n + length o.units) (slice_index_or names k Nothing) (omega arith) (early k)) in
    let third = takes params given names (n + length front) y good.5 (omega arith) (λ k. earlier-stays n (n + length front) (slice_index_or names k Nothing) (omega arith) (early k)) in
    takes-one n (front ++ q.units) (Operation Select w 0 (operands o.value p.value q.value))
    (take-append n front q.units (take-append n o.units p.units first.units second.units) third.units) (
      earlier-stays (n + length o.units) all o.value (omega arith) first.value,
      earlier-stays (n + length o.units + length p.units) all p.value (omega arith) second.value,
      earlier-stays (n + length front + length q.units) all q.value (omega arith) third.value,
    )

statements-take : (params : List KParam) (given : List ValueType) (names : List Wanted) (n : ℕ) (ss : List Statement) → AreStatements params given ss → length (integer_widths params) ≤ n → ((k : ℕ) → IsEarlier n (slice_index_or names k Nothing)) → TakeEarlier n (units_from n names ss)
statements-take params given names n [] good low early = tt
statements-take params given names n (assign e ∷ ss) good low early =
    let p = numbered n names e in
    let m = n + length p.units in
    let first = takes params given names n e good.0.0 low early in
    take-append n p.units (units_from m (names ++ p.value ∷ []) ss) first.units
    (statements-take params (given ++ gives (assign e)) (names ++ p.value ∷ []) m ss good.1 (omega arith) (early-more m names p.value (λ k. earlier-stays n m (slice_index_or names k Nothing) (omega arith) (early k)) first.value))
statements-take params given names n (store w a e ∷ ss) good low early =
    let p = numbered n names e in
    let m = n + length p.units + 1 in
    let first = takes params given names n e good.0.1 low early in
    let long = length-append p.units (Store a w p.value ∷ []) in
    take-append n (p.units ++ Store a w p.value ∷ []) (units_from m names ss)
    (take-append n p.units (Store a w p.value ∷ []) first.units (first.value, tt))
    (subst (λ k. TakeEarlier k (units_from m names ss)) (let e : m ≡ n + length (p.units ++ Store a w p.value ∷ []) = omega arith in e)
    (statements-take params (given ++ gives (store w a e)) names m ss good.1 (omega arith) (λ k. earlier-stays n m (slice_index_or names k Nothing) (omega arith) (early k))))

pub units-take_earlier : UnitsTakeEarlier
units-take_earlier k good = statements-take k.params [] [] (first_unit k) k.statements good.each (omega arith) (λ j. tt)
