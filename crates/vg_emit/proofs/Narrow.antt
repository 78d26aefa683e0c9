-- The constants that units of a sound kernel take have at most 64 bits.
use Rattle.std.proofs.Common.{◌≡◌, ℕ, zero, suc, ◌<◌, ◌^◌, List, [], ◌∷◌, sym, subst, arith, inl, inr}
use Rattle.std.specs.Prelude.{◌-◌, nat_lt, Some, None, slice_get}
use Rattle.std.specs.List.{AllByRecursion}
use Rattle.std.proofs.lemmas.Bool.{cases_Bool, cond-true, cond-false}
use Rattle.vg_base.specs.declared.width.Width.{Width}
use Rattle.vg_base.specs.declared.width.Width.TheVariants.{W8, W16, W32, W64}
use Rattle.vg_base.specs.Width.{bits_of}
use Rattle.vg_shapes.specs.declared.ssa.Ssa.{Ssa}
use Rattle.vg_shapes.specs.declared.ssa_unit.Operands.{Operands}
use Rattle.vg_shapes.specs.declared.ssa_unit.Operator.{Operator}
use Rattle.vg_shapes.specs.declared.ssa_unit.Operator.TheVariants.{Two, Shift, Resize, Compare, Select}
use Rattle.vg_shapes.specs.declared.ssa_unit.SsaUnit.{SsaUnit}
use Rattle.vg_shapes.specs.declared.ssa_unit.SsaUnit.TheVariants.{Load, Store, Operation}
use Rattle.vg_shapes.specs.declared.wanted.Wanted.{Wanted}
use Rattle.vg_shapes.specs.declared.wanted.Wanted.TheVariants.{Value, Constant, Nothing}
use Rattle.vg_shapes.specs.Sound.{IsBit, IsNumber, IsOperation, IsSound, IsUnit}
use Rattle.vg_shapes.specs.Units.{arguments, unit_at}
use Rattle.vg_emit.specs.Views.{IsNarrow, TakesNarrow}

width-narrow : (w : Width) (k : ℕ) → k < 2 ^ bits_of w → k < 2 ^ 64
width-narrow W8 k h = omega arith
width-narrow W16 k h = omega arith
width-narrow W32 k h = omega arith
width-narrow W64 k h = h

number-narrow : (ssa : Ssa) (w : Width) (x : Wanted) → IsNumber ssa w x → IsNarrow x
number-narrow ssa w (Value v) h = tt
number-narrow ssa w (Constant m k) h = width-narrow w k (subst (λ n. k < 2 ^ n) h.0 h.1)
number-narrow ssa w Nothing h = tt

bit-narrow : (ssa : Ssa) (x : Wanted) → IsBit ssa x → IsNarrow x
bit-narrow ssa (Value v) h = tt
bit-narrow ssa (Constant m k) h = absurd h
bit-narrow ssa Nothing h = tt

none-narrow : (x : Wanted) → x ≡ Nothing → IsNarrow x
none-narrow x e = subst IsNarrow (sym e) tt

operation-narrow : (ssa : Ssa) (op : Operator) (w : Width) (k : ℕ) (xs : Operands) → IsOperation ssa op w k xs → IsNarrow xs.first × IsNarrow xs.second × IsNarrow xs.third
operation-narrow ssa (Two op) w k xs h = (number-narrow ssa w xs.first h.1, number-narrow ssa w xs.second h.2, none-narrow xs.third h.3)
operation-narrow ssa (Shift op) w k xs h = (number-narrow ssa w xs.first h.1, none-narrow xs.second h.2, none-narrow xs.third h.3)
operation-narrow ssa (Resize op v) w k xs h = (number-narrow ssa v xs.first h.2, none-narrow xs.second h.3, none-narrow xs.third h.4)
operation-narrow ssa (Compare op) w k xs h = (number-narrow ssa w xs.first h.1, number-narrow ssa w xs.second h.2, none-narrow xs.third h.3)
operation-narrow ssa Select w k xs h = (bit-narrow ssa xs.first h.1, number-narrow ssa w xs.second h.2, number-narrow ssa w xs.third h.3)

unit-narrow : (ssa : Ssa) (u : SsaUnit) → IsUnit ssa u → TakesNarrow (Some u)
unit-narrow ssa (Load a w) h = tt
unit-narrow ssa (Store a w x) h = number-narrow ssa w x h.1
unit-narrow ssa (Operation op w k xs) h = operation-narrow ssa op w k xs h

listed : (ssa : Ssa) (us : List SsaUnit) (k : ℕ) → AllByRecursion (IsUnit ssa) us → TakesNarrow (slice_get us k)
listed ssa [] k all = tt
listed ssa (u ∷ us) zero all = unit-narrow ssa u all.0
listed ssa (u ∷ us) (suc k) all = listed ssa us k all.1

pub units-narrow : (ssa : Ssa) (v : ℕ) → IsSound ssa → TakesNarrow (unit_at ssa v)
units-narrow ssa v sound = elim (cases_Bool (nat_lt v (arguments ssa))) [
  | inl t ↦ subst TakesNarrow (sym (cond-true _ None (slice_get ssa.units (v - arguments ssa)) t)) tt
  | inr f ↦ subst TakesNarrow (sym (cond-false _ None (slice_get ssa.units (v - arguments ssa)) f)) (listed ssa ssa.units (v - arguments ssa) sound.units)
]
