-- What rewritten units need so that they can be numbered.
use Rattle.std.specs.Prelude.{◌≡◌, List, true}
use Rattle.std.specs.List.{AllByRecursion}
use Rattle.vg_rewrite.specs.Rewritten.{are_few, over}
use Rattle.vg_shapes.specs.declared.ssa.Ssa.{Ssa}
use Rattle.vg_shapes.specs.declared.ssa_unit.SsaUnit.{SsaUnit}
use Rattle.vg_shapes.specs.Sound.{IsUnit, TakeEarlier}
use Rattle.vg_shapes.specs.Units.{arguments}
use Rattle.vg_ssa.specs.OfUnits.{CanBeNumbered}

-- where they are few enough, these units can be numbered over the parameters of numbered values
abbrev pub CanBeRenumbered : Ssa → List SsaUnit → Type 0
CanBeRenumbered ssa us = are_few us ≡ true → CanBeNumbered (over ssa us)

-- Units take earlier values of the widths that they want. Terms and numbers of units count for nothing.
pub record AreTyped (ssa : Ssa) : Type 0 where
  pub units : AllByRecursion (IsUnit ssa) ssa.units
  pub earlier : TakeEarlier (arguments ssa) ssa.units
