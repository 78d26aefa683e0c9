use Rattle.std.proofs.Common.{take}
use Rattle.std.specs.Prelude.{nat_eq}
use Rattle.std.specs.List.{list_any}
use Rattle.vg_packs.specs.Marks.{AddsMarks}
use Rattle.vg_packs.proofs.marks.mark_units.Given as goal

abbrev pub invariant-units : goal.invariant-units
invariant-units l = AddsMarks (λ v. list_any (nat_eq v) (take l.unit-index l.units)) l.fn.marks l.marks
