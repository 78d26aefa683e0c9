use Rattle.std.proofs.Common.{take}
use Rattle.std.specs.List.{list_any}
use Rattle.vg_plans.specs.World.{is_in}
use Rattle.vg_shapes.specs.Pack.{units_of}
use Rattle.vg_packs.specs.Marks.{AddsMarks}
use Rattle.vg_packs.proofs.marks.mark_plan.Given as goal

abbrev pub invariant-packs : goal.invariant-packs
invariant-packs l = AddsMarks (λ v. list_any (λ p. is_in v (units_of p)) (take l.pack-index l.plan)) l.fn.marks l.marks
