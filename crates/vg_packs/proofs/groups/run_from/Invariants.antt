use Rattle.std.proofs.Common.{◌≡◌, ◌++◌, Some}
use Rattle.vg_packs.specs.Placed.{run_from as runs}
use Rattle.vg_packs.proofs.groups.run_from.Given as goal

abbrev pub invariant-places : goal.invariant-places
invariant-places l = l.units.items ++ runs l.links l.left l.at ≡ runs l.links l.count (Some l.fn.first)

abbrev pub decreases-places : goal.decreases-places
decreases-places l = l.left
