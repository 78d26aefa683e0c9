use Rattle.std.proofs.Common.{take}
use Rattle.vg_lanes.proofs.Clashes.{Looked}
use Rattle.vg_lanes.proofs.first_cause.is_some_clash.Given as goal

abbrev pub invariant-leaves : goal.invariant-leaves
invariant-leaves l = Looked l.kept.items (take l.leaf-index l.leaves)
