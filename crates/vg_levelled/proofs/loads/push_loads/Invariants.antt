use Rattle.std.proofs.Common.{◌≡◌, ◌++◌, map, take}
use Rattle.vg_paired.specs.ByteLabels.{label_of}
use Rattle.vg_levelled.specs.Levelled.{byte_load}
use Rattle.vg_levelled.proofs.loads.push_loads.Given as goal

abbrev pub invariant-loads : goal.invariant-loads
invariant-loads l = l.lines.items ≡ l.initial.lines.items ++ map byte_load (map label_of (take l.load-index l.loads))
