use Rattle.std.proofs.Common.{◌≡◌, map, take}
use Rattle.std.specs.List.{list_all}
use Rattle.vg_paired.specs.ByteLabels.{label_of}
use Rattle.vg_levelled.specs.Levelled.{has_offset}
use Rattle.vg_levelled.proofs.loads.have_offsets.Given as goal

abbrev pub invariant-loads : goal.invariant-loads
invariant-loads l = l.all ≡ list_all has_offset (map label_of (take l.load-index l.loads))
