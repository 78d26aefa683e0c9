use Rattle.std.proofs.Common.{◌≡◌, take}
use Rattle.vg_pmean.specs.Extent.{total}
use Rattle.vg_pmean.proofs.frame_room.sum_of.Given as goal

abbrev pub invariant-widths : goal.invariant-widths
invariant-widths l = l.sum ≡ total (take l.width-index l.widths)
