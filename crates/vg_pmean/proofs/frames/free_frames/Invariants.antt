use Rattle.std.proofs.Common.{◌-◌}
use Rattle.std.specs.Prelude.{vec_len}
use Rattle.vg_pmean.specs.Held.{Alike}
use Rattle.vg_pmean.proofs.frames.free_frames.Given as goal

abbrev pub invariant-frames : goal.invariant-frames
invariant-frames l = Alike l.room l.free.items

abbrev pub decreases-frames : goal.decreases-frames
decreases-frames l = l.room.frames - vec_len l.free
