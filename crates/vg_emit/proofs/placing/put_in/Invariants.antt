use Rattle.std.proofs.Common.{◌≡◌, drop}
use Rattle.vg_emit.specs.Placing.{put_in}
use Rattle.vg_emit.specs.Views.{job_of, known, made_of, placed_behind}
use Rattle.vg_emit.proofs.placing.put_in.Given as goal

abbrev pub invariant-slots : goal.invariant-slots
invariant-slots l =
    placed_behind (made_of l.draft) (put_in (job_of l.job) (known l.draft) l.bits l.last (drop l.slot-index l.slots))
    ≡ placed_behind (made_of l.fn.draft) (put_in (job_of l.job) (known l.fn.draft) l.bits l.register l.slots)
