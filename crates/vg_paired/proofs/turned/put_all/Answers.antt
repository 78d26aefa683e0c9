use Rattle.std.proofs.Common.{◌≡◌, ◌-◌, arith, map, refl, subst}
use Rattle.std.specs.Prelude.{slice_index}
use Rattle.vg_paired.specs.ByteLabels.{label_of}
use Rattle.vg_paired.specs.Sweeps.{PutsBefore}
use Rattle.vg_paired.proofs.Sweeping.{put-turn}
use Rattle.vg_paired.proofs.turned.put_all.Goals as goal

pub events-init : goal.events-init
events-init c = (c.requires.order, omega arith, λ end most all rows. rows)

pub events-preserved : goal.events-preserved
events-preserved c = (
  omega arith,
  omega arith,
  put-turn c.args.labels.now (slice_index c.args.lines.now) (c.events.left - 1) c.events.left c.args.last _ _ c.args.rows.now c.events.rows c.put.new.self
      (omega arith) (omega arith) refl c.events.invariant.1 c.events.invariant.2 c.in_ok-put.ensures,
)

pub returns : goal.returns
returns c =
    let e : c.events.left ≡ c.args.first = omega arith in
    subst (λ k. PutsBefore (map label_of c.args.labels.now) (slice_index c.args.lines.now) k c.args.last c.args.rows.now c.events.rows) e c.events.invariant.2
