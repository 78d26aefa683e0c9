use Rattle.std.proofs.Common.{◌-◌, arith, map, refl}
use Rattle.vg_paired.specs.ByteLabels.{label_of}
use Rattle.vg_paired.proofs.Heads.{heads-done, heads-first, heads-more}
use Rattle.vg_paired.proofs.pairing.Heads.new.Goals as goal

pub events-init : goal.events-init
events-init c = (omega arith, heads-first c.args.labels.now c.new-first.result c.in_ok-next.next.items _ refl c.new-first.ensures (omega (arith, c.in_ok-next.ensures.len)))

pub events-preserved : goal.events-preserved
events-preserved c = (
  omega arith,
  heads-more c.args.labels.now (c.events.left - 1) c.events.left _ c.events.first c.set.new.self c.events.next.items c.number_or.result (omega arith) (omega arith)
      c.events.invariant.1 c.number_or.ensures c.in_ok-set.ensures,
)

pub returns : goal.returns
returns c =
    heads-done (map label_of c.args.labels.now) (record { first = c.events.first; next = c.events.next }) c.events.left c.events-test.false c.events.invariant.1
