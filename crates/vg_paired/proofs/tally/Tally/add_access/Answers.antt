use Rattle.std.proofs.Common.{◌≡◌, arith, subst}
use Rattle.vg_paired.specs.Tallies.{Adds}
use Rattle.vg_events.specs.Events.{labels_from}
use Rattle.vg_paired.proofs.Tallying.{adds-bytes}
use Rattle.vg_paired.proofs.tally.Tally.add_access.Goals as goal

pub bytes-preserved : goal.bytes-preserved
bytes-preserved c =
    adds-bytes c.args.self.now c.bytes.self c.add.new.self c.args.access.writes c.args.access.address c.bytes.byte
    c.of.result c.bytes.invariant c.of.ensures c.in_ok-add.ensures

pub returns : goal.returns
returns c =
    let e : c.bytes.byte ≡ c.args.access.size = omega arith in
    subst (λ n. Adds c.args.self.now c.bytes.self (labels_from c.args.access.writes c.args.access.address n)) e
    c.bytes.invariant
