use Rattle.std.proofs.Common.{◌≡◌, arith, subst}
use Rattle.vg_paired.specs.Balances.{Takes}
use Rattle.vg_events.specs.Events.{labels_from}
use Rattle.vg_paired.proofs.Balancing.{bytes-turn}
use Rattle.vg_paired.proofs.balance.Balance.take_access.Goals as goal

pub bytes-preserved : goal.bytes-preserved
bytes-preserved c =
    bytes-turn c.args.self.now c.bytes.self c.take.new.self c.args.access.writes c.args.access.address c.bytes.byte c.of.result c.bytes.invariant c.of.ensures c.in_ok-take.ensures

pub returns : goal.returns
returns c =
    let e : c.bytes.byte ≡ c.args.access.size = omega arith in
    subst (λ n. Takes c.args.self.now c.bytes.self (labels_from c.args.access.writes c.args.access.address n)) e c.bytes.invariant
