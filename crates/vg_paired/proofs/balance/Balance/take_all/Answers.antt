use Rattle.std.proofs.Common.{List, Option, subst}
use Rattle.std.proofs.lemmas.List.{take_all}
use Rattle.vg_shapes.specs.declared.access.Access.{Access}
use Rattle.vg_paired.specs.Balances.{Takes}
use Rattle.vg_events.specs.Events.{labels}
use Rattle.vg_paired.proofs.Balancing.{accesses-turn}
use Rattle.vg_paired.proofs.balance.Balance.take_all.Goals as goal

pub accesses-preserved : goal.accesses-preserved
accesses-preserved c =
    accesses-turn c.args.self.now c.accesses.self c.take_any.new.self c.args.accesses.now c.accesses.access-index _ c.accesses-test.true c.accesses.invariant c.in_ok-take_any.ensures

pub returns : goal.returns
returns c =
    subst (λ (xs : List (Option Access)). Takes c.args.self.now c.accesses.self (labels xs)) (take_all c.accesses.access-index c.args.accesses.now c.accesses-test.false) c.accesses.invariant
