use Rattle.std.proofs.Common.{List, Option, subst}
use Rattle.std.proofs.lemmas.List.{take_all}
use Rattle.vg_shapes.specs.declared.access.Access.{Access}
use Rattle.vg_paired.specs.Tallies.{Adds}
use Rattle.vg_events.specs.Events.{labels}
use Rattle.vg_paired.proofs.Tallying.{adds-accesses}
use Rattle.vg_paired.proofs.tally.Tally.add_all.Goals as goal

pub accesses-preserved : goal.accesses-preserved
accesses-preserved c =
    adds-accesses c.args.self.now c.accesses.self c.add_any.new.self c.args.accesses.now c.accesses.access-index _
    c.accesses-test.true c.accesses.invariant c.in_ok-add_any.ensures

pub returns : goal.returns
returns c =
    subst (λ (xs : List (Option Access)). Adds c.args.self.now c.accesses.self (labels xs))
    (take_all c.accesses.access-index c.args.accesses.now c.accesses-test.false) c.accesses.invariant
