use Rattle.std.proofs.Common.{Option, OnOk, subst, sym}
use Rattle.vg_shapes.specs.declared.access.Access.{Access}
use Rattle.vg_paired.specs.Tallies.{Adds}
use Rattle.vg_events.specs.Events.{labels_in}
use Rattle.vg_paired.proofs.tally.Tally.add_any.Goals as goal

pub returns-in-Some : goal.returns-in-Some
returns-in-Some c =
    subst (λ (x : Option Access). OnOk c.add_access.result (Adds c.args.self.now c.add_access.new.self (labels_in x)))
    (sym c.in-Some.is) c.add_access.ensures
