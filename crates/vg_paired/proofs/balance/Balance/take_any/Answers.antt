use Rattle.std.proofs.Common.{Option, OnOk, subst, sym}
use Rattle.vg_shapes.specs.declared.access.Access.{Access}
use Rattle.vg_paired.specs.Balances.{Takes}
use Rattle.vg_events.specs.Events.{labels_in}
use Rattle.vg_paired.proofs.balance.Balance.take_any.Goals as goal

pub returns-in-Some : goal.returns-in-Some
returns-in-Some c =
    subst (λ (x : Option Access). OnOk c.take_access.result (Takes c.args.self.now c.take_access.new.self (labels_in x))) (sym c.in-Some.is) c.take_access.ensures
