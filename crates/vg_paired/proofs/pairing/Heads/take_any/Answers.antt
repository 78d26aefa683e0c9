use Rattle.std.proofs.Common.{IfOk, List, Option, subst, sym, ℕ}
use Rattle.vg_shapes.specs.declared.access.Access.{Access}
use Rattle.vg_events.specs.Events.{labels_in}
use Rattle.vg_paired.specs.Heads.{Pairs}
use Rattle.vg_paired.proofs.Heads.{pairs-empty}
use Rattle.vg_paired.proofs.pairing.Heads.take_any.Goals as goal

pub returns-in-None : goal.returns-in-None
returns-in-None c = pairs-empty c.args.self.now c.args.access c.no_events.result c.in-None.is c.no_events.ensures

pub returns-in-Some : goal.returns-in-Some
returns-in-Some c =
    subst (λ (x : Option Access). IfOk c.take_access.result (λ (events : List ℕ). Pairs c.args.self.now c.take_access.new.self (labels_in x) events)) (sym c.in-Some.is) c.take_access.ensures
