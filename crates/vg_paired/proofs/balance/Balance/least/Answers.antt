use Rattle.std.proofs.Common.{List, ap, map, subst}
use Rattle.std.specs.Option.{option_map}
use Rattle.std.proofs.lemmas.List.{take_all}
use Rattle.vg_paired.specs.Balances.{WithLeft}
use Rattle.vg_paired.specs.ByteLabels.{label_of}
use Rattle.vg_events.specs.Events.{Label}
use Rattle.vg_paired.proofs.Balancing.{left-turn}
use Rattle.vg_paired.proofs.balance.Balance.least.Goals as goal

pub labels-preserved : goal.labels-preserved
labels-preserved c =
    left-turn c.args.self.now.left c.args.labels.now c.labels.label-index _ (option_map label_of c.args.self.now.least) (option_map label_of c.labels.least) (option_map label_of c.with_left-least.result)
    c.number_of-left.result c.labels-test.true c.number_of-left.ensures c.labels.invariant c.with_left-least.ensures

pub returns : goal.returns
returns c =
    subst (λ (ls : List Label). WithLeft c.args.self.now.left ls (option_map label_of c.args.self.now.least) (option_map label_of c.labels.least))
    (ap (map label_of) (take_all c.labels.label-index c.args.labels.now c.labels-test.false)) c.labels.invariant
