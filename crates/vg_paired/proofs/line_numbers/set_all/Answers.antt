use Rattle.std.proofs.Common.{ℕ, List, arith, subst}
use Rattle.std.proofs.lemmas.List.{take_all}
use Rattle.vg_paired.specs.Sweeps.{SetsAll}
use Rattle.vg_paired.proofs.Lining.{sets-none, sets-turn}
use Rattle.vg_paired.proofs.line_numbers.set_all.Goals as goal

pub events-init : goal.events-init
events-init c = sets-none c.args.numbers.now c.args.number

pub events-preserved : goal.events-preserved
events-preserved c =
    sets-turn c.args.numbers.now c.events.numbers c.set_one.new.numbers c.args.events.now c.events.event-index _ c.args.number c.events-test.true (omega arith) c.events.invariant c.set_one.ensures

pub returns : goal.returns
returns c =
    subst (λ (es : List ℕ). SetsAll c.args.numbers.now c.events.numbers es c.args.number) (take_all c.events.event-index c.args.events.now c.events-test.false) c.events.invariant
