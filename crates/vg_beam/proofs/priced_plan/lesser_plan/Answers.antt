use Rattle.vg_beam.specs.declared.priced_plan.PricedPlan.{PricedPlan}
use Rattle.vg_beam.proofs.Growing.{lesser-first, lesser-second}
use Rattle.vg_beam.proofs.priced_plan.lesser_plan.Goals as goal

pub returns-then-second-first : goal.returns-then-second-first
returns-then-second-first c = lesser-second (λ (p : PricedPlan). p.cost) c.args.first c.args.second c.if-second-first.true

pub returns-else-second-first : goal.returns-else-second-first
returns-else-second-first c = lesser-first (λ (p : PricedPlan). p.cost) c.args.first c.args.second c.if-second-first.false
