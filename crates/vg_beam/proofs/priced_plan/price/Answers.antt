use Rattle.std.proofs.Common.{◌∙◌, ap, subst, sym}
use Rattle.std.specs.List.{AllByRecursion}
use Rattle.vg_kernel_plans.specs.Taken.{IsShort}
use Rattle.vg_beam.specs.SearchSpace.{cost_in}
use Rattle.vg_beam.proofs.priced_plan.price.Goals as goal

pub cost_of-requires-clause-short : goal.cost_of-requires-clause-short
cost_of-requires-clause-short c = subst (AllByRecursion IsShort) (sym c.as_slice-packs.ensures) c.requires.short

pub returns-clause-cost : goal.returns-clause-cost
returns-clause-cost c =
    c.in_ok-cost.ensures.cost c.args.space.now.deps.now ∙ ap (cost_in c.args.space.now) c.as_slice-packs.ensures
