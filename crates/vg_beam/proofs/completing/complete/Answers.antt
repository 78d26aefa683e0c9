use Rattle.std.proofs.Common.{◌∙◌, subst, sym}
use Rattle.std.specs.List.{AllByRecursion}
use Rattle.vg_kernel_plans.specs.Completed.{turns_of}
use Rattle.vg_kernel_plans.specs.Taken.{IsShort}
use Rattle.vg_plans.proofs.Completed.{completed-plan}
use Rattle.vg_beam.specs.SearchSpace.{world_of}
use Rattle.vg_beam.proofs.completing.complete.Goals as goal

pub price-requires-clause-short : goal.price-requires-clause-short
price-requires-clause-short c =
    let s = c.args.space.now in
    subst (AllByRecursion IsShort) (sym c.in_ok-whole.ensures)
    (c.requires.short _ (completed-plan (world_of s) (turns_of s.ssa.now) c.args.plan.now c.requires.plan))

pub returns-clause-plan : goal.returns-clause-plan
returns-clause-plan c = c.in_ok-priced.ensures.plan ∙ c.in_ok-whole.ensures
