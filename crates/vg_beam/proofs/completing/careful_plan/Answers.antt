use Rattle.std.proofs.Common.{◌∙◌, ap, subst, sym}
use Rattle.std.proofs.lemmas.List.{drop_all}
use Rattle.vg_kernel_plans.specs.Completed.{turns_of}
use Rattle.vg_kernel_plans.specs.Fed.{IsPlanBy}
use Rattle.vg_plans.specs.Completed.{careful_with_all}
use Rattle.vg_plans.specs.Crowded.{empty}
use Rattle.vg_plans.specs.Members.{Has}
use Rattle.vg_beam.specs.SearchSpace.{choice_of, described, world_of}
use Rattle.vg_beam.proofs.Completion.{any-at, careful-more, careful-one}
use Rattle.vg_beam.proofs.completing.careful_plan.Goals as goal

pub groups-init : goal.groups-init
groups-init c =
    let s = c.args.space.now in
    record {
      plan = ap (λ p. careful_with_all (world_of s) (turns_of s.ssa.now) p c.args.groups.now) c.in_ok-best.ensures.plan;
      is = subst (IsPlanBy (choice_of s) (described s) s.table.now s.ssa.now s.deps.now) (sym c.in_ok-best.ensures.plan) empty;
      cost = c.in_ok-best.ensures.cost;
    }

pub careful_with-requires-clause-group : goal.careful_with-requires-clause-group
careful_with-requires-clause-group c =
    let s = c.args.space.now in
    subst (Has c.group-item.result) c.requires.groups
    (subst (λ q. Has q c.args.groups.now) (sym c.group-item.is) (any-at c.args.groups.now c.groups.group-index c.group-item.result c.groups-test.true))

pub groups-preserved : goal.groups-preserved
groups-preserved c =
    let s = c.args.space.now in
    let turns = turns_of s.ssa.now in
    let has = subst (Has c.group-item.result) c.requires.groups
    (subst (λ q. Has q c.args.groups.now) (sym c.group-item.is) (any-at c.args.groups.now c.groups.group-index c.group-item.result c.groups-test.true))
    in
    record {
      plan = careful-more (choice_of s) (described s) s.table.now s.ssa.now s.deps.now turns c.args.groups.now c.groups.group-index c.group-item.result
          c.groups.best.plan c.in_ok-better.better.plan _ c.groups-test.true c.group-item.is c.in_ok-better.ensures.plan c.groups.invariant.plan;
      is = subst (IsPlanBy (choice_of s) (described s) s.table.now s.ssa.now s.deps.now) (sym c.in_ok-better.ensures.plan)
          (careful-one (choice_of s) (described s) s.table.now s.ssa.now s.deps.now turns c.groups.best.plan c.group-item.result c.groups.invariant.is has);
      cost = c.in_ok-better.ensures.cost;
    }

pub returns-clause-plan : goal.returns-clause-plan
returns-clause-plan c =
    let s = c.args.space.now in
    ap (careful_with_all (world_of s) (turns_of s.ssa.now) c.groups.best.plan) (sym (drop_all c.groups.group-index c.args.groups.now c.groups-test.false))
    ∙ c.groups.invariant.plan
