use Rattle.std.proofs.Common.{◌≡◌, ◌∙◌, ◌++◌, ◌∷◌, [], subst, sym}
use Rattle.std.specs.Prelude.{IsTrue}
use Rattle.vg_plans.specs.Members.{Has}
use Rattle.vg_plans.specs.World.{follows}
use Rattle.vg_kernel_plans.proofs.FedPlans.{may-be-fed}
use Rattle.vg_kernel_plans.specs.Fed.{unfed}
use Rattle.vg_kernel_plans.specs.Laws.{IsPlanFor}
use Rattle.vg_kernel_plans.specs.Packing.{packing}
use Rattle.vg_packs.specs.Walk.{IsFree}
use Rattle.vg_cost_cases.proofs.Grown.{free-more, plan-more}
use Rattle.vg_cost_cases.proofs.running.grown.Goals as goal

pub with-requires-clause-plan : goal.with-requires-clause-plan
with-requires-clause-plan c =
    let w = packing [] c.args.table.now c.args.ssa.now c.args.deps.now in
    let is : IsTrue c.in_ok-is_next.is_next = c.if-not-is_next.false in
    let has : Has c.in_ok-pack.pack (follows w c.args.plan.now.packs.items) =
    subst (λ q. Has c.in_ok-pack.pack (follows w q)) c.packs.ensures (c.in_ok-is_next.ensures.member.0 is)
    in (
      c.args.deps.now,
      may-be-fed [] c.args.table.now c.args.ssa.now c.args.deps.now unfed _
          (plan-more c.args.table.now c.args.ssa.now c.args.deps.now c.args.plan.now.packs.items c.in_ok-pack.pack has c.requires.plan),
    )

pub returns-clause-free : goal.returns-clause-free
returns-clause-free c =
    let w = packing [] c.args.table.now c.args.ssa.now c.args.deps.now in
    let is : IsTrue c.in_ok-is_next.is_next = c.if-not-is_next.false in
    let has : Has c.in_ok-pack.pack (follows w c.args.plan.now.packs.items) =
    subst (λ q. Has c.in_ok-pack.pack (follows w q)) c.packs.ensures (c.in_ok-is_next.ensures.member.0 is)
    in
    subst (IsFree c.args.table.now c.args.ssa.now c.args.deps.now) (sym c.in_ok-longer.ensures.packs)
    (free-more c.args.table.now c.args.ssa.now c.args.deps.now c.args.plan.now.packs.items c.in_ok-pack.pack has)

pub returns-clause-plan : goal.returns-clause-plan
returns-clause-plan c =
    let w = packing [] c.args.table.now c.args.ssa.now c.args.deps.now in
    let is : IsTrue c.in_ok-is_next.is_next = c.if-not-is_next.false in
    let has : Has c.in_ok-pack.pack (follows w c.args.plan.now.packs.items) =
    subst (λ q. Has c.in_ok-pack.pack (follows w q)) c.packs.ensures (c.in_ok-is_next.ensures.member.0 is)
    in
    subst (IsPlanFor [] c.args.table.now c.args.ssa.now c.args.deps.now) (sym c.in_ok-longer.ensures.packs)
    (plan-more c.args.table.now c.args.ssa.now c.args.deps.now c.args.plan.now.packs.items c.in_ok-pack.pack has c.requires.plan)

pub may_follow-requires-clause-free : goal.may_follow-requires-clause-free
may_follow-requires-clause-free c =
    subst (IsFree c.args.table.now c.args.ssa.now c.args.deps.now) (sym c.packs.ensures) c.requires.free
