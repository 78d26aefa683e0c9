use Rattle.std.proofs.Common.{◌∙◌, ◌++◌, ◌∷◌, [], ap, map, sym}
use Rattle.vg_kernel_plans.specs.Completed.{turns_of}
use Rattle.vg_kernel_plans.specs.Fed.{packing_by}
use Rattle.vg_kernel_plans.specs.Packing.{packing}
use Rattle.vg_plans.specs.Completed.{completed}
use Rattle.vg_plans.specs.World.{stays_plan}
use Rattle.vg_shapes.specs.Description.{description_of}
use Rattle.vg_packs.proofs.Completion.{in-turn, stays-by}
use Rattle.vg_packs.proofs.completing.completed_with.Goals as goal

pub growing-requires-clause-plan : goal.growing-requires-clause-plan
growing-requires-clause-plan c =
    in-turn c.args.groups.now.choice (map description_of c.args.descriptions.now) c.args.table.now c.args.ssa.now c.args.deps.now c.args.plan.now c.requires.plan

pub push-requires-clause-stays : goal.push-requires-clause-stays
push-requires-clause-stays c =
    let bare = packing [] c.args.table.now c.args.ssa.now c.args.deps.now in
    ap (stays_plan bare c.in_ok-start.start.packs.items) c.in_ok-copy.ensures ∙ sym c.in_ok-stays.ensures ∙ c.if-not-stays.false

pub returns-then-not-stays : goal.returns-then-not-stays
returns-then-not-stays c =
    let bare = packing [] c.args.table.now c.args.ssa.now c.args.deps.now in
    stays-by c.args.groups.now.choice (map description_of c.args.descriptions.now) c.args.table.now c.args.ssa.now c.args.deps.now c.args.plan.now c.args.pack.now
    ∙ ap (λ l. stays_plan bare l c.args.pack.now) (sym c.in_ok-start.ensures.packs) ∙ sym c.in_ok-stays.ensures ∙ c.if-not-stays.true

pub returns : goal.returns
returns c =
    let bare = packing [] c.args.table.now c.args.ssa.now c.args.deps.now in
    let w = packing_by c.args.groups.now.choice (map description_of c.args.descriptions.now) c.args.table.now c.args.ssa.now c.args.deps.now in (
      stays-by c.args.groups.now.choice (map description_of c.args.descriptions.now) c.args.table.now c.args.ssa.now c.args.deps.now c.args.plan.now c.args.pack.now
          ∙ ap (λ l. stays_plan bare l c.args.pack.now) (sym c.in_ok-start.ensures.packs) ∙ sym c.in_ok-stays.ensures ∙ c.if-not-stays.false,
      c.in_ok-whole.ensures
          ∙ ap (completed w (turns_of c.args.ssa.now)) (c.in_ok-push.ensures.packs ∙ ap (λ l. l ++ c.in_ok-copy.copy ∷ []) c.in_ok-start.ensures.packs
          ∙ ap (λ q. c.args.plan.now ++ q ∷ []) c.in_ok-copy.ensures),
    )
