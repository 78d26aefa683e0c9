use Rattle.std.proofs.Common.{◌≡◌, Some, subst, sym, ◌∙◌, arith}
use Rattle.vg_program.specs.Meaning.{step}
use Rattle.vg_catalog.specs.Called.{called_by}
use Rattle.vg_machine.specs.ReadyInstance.{Instances, instances_of}
use Rattle.vg_machine.specs.State.{state_of, AreRunnable}
use Rattle.vg_machine.proofs.Runnable.{run_turn, runnable_turn}
use Rattle.vg_machine.proofs.steps.run.Goals as goal

pub lines-preserved : goal.lines-preserved
lines-preserved c =
    let item = c.line-item.is in
    let first_instances = instances_of c.args.instances.now in
    let inst = c.lines.invariant.instances in
    let before = state_of c.lines.memory c.lines.scalars.items c.lines.vectors.items in
    let after = state_of c.step.new.memory c.step.new.scalars.items c.step.new.vectors.items in
    let first = state_of c.args.memory.now c.args.scalars.now.items c.args.vectors.now.items in
    let out = subst (λ (x : Instances). step (called_by x.entries) c.args.inputs.now c.line-item.result before ≡ Some after) inst c.in-Done.ensures.outcome in
    record {
      same = run_turn (called_by first_instances.entries) c.args.inputs.now c.lines.left.now c.line-item.result c.args.lines.now before after first c.in-len1-up.len_at_least item out c.lines.invariant.same;
      instances = c.in-Done.ensures.instances ∙ inst;
      entries = c.in-Done.ensures.entries ∙ c.lines.invariant.entries;
      counted = omega (arith, c.lines.invariant.counted, c.in-len1-up.len_at_least);
      runnable = runnable_turn first_instances c.args.plan.now c.lines.number c.args.inputs.now c.lines.left.now c.line-item.result before after c.in-len1-up.len_at_least item out c.lines.invariant.runnable;
      scalars = omega (arith, c.in-Done.ensures.one_scalar, c.lines.invariant.scalars, c.in-Done.ensures.scalars_in_place, c.in-len1-up.len_at_least);
      vectors = omega (arith, c.in-Done.ensures.one_vector, c.lines.invariant.vectors, c.in-Done.ensures.vectors_in_place, c.in-len1-up.len_at_least);
      scalars_in_place = c.in-Done.ensures.scalars_in_place ∙ c.lines.invariant.scalars_in_place;
      vectors_in_place = c.in-Done.ensures.vectors_in_place ∙ c.lines.invariant.vectors_in_place;
    }
