use Rattle.std.proofs.Common.{◌≡◌, ◌+◌, ◌≤◌, length, vec_len, vec_capacity}
use Rattle.vg_program.specs.Meaning.{run}
use Rattle.vg_catalog.specs.Called.{called_by}
use Rattle.vg_machine.specs.ReadyInstance.{instances_of}
use Rattle.vg_machine.specs.State.{state_of, AreRunnable}
use Rattle.vg_machine.proofs.steps.run.Given as goal

-- the run of what is left from here is the run of the whole
abbrev pub invariant-lines : goal.invariant-lines
invariant-lines l = record {
  same : run (called_by (instances_of l.initial.instances).entries) l.inputs l.left (state_of l.memory l.scalars.items l.vectors.items) ≡ run (called_by (instances_of l.initial.instances).entries) l.inputs l.lines (state_of l.initial.memory l.initial.scalars.items l.initial.vectors.items);
  instances : instances_of l.instances ≡ instances_of l.initial.instances;
  entries : l.instances.entries.now ≡ l.initial.instances.entries.now;
  counted : l.number + length l.left ≡ length l.lines;
  runnable : AreRunnable (instances_of l.initial.instances) l.plan l.number l.left l.vectors.items;
  scalars : vec_len l.scalars + length l.left ≤ vec_capacity l.scalars;
  vectors : vec_len l.vectors + length l.left ≤ vec_capacity l.vectors;
  scalars_in_place : vec_capacity l.scalars ≡ vec_capacity l.initial.scalars;
  vectors_in_place : vec_capacity l.vectors ≡ vec_capacity l.initial.vectors;
}

abbrev pub decreases-lines : goal.decreases-lines
decreases-lines l = length l.left
