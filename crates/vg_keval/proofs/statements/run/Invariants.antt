use Rattle.std.proofs.Common.{◌≡◌, ◌+◌, ◌≤◌, length, map, vec_len, vec_capacity}
use Rattle.vg_kernel.specs.Meaning.{run}
use Rattle.vg_kernel.specs.Tree.{statement_of}
use Rattle.vg_keval.specs.State.{state_of}
use Rattle.vg_keval.proofs.statements.run.Given as goal

-- the run of what is left from here is the run of the whole
abbrev pub invariant-statements : goal.invariant-statements
invariant-statements l = record {
  same : run l.inputs (map statement_of l.left) (state_of l.memory l.numbers.items) ≡ run l.inputs (map statement_of l.statements) (state_of l.initial.memory l.initial.numbers.items);
  room : vec_len l.numbers + length l.left ≤ vec_capacity l.numbers;
  in_place : vec_capacity l.numbers ≡ vec_capacity l.initial.numbers;
}

abbrev pub decreases-statements : goal.decreases-statements
decreases-statements l = length l.left
