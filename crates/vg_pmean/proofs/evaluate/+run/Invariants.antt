use Rattle.std.proofs.Common.{◌≡◌, ◌+◌, ◌*◌, ◌≤◌, length}
use Rattle.std.specs.Prelude.{max}
use Rattle.vg_script.specs.Cells.{after, after_arm, numbers_given}
use Rattle.vg_script.specs.Formed.{GivenFormed, ScriptFormed}
use Rattle.vg_script.specs.Views.{given_of, script_of}
use Rattle.vg_script.specs.declared.script.Word.{size-Word}
use Rattle.vg_script.specs.declared.script.Low.{size-Low}
use Rattle.vg_script.specs.declared.script.Given.{size-Given}
use Rattle.vg_script.specs.declared.script.Script.{size-Script}
use Rattle.vg_pmean.specs.Held.{Alike, filled, widths_in}
use Rattle.vg_pmean.specs.FrameRoom.{Suffices, given_room, script_room}
use Rattle.vg_pmean.proofs.evaluate.+run.Given as goal

abbrev pub decreases-value : goal.decreases-value
decreases-value l = 4 * size-Word l.word.now

abbrev pub decreases-place : goal.decreases-place
decreases-place l = 4 * size-Low l.low.now

abbrev pub decreases-block : goal.decreases-block
decreases-block l = 4 * max (max (size-Given l.frame.now.given) (size-Script l.frame.now.script)) (size-Word l.answer.now) + 3

abbrev pub decreases-call : goal.decreases-call
decreases-call l = 4 * max (size-Given l.frame.now.given) (size-Script l.frame.now.script) + 2

abbrev pub decreases-enter_given : goal.decreases-enter_given
decreases-enter_given l = 4 * size-Given l.given.now

abbrev pub decreases-run : goal.decreases-run
decreases-run l = 4 * size-Script l.script.now + 1

abbrev pub decreases-assign : goal.decreases-assign
decreases-assign l = 4 * size-Script l.statement.now

abbrev pub decreases-run_arm : goal.decreases-run_arm
decreases-run_arm l = 4 * size-Script l.arms.now

abbrev pub invariant-enter_given-registers : goal.invariant-enter_given-registers
invariant-enter_given-registers l = record {
  is : filled l.register (numbers_given l.own.cells (given_of l.left)) l.cells.cells ≡ filled 0 (numbers_given l.own.cells (given_of l.given)) l.initial.cells.cells;
  room : l.cells.room ≡ l.initial.cells.room;
  formed : GivenFormed (given_of l.left);
  enough : Suffices (given_room (given_of l.left)) l.own.room (length l.free);
  alike : Alike l.own.room l.free;
  count : length l.free ≡ length l.initial.free;
  registers : length l.cells.cells.registers ≡ l.count;
  less : size-Given l.left ≤ size-Given l.given;
}

abbrev pub invariant-run-statements : goal.invariant-run-statements
invariant-run-statements l = record {
  is : after (script_of l.left) l.own.cells ≡ after (script_of l.script) l.initial.own.cells;
  room : l.own.room ≡ l.initial.own.room;
  widths : widths_in l.own.cells ≡ widths_in l.initial.own.cells;
  formed : ScriptFormed (widths_in l.own.cells) (script_of l.left);
  enough : Suffices (script_room (script_of l.left)) l.own.room (length l.free);
  alike : Alike l.own.room l.free;
  count : length l.free ≡ length l.initial.free;
  less : size-Script l.left ≤ size-Script l.script;
}

abbrev pub decreases-run-statements : goal.decreases-run-statements
decreases-run-statements l = size-Script l.left

abbrev pub invariant-run_arm-arms : goal.invariant-run_arm-arms
invariant-run_arm-arms l = record {
  is : after_arm l.number (script_of l.left) l.own.cells ≡ after_arm l.number (script_of l.arms) l.initial.own.cells;
  same : l.own ≡ l.initial.own;
  formed : ScriptFormed (widths_in l.own.cells) (script_of l.left);
  enough : Suffices (script_room (script_of l.left)) l.own.room (length l.free);
  alike : Alike l.own.room l.free;
  count : length l.free ≡ length l.initial.free;
  less : size-Script l.left ≤ size-Script l.arms;
}

abbrev pub decreases-run_arm-arms : goal.decreases-run_arm-arms
decreases-run_arm-arms l = size-Script l.left
