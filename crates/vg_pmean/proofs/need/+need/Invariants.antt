use Rattle.std.proofs.Common.{◌≡◌, ◌+◌, ◌*◌, ◌≤◌}
use Rattle.std.specs.Prelude.{max}
use Rattle.vg_script.specs.Views.{given_of, script_of}
use Rattle.vg_script.specs.declared.script.Word.{size-Word}
use Rattle.vg_script.specs.declared.script.Low.{size-Low}
use Rattle.vg_script.specs.declared.script.Given.{size-Given}
use Rattle.vg_script.specs.declared.script.Script.{size-Script}
use Rattle.vg_pmean.specs.FrameRoom.{either, given_room, script_room}
use Rattle.vg_pmean.proofs.need.+need.Given as goal

abbrev pub decreases-add_word : goal.decreases-add_word
decreases-add_word l = 3 * size-Word l.word.now

abbrev pub decreases-add_low : goal.decreases-add_low
decreases-add_low l = 3 * size-Low l.low.now

abbrev pub decreases-add_block : goal.decreases-add_block
decreases-add_block l = 3 * max (max (size-Given l.frame.now.given) (size-Script l.frame.now.script)) (size-Word l.answer.now) + 2

abbrev pub decreases-add_copy : goal.decreases-add_copy
decreases-add_copy l = 3 * max (max (size-Given l.frame.now.given) (size-Script l.frame.now.script)) (size-Low l.low.now) + 2

abbrev pub decreases-add_frame : goal.decreases-add_frame
decreases-add_frame l = 3 * max (size-Given l.frame.now.given) (size-Script l.frame.now.script) + 1

abbrev pub decreases-add_given : goal.decreases-add_given
decreases-add_given l = 3 * size-Given l.given.now

abbrev pub decreases-add_script : goal.decreases-add_script
decreases-add_script l = 3 * size-Script l.script.now

abbrev pub invariant-add_given-registers : goal.invariant-add_given-registers
invariant-add_given-registers l = record {
  is : either l.room (given_room (given_of l.left)) ≡ either l.initial.room (given_room (given_of l.given));
  less : size-Given l.left ≤ size-Given l.given;
}

abbrev pub decreases-add_given-registers : goal.decreases-add_given-registers
decreases-add_given-registers l = size-Given l.left

abbrev pub invariant-add_script-statements : goal.invariant-add_script-statements
invariant-add_script-statements l = record {
  is : either l.room (script_room (script_of l.left)) ≡ either l.initial.room (script_room (script_of l.script));
  less : size-Script l.left ≤ size-Script l.script;
}

abbrev pub decreases-add_script-statements : goal.decreases-add_script-statements
decreases-add_script-statements l = size-Script l.left
