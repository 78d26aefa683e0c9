use Rattle.std.proofs.Common.{◌≡◌, ◌+◌, ◌*◌, ◌≤◌, ◌<◌, ◌^◌}
use Rattle.std.specs.Prelude.{max}
use Rattle.vg_script.specs.Views.{given_of, script_of}
use Rattle.vg_script.specs.declared.script.Word.{size-Word}
use Rattle.vg_script.specs.declared.script.Low.{size-Low}
use Rattle.vg_script.specs.declared.script.Given.{size-Given}
use Rattle.vg_script.specs.declared.script.Script.{size-Script}
use Rattle.vg_range.specs.Nodes.{counted, given_nodes, script_nodes}
use Rattle.vg_range.proofs.nodes.+nodes.Given as goal

abbrev pub decreases-with_word : goal.decreases-with_word
decreases-with_word l = 2 * size-Word l.word.now

abbrev pub decreases-with_low : goal.decreases-with_low
decreases-with_low l = 2 * size-Low l.low.now

abbrev pub decreases-with_frame : goal.decreases-with_frame
decreases-with_frame l = 2 * max (size-Given l.frame.now.given) (size-Script l.frame.now.script) + 1

abbrev pub decreases-with_given : goal.decreases-with_given
decreases-with_given l = 2 * size-Given l.given.now

abbrev pub decreases-with_script : goal.decreases-with_script
decreases-with_script l = 2 * size-Script l.script.now

abbrev pub invariant-with_given-registers : goal.invariant-with_given-registers
invariant-with_given-registers l = record {
  is : counted l.count (given_nodes (given_of l.left)) ≡ counted l.initial.count (given_nodes (given_of l.given));
  less : size-Given l.left ≤ size-Given l.given;
  small : l.count < 2 ^ 64;
}

abbrev pub decreases-with_given-registers : goal.decreases-with_given-registers
decreases-with_given-registers l = size-Given l.left

abbrev pub invariant-with_script-statements : goal.invariant-with_script-statements
invariant-with_script-statements l = record {
  is : counted l.count (script_nodes (script_of l.left)) ≡ counted l.initial.count (script_nodes (script_of l.script));
  less : size-Script l.left ≤ size-Script l.script;
  small : l.count < 2 ^ 64;
}

abbrev pub decreases-with_script-statements : goal.decreases-with_script-statements
decreases-with_script-statements l = size-Script l.left
