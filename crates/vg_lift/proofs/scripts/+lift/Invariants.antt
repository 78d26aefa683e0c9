use Rattle.std.proofs.Common.{◌≡◌, ◌+◌, ◌*◌, ◌++◌, ◌≤◌, length}
use Rattle.std.specs.Prelude.{max}
use Rattle.vg_pool.specs.Pool.{Keeps, tree_at}
use Rattle.vg_script.specs.Formed.{GivenFormed, ScriptFormed}
use Rattle.vg_script.specs.Script.{way}
use Rattle.vg_script.specs.Views.{given_of, script_of, word_of}
use Rattle.vg_script.specs.declared.script.Word.{size-Word}
use Rattle.vg_script.specs.declared.script.Given.{size-Given}
use Rattle.vg_script.specs.declared.script.Script.{size-Script}
use Rattle.vg_lift.specs.LaneTerm.{lifted, lifted_arm, passed, term}
use Rattle.vg_lift.specs.Passed.{AllPassedFit, all_passed}
use Rattle.vg_lift.specs.States.{StateFits, state_of, widths_in}
use Rattle.vg_range_laws.specs.Static.{IsStatic, IsStaticGiven}
use Rattle.vg_lift.specs.Turns.{TurnsFit, taken, turns_size}
use Rattle.vg_lift.specs.Views.{IsNode}
use Rattle.vg_lift.proofs.scripts.+lift.Given as goal

abbrev pub decreases-term : goal.decreases-term
decreases-term l = 8 * size-Word l.word.now

abbrev pub decreases-passed_word : goal.decreases-passed_word
decreases-passed_word l = 8 * size-Word l.word.now + 1

abbrev pub decreases-block : goal.decreases-block
decreases-block l = 8 * max (max (size-Given l.frame.now.given) (size-Script l.frame.now.script)) (size-Word l.answer.now) + 6

abbrev pub decreases-handed : goal.decreases-handed
decreases-handed l = 8 * max (size-Given l.frame.now.given) (size-Script l.frame.now.script) + 6

abbrev pub decreases-call : goal.decreases-call
decreases-call l = 8 * max (size-Given l.frame.now.given) (size-Script l.frame.now.script) + 5

abbrev pub decreases-passed : goal.decreases-passed
decreases-passed l = 8 * size-Given l.given.now

abbrev pub decreases-lift : goal.decreases-lift
decreases-lift l = 8 * size-Script l.script.now + 1

abbrev pub decreases-lift_assignment : goal.decreases-lift_assignment
decreases-lift_assignment l = 8 * size-Script l.script.now

abbrev pub decreases-lift_put : goal.decreases-lift_put
decreases-lift_put l = 8 * size-Word l.word.now + 1

abbrev pub decreases-lift_ways : goal.decreases-lift_ways
decreases-lift_ways l = 8 * max (size-Word l.condition.now) (max (size-Script l.body.now) (size-Script l.ways.now)) + 4

abbrev pub decreases-lift_pick : goal.decreases-lift_pick
decreases-lift_pick l = 8 * max (size-Word l.selector.now) (size-Script l.arms.now) + 4

abbrev pub decreases-lift_turns : goal.decreases-lift_turns
decreases-lift_turns l = 8 * turns_size l.turns.items + 3

abbrev pub decreases-lift_turn : goal.decreases-lift_turn
decreases-lift_turn l = 8 * size-Script l.turn.body.now + 2

abbrev pub invariant-passed-registers : goal.invariant-passed-registers
invariant-passed-registers l = record {
  is : all_passed l.pool l.all.items ++ passed (state_of l.initial.pool l.state) (given_of l.left) ≡ passed (state_of l.initial.pool l.state) (given_of l.given);
  fit : AllPassedFit l.pool l.all.items;
  formed : GivenFormed (given_of l.left);
  is_static : IsStaticGiven (given_of l.left);
  keeps : Keeps l.initial.pool l.pool;
  less : size-Given l.left ≤ size-Given l.given;
}

abbrev pub decreases-passed-registers : goal.decreases-passed-registers
decreases-passed-registers l = size-Given l.left

abbrev pub invariant-lift-statements : goal.invariant-lift-statements
invariant-lift-statements l = record {
  is : lifted (script_of l.left) (state_of l.pool l.state) ≡ lifted (script_of l.script) (state_of l.initial.pool l.initial.state);
  fits : StateFits l.pool l.state;
  widths : widths_in l.state ≡ widths_in l.initial.state;
  count : length l.state.variables.items ≡ length l.initial.state.variables.items;
  formed : ScriptFormed (widths_in l.state) (script_of l.left);
  is_static : IsStatic (script_of l.left);
  keeps : Keeps l.initial.pool l.pool;
  less : size-Script l.left ≤ size-Script l.script;
}

abbrev pub decreases-lift-statements : goal.decreases-lift-statements
decreases-lift-statements l = size-Script l.left

abbrev pub invariant-lift_ways-ways : goal.invariant-lift_ways-ways
invariant-lift_ways-ways l = record {
  is : taken l.pool (state_of l.fn.pool l.before) l.turns.items (lifted (script_of l.left) (state_of l.fn.pool l.before))
      ≡ lifted (way (word_of l.fn.condition) (script_of l.fn.body) (script_of l.fn.ways)) (state_of l.fn.pool l.before);
  turns : TurnsFit l.pool (widths_in l.before) l.turns.items;
  formed : ScriptFormed (widths_in l.before) (script_of l.left);
  is_static : IsStatic (script_of l.left);
  keeps : Keeps l.fn.pool l.pool;
  less : size-Script l.left ≤ size-Script l.fn.ways;
  small : turns_size l.turns.items ≤ max (size-Script l.fn.body) (size-Script l.fn.ways);
}

abbrev pub decreases-lift_ways-ways : goal.decreases-lift_ways-ways
decreases-lift_ways-ways l = size-Script l.left

abbrev pub invariant-lift_pick-arms : goal.invariant-lift_pick-arms
invariant-lift_pick-arms l = record {
  is : taken l.pool (state_of l.fn.pool l.before) l.turns.items (lifted_arm (term (state_of l.fn.pool l.before) (word_of l.fn.selector)) (script_of l.left) (state_of l.fn.pool l.before))
      ≡ lifted_arm (term (state_of l.fn.pool l.before) (word_of l.fn.selector)) (script_of l.fn.arms) (state_of l.fn.pool l.before);
  selected : tree_at l.pool l.selected ≡ term (state_of l.fn.pool l.before) (word_of l.fn.selector);
  node : IsNode l.pool l.selected 128;
  turns : TurnsFit l.pool (widths_in l.before) l.turns.items;
  formed : ScriptFormed (widths_in l.before) (script_of l.left);
  is_static : IsStatic (script_of l.left);
  keeps : Keeps l.fn.pool l.pool;
  less : size-Script l.left ≤ size-Script l.fn.arms;
  small : turns_size l.turns.items ≤ size-Script l.fn.arms;
}

abbrev pub decreases-lift_pick-arms : goal.decreases-lift_pick-arms
decreases-lift_pick-arms l = size-Script l.left

abbrev pub invariant-lift_turns-turns : goal.invariant-lift_turns-turns
invariant-lift_turns-turns l = record {
  is : taken l.pool (state_of l.initial.pool l.before) l.turns.items (state_of l.pool l.state)
      ≡ taken l.initial.pool (state_of l.initial.pool l.before) l.initial.turns.items (state_of l.initial.pool l.initial.state);
  fits : StateFits l.pool l.state;
  widths : widths_in l.state ≡ widths_in l.before;
  count : length l.state.variables.items ≡ length l.before.variables.items;
  turns : TurnsFit l.pool (widths_in l.before) l.turns.items;
  keeps : Keeps l.initial.pool l.pool;
  small : turns_size l.turns.items ≤ turns_size l.initial.turns.items;
}

abbrev pub decreases-lift_turns-turns : goal.decreases-lift_turns-turns
decreases-lift_turns-turns l = length l.turns.items
