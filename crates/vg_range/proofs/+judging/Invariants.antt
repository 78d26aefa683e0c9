-- What is looked at first is smaller than what it stands in, and so are the DEFINEs that a call may
-- reach; what is left in a loop, after what is found, gives what all of it gives.
use Rattle.std.proofs.Common.{◌≡◌, map, ◌+◌, ◌*◌, ◌≤◌}
use Rattle.std.specs.Option.{option_map}
use Rattle.vg_interval.specs.Judge.{judge_all}
use Rattle.vg_interval.specs.Views.{count_view, kept_view, passed_view}
use Rattle.vg_names.specs.Views.{code_view, expr_of, function_view, list_of, target_view}
use Rattle.vg_script.specs.Views.{number_of}
use Rattle.vg_range.specs.Steps.{arms_found, arms_view, how_many, turns_left, turns_through, ways_view}
use Rattle.vg_range.specs.Seen.{behind_passed, choose_at, context_view, sight_view, state_view}
use Rattle.vg_range.specs.Walk.{all_arms, walk, walk_ways}
use Rattle.vg_range.specs.Weight.{weight, list_weight, target_weight, code_weight, all_weight}
use Rattle.vg_range.proofs.+judging.Given as goal

abbrev pub decreases-judging::judge : goal.decreases-judging::judge
decreases-judging::judge l = 16 * all_weight (map function_view l.context.now.functions.now) + 16 * weight (expr_of l.expr.now)

abbrev pub decreases-judging::slice_of : goal.decreases-judging::slice_of
decreases-judging::slice_of l = 16 * all_weight (map function_view l.context.now.functions.now) + 16 * (weight (expr_of l.high.now) + weight (expr_of l.low.now)) + 1

abbrev pub decreases-judging::element_of : goal.decreases-judging::element_of
decreases-judging::element_of l = 16 * all_weight (map function_view l.context.now.functions.now) + 16 * weight (expr_of l.index.now) + 1

abbrev pub decreases-judging::unary : goal.decreases-judging::unary
decreases-judging::unary l = 16 * all_weight (map function_view l.context.now.functions.now) + 16 * weight (expr_of l.expr.now) + 1

abbrev pub decreases-judging::binary : goal.decreases-judging::binary
decreases-judging::binary l = 16 * all_weight (map function_view l.context.now.functions.now) + 16 * (weight (expr_of l.left.now) + weight (expr_of l.right.now)) + 1

abbrev pub decreases-judging::tested : goal.decreases-judging::tested
decreases-judging::tested l = 16 * all_weight (map function_view l.context.now.functions.now) + 16 * weight (expr_of l.expr.now) + 1

abbrev pub decreases-judging::one_of : goal.decreases-judging::one_of
decreases-judging::one_of l = 16 * all_weight (map function_view l.context.now.functions.now) + 16 * weight (expr_of l.expr.now) + 2

abbrev pub decreases-judging::both_of : goal.decreases-judging::both_of
decreases-judging::both_of l = 16 * all_weight (map function_view l.context.now.functions.now) + 16 * (weight (expr_of l.first.now) + weight (expr_of l.second.now)) + 2

abbrev pub decreases-judging::choice : goal.decreases-judging::choice
decreases-judging::choice l = 16 * all_weight (map function_view l.context.now.functions.now) + 16 * (weight (expr_of l.condition.now) + weight (expr_of l.first.now) + weight (expr_of l.second.now)) + 3

abbrev pub decreases-judging::argument : goal.decreases-judging::argument
decreases-judging::argument l = 16 * all_weight (map function_view l.context.now.functions.now) + 16 * weight (expr_of l.expr.now) + 1

abbrev pub decreases-judging::judge_all : goal.decreases-judging::judge_all
decreases-judging::judge_all l = 16 * all_weight (map function_view l.context.now.functions.now) + 16 * list_weight (list_of l.arguments.now)

abbrev pub decreases-judging::call : goal.decreases-judging::call
decreases-judging::call l = 16 * all_weight (map function_view l.context.now.functions.now) + 16 * list_weight (list_of l.arguments.now) + 1

abbrev pub decreases-calling::called : goal.decreases-calling::called
decreases-calling::called l = 16 * all_weight (map function_view l.functions.now) + 16 * (code_weight (code_view l.function.now.body.code) + weight (expr_of l.function.now.answer)) + 8

abbrev pub decreases-calling::called_at : goal.decreases-calling::called_at
decreases-calling::called_at l = 16 * all_weight (map function_view l.functions.now)

abbrev pub decreases-code_walk::settled : goal.decreases-code_walk::settled
decreases-code_walk::settled l = 16 * all_weight (map function_view l.context.now.functions.now) + 16 * weight (expr_of l.expr.now) + 2

abbrev pub decreases-code_walk::bits_goal : goal.decreases-code_walk::bits_goal
decreases-code_walk::bits_goal l = 16 * all_weight (map function_view l.context.now.functions.now) + 16 * (weight (expr_of l.high.now) + weight (expr_of l.low.now)) + 3

abbrev pub decreases-code_walk::lane_goal : goal.decreases-code_walk::lane_goal
decreases-code_walk::lane_goal l = 16 * all_weight (map function_view l.context.now.functions.now) + 16 * weight (expr_of l.index.now) + 3

abbrev pub decreases-code_walk::goal_at : goal.decreases-code_walk::goal_at
decreases-code_walk::goal_at l = 16 * all_weight (map function_view l.context.now.functions.now) + 16 * target_weight (target_view l.target.now) + 4

abbrev pub decreases-estimating::estimate : goal.decreases-estimating::estimate
decreases-estimating::estimate l = 16 * all_weight (map function_view l.context.now.functions.now) + 16 * weight (expr_of l.expr.now) + 3

abbrev pub decreases-estimating::judged : goal.decreases-estimating::judged
decreases-estimating::judged l = 16 * all_weight (map function_view l.context.now.functions.now) + 16 * weight (expr_of l.expr.now) + 1

abbrev pub decreases-estimating::slice : goal.decreases-estimating::slice
decreases-estimating::slice l = 16 * all_weight (map function_view l.context.now.functions.now) + 16 * (weight (expr_of l.high.now) + weight (expr_of l.low.now)) + 2

abbrev pub decreases-estimating::joined : goal.decreases-estimating::joined
decreases-estimating::joined l = 16 * all_weight (map function_view l.context.now.functions.now) + 16 * (weight (expr_of l.left.now) + weight (expr_of l.right.now)) + 4

abbrev pub decreases-estimating::decided : goal.decreases-estimating::decided
decreases-estimating::decided l = 16 * all_weight (map function_view l.context.now.functions.now) + 16 * weight (expr_of l.expr.now) + 4

abbrev pub decreases-giving::given : goal.decreases-giving::given
decreases-giving::given l = 16 * all_weight (map function_view l.context.now.functions.now) + 16 * weight (expr_of l.value.now) + 2

abbrev pub decreases-giving::number_given : goal.decreases-giving::number_given
decreases-giving::number_given l = 16 * all_weight (map function_view l.context.now.functions.now) + 16 * weight (expr_of l.value.now) + 4

abbrev pub decreases-giving::bits_given : goal.decreases-giving::bits_given
decreases-giving::bits_given l = 16 * all_weight (map function_view l.context.now.functions.now) + 16 * weight (expr_of l.value.now) + 4

abbrev pub decreases-giving::given_unwritten : goal.decreases-giving::given_unwritten
decreases-giving::given_unwritten l = 16 * all_weight (map function_view l.context.now.functions.now) + 16 * weight (expr_of l.value.now) + 5

abbrev pub decreases-code_walk::assign_at : goal.decreases-code_walk::assign_at
decreases-code_walk::assign_at l = 16 * all_weight (map function_view l.context.now.functions.now) + 16 * (target_weight (target_view l.target.now) + weight (expr_of l.value.now)) + 6

abbrev pub decreases-code_walk::turn_at : goal.decreases-code_walk::turn_at
decreases-code_walk::turn_at l = 16 * all_weight (map function_view l.context.now.functions.now) + 16 * code_weight (code_view l.body.now) + 8

abbrev pub decreases-code_walk::turns_through : goal.decreases-code_walk::turns_through
decreases-code_walk::turns_through l = 16 * all_weight (map function_view l.context.now.functions.now) + 16 * code_weight (code_view l.body.now) + 9

abbrev pub decreases-code_walk::repeat_at : goal.decreases-code_walk::repeat_at
decreases-code_walk::repeat_at l = 16 * all_weight (map function_view l.context.now.functions.now) + 16 * (1 + weight (expr_of l.first.now) + weight (expr_of l.last.now) + code_weight (code_view l.body.now)) + 5

abbrev pub decreases-code_walk::walk_apart : goal.decreases-code_walk::walk_apart
decreases-code_walk::walk_apart l = 16 * all_weight (map function_view l.context.now.functions.now) + 16 * code_weight (code_view l.body.now) + 8

abbrev pub decreases-code_walk::way_at : goal.decreases-code_walk::way_at
decreases-code_walk::way_at l = 16 * all_weight (map function_view l.context.now.functions.now) + 16 * (weight (expr_of l.condition.now) + code_weight (code_view l.body.now)) + 10

abbrev pub decreases-code_walk::last_at : goal.decreases-code_walk::last_at
decreases-code_walk::last_at l = 16 * all_weight (map function_view l.context.now.functions.now) + 16 * code_weight (code_view l.code.now) + 11

abbrev pub decreases-code_walk::first_way : goal.decreases-code_walk::first_way
decreases-code_walk::first_way l = 16 * all_weight (map function_view l.context.now.functions.now) + 16 * code_weight (code_view l.code.now) + 12

abbrev pub decreases-code_walk::choose_at : goal.decreases-code_walk::choose_at
decreases-code_walk::choose_at l = 16 * all_weight (map function_view l.context.now.functions.now) + 16 * code_weight (code_view l.ways.now) + 13

abbrev pub decreases-code_walk::first_arm : goal.decreases-code_walk::first_arm
decreases-code_walk::first_arm l = 16 * all_weight (map function_view l.context.now.functions.now) + 16 * code_weight (code_view l.code.now) + 11

abbrev pub decreases-code_walk::arms_found : goal.decreases-code_walk::arms_found
decreases-code_walk::arms_found l = 16 * all_weight (map function_view l.context.now.functions.now) + 16 * code_weight (code_view l.arms.now) + 12

abbrev pub decreases-code_walk::arms_picked : goal.decreases-code_walk::arms_picked
decreases-code_walk::arms_picked l = 16 * all_weight (map function_view l.context.now.functions.now) + 16 * code_weight (code_view l.arms.now) + 13

abbrev pub decreases-code_walk::picked : goal.decreases-code_walk::picked
decreases-code_walk::picked l = 16 * all_weight (map function_view l.context.now.functions.now) + 16 * code_weight (code_view l.arms.now) + 14

abbrev pub decreases-code_walk::pick_at : goal.decreases-code_walk::pick_at
decreases-code_walk::pick_at l = 16 * all_weight (map function_view l.context.now.functions.now) + 16 * (weight (expr_of l.selector.now) + code_weight (code_view l.arms.now)) + 15

abbrev pub decreases-code_walk::first_of : goal.decreases-code_walk::first_of
decreases-code_walk::first_of l = 16 * all_weight (map function_view l.context.now.functions.now) + 16 * code_weight (code_view l.code.now) + 6

abbrev pub decreases-code_walk::walk : goal.decreases-code_walk::walk
decreases-code_walk::walk l = 16 * all_weight (map function_view l.context.now.functions.now) + 16 * code_weight (code_view l.code.now) + 7

abbrev pub invariant-judging::judge_all-arguments : goal.invariant-judging::judge_all-arguments
invariant-judging::judge_all-arguments l = record {
  same : behind_passed (map passed_view l.given.items) (judge_all (sight_view l.context) (map kept_view l.numbers) (list_of l.left) (count_view l.count)) ≡ judge_all (sight_view l.context) (map kept_view l.numbers) (list_of l.fn.arguments) (count_view l.fn.count);
  inside : list_weight (list_of l.left) ≤ list_weight (list_of l.fn.arguments);
}

abbrev pub invariant-code_walk::walk-statements : goal.invariant-code_walk::walk-statements
invariant-code_walk::walk-statements l = record {
  same : walk (context_view l.context) (code_view l.left) (state_view l.state.value) ≡ walk (context_view l.context) (code_view l.fn.code) (state_view l.fn.state.value);
  inside : code_weight (code_view l.left) ≤ code_weight (code_view l.fn.code);
}

abbrev pub decreases-code_walk::walk-statements : goal.decreases-code_walk::walk-statements
decreases-code_walk::walk-statements l = code_weight (code_view l.left)

abbrev pub invariant-code_walk::turns_through-turns : goal.invariant-code_walk::turns_through-turns
invariant-code_walk::turns_through-turns l =
    turns_left (context_view l.context) l.place (code_view l.body) (number_of l.last) (option_map number_of l.left) (state_view l.state.value)
    ≡ turns_through (context_view l.context) l.place (code_view l.body) (number_of l.fn.first) (number_of l.last) (state_view l.fn.state.value)

abbrev pub decreases-code_walk::turns_through-turns : goal.decreases-code_walk::turns_through-turns
decreases-code_walk::turns_through-turns l = how_many (number_of l.last) (option_map number_of l.left)

abbrev pub invariant-code_walk::choose_at-ways : goal.invariant-code_walk::choose_at-ways
invariant-code_walk::choose_at-ways l = record {
  same : walk_ways (context_view l.context) (code_view l.left) (state_view l.state.value) (ways_view l.found.value) (count_view l.count) ≡ choose_at (context_view l.context) (code_view l.fn.ways) (state_view l.fn.state.value);
  inside : code_weight (code_view l.left) ≤ code_weight (code_view l.fn.ways);
}

abbrev pub decreases-code_walk::choose_at-ways : goal.decreases-code_walk::choose_at-ways
decreases-code_walk::choose_at-ways l = code_weight (code_view l.left)

abbrev pub invariant-code_walk::arms_found-arms : goal.invariant-code_walk::arms_found-arms
invariant-code_walk::arms_found-arms l = record {
  same : all_arms (context_view l.context) (code_view l.left) (state_view l.state) (arms_view l.found.value) (count_view l.count) ≡ arms_found (context_view l.context) (code_view l.fn.arms) (state_view l.state);
  inside : code_weight (code_view l.left) ≤ code_weight (code_view l.fn.arms);
}

abbrev pub decreases-code_walk::arms_found-arms : goal.decreases-code_walk::arms_found-arms
decreases-code_walk::arms_found-arms l = code_weight (code_view l.left)
