-- What a walk has in memory, as its definition speaks of it.
use Rattle.std.specs.Prelude.{ℕ, Bool, ◌%◌, ◌^◌, ◌∷◌, set, Option, Some, None, pos, List, [], ◌++◌, map, Result, Ok, if◌then◌else◌}
use Rattle.std.specs.Ordering.{int_eq}
use Rattle.vg_base.specs.Bind.{◌>>=◌}
use Rattle.vg_pseudo.specs.declared.spot.Spot.{Spot}
use Rattle.vg_pseudo.specs.declared.operators.UnaryOp.{UnaryOp}
use Rattle.vg_pseudo.specs.declared.operators.BinaryOp.{BinaryOp}
use Rattle.vg_text.specs.declared.place.Place.{Place}
use Rattle.vg_pseudo.specs.Value.{count}
use Rattle.vg_pseudo.specs.Instance.{kept_widths}
use Rattle.vg_pseudo.specs.Resolved.{Expr, Function, Code, assign, skip, repeat, choose, pick}
use Rattle.std.specs.Option.{option_map}
use Rattle.vg_script.specs.Script.{Word, Given, Script, frame, stop}
use Rattle.vg_script.specs.Script as script
use Rattle.vg_interval.specs.Found as found
use Rattle.vg_script.specs.Views.{number_of, script_of, word_of}
use Rattle.vg_names.specs.Views.{function_view}
use Rattle.vg_interval.specs.declared.fault.RangeFault.{RangeFault}
use Rattle.vg_interval.specs.Found.{Found, Operand, operand, plain, Passed, computed, passed, answered}
use Rattle.vg_interval.specs.Judge.{Sight, KnownNumber, Count, Index, Judges, branch, judge, spot_of, step, bits_of_element, index_of, slice_at, element_at, unary_at, binary_at}
use Rattle.vg_interval.specs.Views.{Condition, always, tested, condition_at, either, bits_view, count_view, kept_view}
use Rattle.vg_range.specs.Walk.{WalkContext, Goal, WalkState, walks_from, at_count, judged, constant_at, turns_at, in_turn, walk, walk_ways, no_ways, arms_of, arm_taken, all_arms, assign_at, goal, width_in, zeros, constant_passed, given_of}
use Rattle.vg_range.specs.declared.walk_context.WalkContext as seeing
use Rattle.vg_range.specs.declared.walk_state.WalkState as standing
use Rattle.vg_range.specs.declared.goal.Goal as goals
use Rattle.vg_range.specs.declared.decision.Decision as deciding
use Rattle.vg_range.specs.declared.decision.Decision.TheVariants as d

abbrev pub sight_view : seeing.WalkContext → Sight
sight_view x = record {
  widths = x.widths.now;
  constants = x.constants.now;
  turns = map number_of x.turns.now;
  walks = walks_from x.is_kept [] (map function_view x.functions.now);
}

abbrev pub context_view : seeing.WalkContext → WalkContext
context_view x = record { sight = sight_view x; is_kept = x.is_kept }

abbrev pub state_view : standing.WalkState → WalkState
state_view w = record {
  numbers = map kept_view w.numbers.items;
  count = count_view w.count;
  script = script_of w.script;
}

abbrev pub goal_view : goals.Goal → Goal
goal_view g = record { register = g.register; bits = bits_view g.bits }

-- what is known of an expression, with the counts after it
abbrev pub leaf : Found → Count → Result (Found × Count) RangeFault
leaf f c = Ok (f, c)

abbrev pub argument_of : Sight → List KnownNumber → Expr → Count → Result (Passed × Count) RangeFault
argument_of s ks x c = do
  f ← judge s ks x c
  p ← passed (spot_of x) f.0
  Ok (p, f.1)

-- one branch of a choice
abbrev pub plain_of : Result (Operand × Count) RangeFault → Result (Found × Count) RangeFault
plain_of branch = branch >>= λ a. Ok (plain a.0, a.1)

-- either branch of a choice, by a condition of one bit
abbrev pub either_of : Word → Spot → Judges → Spot → Judges → Count → Result (Found × Count) RangeFault
either_of y s first t second c = do
  a ← branch s first c
  b ← branch t second a.1
  Ok (either y a.0 b.0, b.1)

-- what is left of the uses of expressions, after the last expression in them: here it is known
abbrev pub slice_behind : Sight → Spot → Bool → ℕ → Option ℕ → Index → Spot → Found → Count →
    Result (Found × Count) RangeFault
slice_behind s p is_signed r n high t g c =
    index_of t g >>= λ low. slice_at s p.inner is_signed r n high low c

abbrev pub element_behind : Sight → Spot → Bool → ℕ → ℕ → Spot → Found → Count → Result (Found × Count) RangeFault
element_behind s p is_signed r size t f c =
    index_of t f >>= λ index. element_at s p.inner is_signed r size index c

abbrev pub unary_behind : Spot → UnaryOp → Spot → Found → Count → Result (Found × Count) RangeFault
unary_behind p op t f c = unary_at p op t f >>= λ g. Ok (g, c)

abbrev pub binary_behind : Spot → BinaryOp → Operand → Spot → Found → Count → Result (Found × Count) RangeFault
binary_behind p op a t g c = operand t g >>= λ b. binary_at p op t a b c

abbrev pub plain_behind : Spot → Found → Count → Result (Found × Count) RangeFault
plain_behind t f c = plain_of (operand t f >>= λ a. Ok (a, c))

abbrev pub either_behind : Word → Operand → Spot → Found → Count → Result (Found × Count) RangeFault
either_behind y a t g c = do
  b ← branch t (λ n. Ok (g, n)) c
  Ok (either y a b.0, b.1)

abbrev pub decision_view : deciding.Decision → Condition
decision_view (d.Always z) = always z
decision_view (d.Tested y) = tested (word_of y.value)

-- what a condition says, with the counts after it
abbrev pub tested_at : Spot → Result (Found × Count) RangeFault → Result (Condition × Count) RangeFault
tested_at s judged = do
  f ← judged
  d ← condition_at s f.0
  Ok (d, f.1)

-- a choice by what its condition says
abbrev pub by_condition : Spot → Judges → Spot → Judges → Condition → Count → Result (Found × Count) RangeFault
by_condition s first t second (always z) c =
    plain_of (if int_eq z (pos 0) then branch t second c else branch s first c)
by_condition s first t second (tested y) c = either_of y s first t second c

abbrev pub chosen_by : Result (Condition × Count) RangeFault → Spot → Judges → Spot → Judges →
    Result (Found × Count) RangeFault
chosen_by judged s first t second = judged >>= λ d. by_condition s first t second d.0 d.1

-- these arguments, and those that are still to be judged after them
abbrev pub behind_passed : List Passed → Result (List Passed × Count) RangeFault →
    Result (List Passed × Count) RangeFault
behind_passed done r = r >>= λ g. Ok (done ++ g.0, g.1)

-- another number in a number variable
abbrev pub number_set : WalkState → ℕ → KnownNumber → WalkState
number_set w k n = record { numbers = set w.numbers k n; count = w.count; script = w.script }

-- what stands after the first statement
abbrev pub rest_code : Code → Option Code
rest_code (assign place t e rest) = Some rest
rest_code (skip place rest) = Some rest
rest_code (repeat place a b body rest) = Some rest
rest_code (choose ways rest) = Some rest
rest_code (pick e arms rest) = Some rest
rest_code c = None

abbrev pub repeat_at : WalkContext → Place → Expr → Expr → Code → WalkState → Result WalkState RangeFault
repeat_at x place a b body w = do
  first ← constant_at x w a
  final ← constant_at x first.1 b
  turns_at (λ z u. walk (in_turn x z) body u) place first.0 (count first.0 final.0) final.1

abbrev pub pick_at : WalkContext → Expr → Code → WalkState → Result WalkState RangeFault
pick_at x e arms w = do
  f ← judged x w e
  a ← operand (spot_of e) f.0
  arms_of x (at_count w f.1) a (arm_taken x arms) (all_arms x arms)

abbrev pub choose_at : WalkContext → Code → WalkState → Result WalkState RangeFault
choose_at x ways w = walk_ways x ways w no_ways w.count

abbrev pub skip_at : Place → WalkState → Result WalkState RangeFault
skip_at place w = step place w.count >>= λ c. Ok (at_count w c)

-- the first statement alone
abbrev pub first_of : WalkContext → Code → WalkState → Result WalkState RangeFault
first_of x (assign place t e rest) w = assign_at x place t e w
first_of x (skip place rest) w = skip_at place w
first_of x (repeat place a b body rest) w = repeat_at x place a b body w
first_of x (choose ways rest) w = choose_at x ways w
first_of x (pick e arms rest) w = pick_at x e arms w
first_of x c w = Ok w

abbrev pub whole_goal : WalkContext → Place → ℕ → ℕ → Result Goal RangeFault
whole_goal x place r width =
    bits_of_element place (width_in x r) width (pos 0) >>= λ b. Ok (goal r b)

-- where a body of so many number variables begins
abbrev pub begun_with : ℕ → Count → WalkState
begun_with n c = record { numbers = zeros n; count = c; script = stop }

-- the number of the first argument where it is constant, cut to a width
abbrev pub first_constant : ℕ → List Passed → Option ℕ
first_constant w [] = None
first_constant w (p ∷ given) = option_map (λ n. n % 2 ^ w) (constant_passed p)

-- one argument in front of others
abbrev pub given_first : Passed → Given → Given
given_first (found.constant n) rest = script.number n rest
given_first (computed y) rest = script.word y rest
given_first (found.bits r l w) rest = script.moved r l w rest

abbrev pub given_onto : List Passed → Given → Given
given_onto [] rest = rest
given_onto (p ∷ given) rest = given_first p (given_onto given rest)

-- what a call gives whose body leaves this script and whose RETURN this
abbrev pub answered_by : Function → List Passed → Script → Found → Count → Result (Found × Count) RangeFault
answered_by f given s g c =
    answered (spot_of f.answer) (frame (kept_widths f.body.widths) f.body.numbers (given_of given) s) g >>= λ a. Ok (a, c)
