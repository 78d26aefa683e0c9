-- A walk along the turns of a FOR, the ways of an IF and the arms of a CASE, one at a time.
use Rattle.std.specs.Prelude.{ℕ, ◌+◌, ℤ, pos, ◌+ℤ◌, nat_lt, [], map, reverse, Option, Some, None, Result, Ok, if◌then◌else◌}
use Rattle.std.specs.Option.{option_map}
use Rattle.std.specs.Ordering.{int_eq}
use Rattle.vg_base.specs.Bind.{◌>>=◌}
use Rattle.vg_text.specs.declared.place.Place.{Place}
use Rattle.vg_pseudo.specs.Resolved.{Expr, Code, way, last, arm}
use Rattle.vg_pseudo.specs.Value.{count}
use Rattle.vg_script.specs.Script.{Word, Script}
use Rattle.vg_script.specs.Views.{script_of, word_of}
use Rattle.vg_interval.specs.declared.fault.RangeFault.{RangeFault}
use Rattle.vg_interval.specs.Found.{Operand, fixed, moving}
use Rattle.vg_interval.specs.Judge.{Count, judge, spot_of, step}
use Rattle.vg_interval.specs.Views.{Condition, always, tested, count_view, kept_view}
use Rattle.vg_range.specs.Seen.{state_view, tested_at}
use Rattle.vg_range.specs.Walk.{WalkContext, WalkState, Ways, Arms, at_count, beginning, closed, with_way, with_arm, with_script, in_turn, turns_at, walk, walk_ways, arm_taken, all_arms, arms_of, pick_of}
use Rattle.vg_range.specs.declared.ways.WayTaken as taken_ways
use Rattle.vg_range.specs.declared.ways.Ways as found_ways
use Rattle.vg_range.specs.declared.ways.WayStep as ways_met
use Rattle.vg_range.specs.declared.ways.WayStep.TheVariants as m
use Rattle.vg_range.specs.declared.arms.ArmTaken as taken_arms
use Rattle.vg_range.specs.declared.arms.Arms as found_arms
use Rattle.vg_range.specs.declared.selector.Selector as selecting
use Rattle.vg_range.specs.declared.selector.Selector.TheVariants as s

-- a turn of a FOR, which is a step
abbrev pub turn_at : WalkContext → Place → Code → ℤ → WalkState → Result WalkState RangeFault
turn_at x place body z w = do
  c ← step place w.count
  walk (in_turn x z) body (at_count w c)

-- all turns from here to the last
abbrev pub turns_through : WalkContext → Place → Code → ℤ → ℤ → WalkState → Result WalkState RangeFault
turns_through x place body z l w = turns_at (λ y u. walk (in_turn x y) body u) place z (count z l) w

-- the first turn of those from here to the last, if there is one
abbrev pub first_turn : ℤ → ℤ → Option ℤ
first_turn z l = if nat_lt 0 (count z l) then Some z else None

-- the turns that are left, by the first of them
abbrev pub turns_left : WalkContext → Place → Code → ℤ → Option ℤ → WalkState → Result WalkState RangeFault
turns_left x place body l None w = Ok w
turns_left x place body l (Some z) w = do
  v ← turn_at x place body z w
  turns_through x place body (z +ℤ pos 1) l v

abbrev pub how_many : ℤ → Option ℤ → ℕ
how_many l None = 0
how_many l (Some z) = 1 + count (z +ℤ pos 1) l

-- A way that was looked at: others may be taken after those found, or it is the last.
pub data WayStep : Type 0 where
  further : Ways → Count → WayStep
  final : Ways → WalkState → WayStep

abbrev pub way_by : WalkContext → Result WalkState RangeFault → Ways → Condition → Count → Result WayStep RangeFault
way_by x body found (always z) n =
    if int_eq z (pos 0) then Ok (further found n) else (body >>= λ u. Ok (final found u))
way_by x body found (tested y) n = body >>= λ u. Ok (further (with_way x y u found) u.count)

abbrev pub way_at : WalkContext → Expr → Code → WalkState → Ways → Count → Result WayStep RangeFault
way_at x c body w found n = do
  d ← tested_at (spot_of c) (judge x.sight w.numbers c n)
  way_by x (walk x body (beginning w d.1)) found d.0 d.1

-- the last way, or none
abbrev pub last_at : WalkContext → Code → WalkState → Count → Result WalkState RangeFault
last_at x (last body) w n = walk x body (beginning w n)
last_at x c w n = Ok (beginning w n)

-- the first of these ways
abbrev pub first_way : WalkContext → Code → WalkState → Ways → Count → Result WayStep RangeFault
first_way x (way c body more) w found n = way_at x c body w found n
first_way x c w found n = last_at x c w n >>= λ v. Ok (final found v)

-- the ways after the first
abbrev pub rest_ways : Code → Option Code
rest_ways (way c body more) = Some more
rest_ways c = None

abbrev pub ways_behind : WalkContext → Code → WalkState → WayStep → Result WalkState RangeFault
ways_behind x more w (further found n) = walk_ways x more w found n
ways_behind x more w (final found v) = Ok (closed x w found v)

-- the body of the first arm of this number
abbrev pub arm_of : ℤ → Code → Option Code
arm_of z (arm n body more) = if int_eq z (pos n) then Some body else arm_of z more
arm_of z c = None

-- the first of these arms
abbrev pub first_arm : WalkContext → Code → WalkState → Arms → Count → Result (Arms × Count) RangeFault
first_arm x (arm n body more) w found c = do
  v ← walk x body (beginning w c)
  Ok (with_arm x n v found, v.count)
first_arm x c w found n = Ok (found, n)

-- the arms after the first
abbrev pub rest_arms : Code → Option Code
rest_arms (arm n body more) = Some more
rest_arms c = None

-- a CASE whose selector is not constant, by its arms
abbrev pub picked_by : WalkContext → Word → WalkState → Arms → Count → WalkState
picked_by x y w found c =
    with_script x (pick_of y found.scripts)
    (record { numbers = found.joined; count = c; script = w.script })

abbrev pub no_arms : WalkState → Arms
no_arms w = record { scripts = []; joined = w.numbers }

abbrev pub arms_found : WalkContext → Code → WalkState → Result (Arms × Count) RangeFault
arms_found x arms w = all_arms x arms w (no_arms w) w.count

abbrev pub arms_picked : WalkContext → Code → Word → WalkState → Result WalkState RangeFault
arms_picked x arms y w = arms_found x arms w >>= λ g. Ok (picked_by x y w g.0 g.1)

abbrev pub picked : WalkContext → Code → WalkState → Operand → Result WalkState RangeFault
picked x arms w a = arms_of x w a (arm_taken x arms) (all_arms x arms)

abbrev pub selector_view : selecting.Selector → Operand
selector_view (s.Fixed z) = fixed z
selector_view (s.Moving i y) = moving i (word_of y.value)

-- What is found so far, in memory: there the last is at the end.
abbrev pub way_view : taken_ways.WayTaken → Word × Script
way_view w = (word_of w.condition, script_of w.body)

abbrev pub ways_view : found_ways.Ways → Ways
ways_view w = record {
  scripts = reverse (map way_view w.scripts.items);
  joined = option_map (λ ks. map kept_view ks.items) w.joined;
}

abbrev pub way_step_view : ways_met.WayStep → WayStep
way_step_view (m.Further found n) = further (ways_view found.value) (count_view n)
way_step_view (m.Final found w) = final (ways_view found.value) (state_view w.value)

abbrev pub arm_view : taken_arms.ArmTaken → ℕ × Script
arm_view a = (a.number, script_of a.body)

abbrev pub arms_view : found_arms.Arms → Arms
arms_view a = record {
  scripts = reverse (map arm_view a.scripts.items);
  joined = map kept_view a.joined.items;
}
