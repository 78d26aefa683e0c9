-- An instance, looked at in the order in which it runs: what it refuses first, or its script.
use Rattle.std.specs.Prelude.{ℕ, zero, suc, ◌%◌, ◌^◌, ℤ, pos, ◌+ℤ◌, Bool, true, false, ◌&&◌, nat_le, min, List, [], ◌∷◌, ◌++◌, get_or, set, take, Option, Some, None, Result, Ok, Err, if◌then◌else◌}
use Rattle.std.specs.Option.{option_map}
use Rattle.std.specs.Ordering.{int_eq}
use Rattle.vg_base.specs.Bind.{◌>>=◌}
use Rattle.vg_text.specs.declared.place.Place.{Place}
use Rattle.vg_pseudo.specs.declared.spot.Spot.{Spot}
use Rattle.vg_pseudo.specs.Resolved.{Expr, Target, bits, lane, whole, number, Code, stop, assign, skip, repeat, choose, way, last, pick, arm, Body, Function, Resolved}
use Rattle.vg_pseudo.specs.Value.{count}
use Rattle.vg_pseudo.specs.Instance.{kept_widths}
use Rattle.vg_script.specs.Script.{Word, Low, Frame, frame, Given, Script}
use Rattle.vg_script.specs.Script as script
use Rattle.vg_interval.specs.declared.fault.RangeFault.{RangeFault}
use Rattle.vg_interval.specs.declared.fault.RangeFault.TheVariants.{DynamicIndex, TooWide}
use Rattle.vg_interval.specs.declared.span.Span.{Span}
use Rattle.vg_interval.specs.Interval.{between, hull}
use Rattle.vg_interval.specs.Words as words
use Rattle.vg_interval.specs.Found.{Found, known, read, handed, bit, within, wide, loose, Operand, fixed, moving, word_of, slice_word, handed_word, operand, condition, Passed, computed, answered}
use Rattle.vg_interval.specs.Found as found
use Rattle.vg_interval.specs.Judge.{KnownNumber, constant, varying, Count, step, Walk, Sight, Bits, bits_between, bits_of_element, Index, settled, unsettled, index_of, spot_of, judge}

-- Where a walk stands: what is known of the number variables, the counts, and the script so far.
pub record WalkState : Type 0 where
  pub numbers : List KnownNumber
  pub count : Count
  pub script : Script

abbrev pub at_count : WalkState → Count → WalkState
at_count w c = record { numbers = w.numbers; count = c; script = w.script }

abbrev pub is_empty : Script → Bool
is_empty script.stop = true
is_empty s = false

-- one script after the other, either of which may be empty
abbrev pub behind : Script → Script → Script
behind s t = if is_empty t then s else if is_empty s then t else script.both s t

-- what a body sees: also whether scripts are kept, or left empty where the instance is only judged
pub record WalkContext : Type 0 where
  pub sight : Sight
  pub is_kept : Bool

abbrev pub with_script : WalkContext → Script → WalkState → WalkState
with_script x s w =
    if x.is_kept then record {
      numbers =
          w.numbers;
      count = w.count;
      script = behind w.script s;
    } else w

abbrev pub judged : WalkContext → WalkState → Expr → Result (Found × Count) RangeFault
judged x w e = judge x.sight w.numbers e w.count

-- a bound or an index of a target, which has to be constant
abbrev pub constant_index : Place → Index → Result ℤ RangeFault
constant_index place (settled z) = Ok z
constant_index place (unsettled a) = Err (DynamicIndex place)

abbrev pub constant_at : WalkContext → WalkState → Expr → Result (ℤ × WalkState) RangeFault
constant_at x w e = do
  f ← judged x w e
  i ← index_of (spot_of e) f.0
  z ← constant_index (spot_of e).outer i
  Ok (z, at_count w f.1)

-- the bits of a register that an assignment writes
pub record Goal : Type 0 where
  pub register : ℕ
  pub bits : Bits

abbrev pub goal : ℕ → Bits → Goal
goal r b = record { register = r; bits = b }

-- how many bits of a register an assignment can write: 512 are kept
abbrev pub width_in : WalkContext → ℕ → ℕ
width_in x r = min 512 (get_or x.sight.widths r 0)

-- the target at this place; None is a number variable
abbrev pub goal_at : WalkContext → Place → WalkState → Target → Result (Option Goal × WalkState) RangeFault
goal_at x place w (bits r h l) = do
  high ← constant_at x w h
  low ← constant_at x high.1 l
  b ← bits_between place (width_in x r) high.0 low.0
  Ok (Some (goal r b), low.1)
goal_at x place w (lane r size k) = do
  index ← constant_at x w k
  b ← bits_of_element place (width_in x r) size index.0
  Ok (Some (goal r b), index.1)
goal_at x place w (whole r width) = do
  b ← bits_of_element place (width_in x r) width (pos 0)
  Ok (Some (goal r b), w)
goal_at x place w (number k) = Ok (None, w)

-- a number that is no move goes into at most 128 bits
abbrev pub put_word : Place → Goal → Word → Result Script RangeFault
put_word place g y =
    if nat_le g.bits.width 128 then Ok (script.put g.register g.bits.low g.bits.width y)
    else Err (TooWide place)

-- What is stored in bits: a constant; a slice at least as wide, which is a move; or the low bits of
-- a number.
abbrev pub stored : Spot → Goal → Found → Result Script RangeFault
stored s g (known z v) = Ok (script.fill g.register g.bits.low g.bits.width z)
stored s g (read is_signed q l v) =
    if nat_le g.bits.width v then Ok (script.copy g.register g.bits.low g.bits.width q l)
    else put_word s.outer g (slice_word is_signed q l v)
stored s g (handed f q l v) =
    if nat_le g.bits.width v then Ok (script.copy_from g.register g.bits.low g.bits.width f q l)
    else put_word s.outer g (handed_word f q l v)
stored s g (bit y) = put_word s.outer g (words.extended false 1 y)
stored s g (within i y) = put_word s.outer g y
stored s g (wide y) = put_word s.outer g y
stored s g (loose y) = Err (TooWide s.inner)

abbrev pub kept_of : Operand → KnownNumber
kept_of (fixed z) = constant z
kept_of (moving i y) = varying i

abbrev pub target_number : Target → ℕ
target_number (number k) = k
target_number t = 0

-- an assignment of what its right side gives
abbrev pub assigned : WalkContext → Spot → Target → Option Goal → Found → WalkState → Result WalkState RangeFault
assigned x s t (Some g) f w = do
  made ← stored s g f
  Ok (with_script x made w)
assigned x s t None f w = do
  a ← operand s f
  Ok (with_script x (script.give (target_number t) (word_of a))
      (record {
        numbers =
            set w.numbers (target_number t) (kept_of a);
        count = w.count;
        script = w.script;
      }))

abbrev pub assign_at : WalkContext → Place → Target → Expr → WalkState → Result WalkState RangeFault
assign_at x place t e w = do
  c ← step place w.count
  g ← goal_at x place (at_count w c) t
  f ← judged x g.1 e
  assigned x (spot_of e) t g.0 f.0 (at_count g.1 f.1)

abbrev pub kept_span : KnownNumber → Span
kept_span (constant z) = between z z
kept_span (varying i) = i

abbrev pub join_kept : KnownNumber → KnownNumber → KnownNumber
join_kept (constant y) (constant z) =
    if int_eq y z then constant y else varying (hull (between y y) (between z z))
join_kept a b = varying (hull (kept_span a) (kept_span b))

-- what is known where either way was taken
abbrev pub join : List KnownNumber → List KnownNumber → List KnownNumber
join (a ∷ as') (b ∷ bs) = join_kept a b ∷ join as' bs
join as' bs = []

-- a body in a turn of a FOR
abbrev pub in_turn : WalkContext → ℤ → WalkContext
in_turn x z = record {
  sight = record {
    widths = x.sight.widths;
    constants = x.sight.constants;
    turns = z ∷ x.sight.turns;
    walks = x.sight.walks;
  };
  is_kept = x.is_kept;
}

-- so many turns, upwards from this number, each of which is a step
abbrev pub turns_at : (ℤ → WalkState → Result WalkState RangeFault) → Place → ℤ → ℕ → WalkState
    → Result WalkState RangeFault
turns_at body place z zero w = Ok w
turns_at body place z (suc n) w = do
  c ← step place w.count
  v ← body z (at_count w c)
  turns_at body place (z +ℤ pos 1) n v

-- Ways that may be taken, found so far: the conditions and the scripts, the last first, and what is
-- known after any of them.
pub record Ways : Type 0 where
  pub scripts : List (Word × Script)
  pub joined : Option (List KnownNumber)

abbrev pub no_ways : Ways
no_ways = record { scripts = []; joined = None }

abbrev pub joined_with : Option (List KnownNumber) → List KnownNumber → List KnownNumber
joined_with None ks = ks
joined_with (Some js) ks = join js ks

-- one way more
abbrev pub with_way : WalkContext → Word → WalkState → Ways → Ways
with_way x condition w ways = record {
  scripts = if x.is_kept then (condition, w.script) ∷ ways.scripts else [];
  joined = Some (joined_with ways.joined w.numbers);
}

-- the ways in their order in front of what the last one does
abbrev pub in_front : List (Word × Script) → Script → Script
in_front [] s = s
in_front (w ∷ ws) s = in_front ws (script.way w.0 w.1 s)

abbrev pub does_nothing : List (Word × Script) → Script → Bool
does_nothing [] s = is_empty s
does_nothing (w ∷ ws) s = is_empty w.1 && does_nothing ws s

-- an IF of these ways and this last one; where there are no ways before it, the last alone
abbrev pub branch_of : List (Word × Script) → Script → Script
branch_of [] s = s
branch_of ws s =
    if does_nothing ws s then script.stop else script.branch (in_front ws (script.last s))

-- the last way is taken where no other is
abbrev pub closed : WalkContext → WalkState → Ways → WalkState → WalkState
closed x w ways v =
    with_script x (branch_of ways.scripts v.script) (record {
      numbers = joined_with ways.joined v.numbers;
      count = v.count;
      script = w.script;
    })

-- where an IF or a CASE begins, with an empty script and these counts
abbrev pub beginning : WalkState → Count → WalkState
beginning w c = record { numbers = w.numbers; count = c; script = script.stop }

-- Arms that may be taken, the last first, and what is known after any of them or none.
pub record Arms : Type 0 where
  pub scripts : List (ℕ × Script)
  pub joined : List KnownNumber

abbrev pub arms_in_front : List (ℕ × Script) → Script → Script
arms_in_front [] s = s
arms_in_front (a ∷ rest) s = arms_in_front rest (script.arm a.0 a.1 s)

abbrev pub arms_do_nothing : List (ℕ × Script) → Bool
arms_do_nothing [] = true
arms_do_nothing (a ∷ rest) = is_empty a.1 && arms_do_nothing rest

abbrev pub pick_of : Word → List (ℕ × Script) → Script
pick_of y arms =
    if arms_do_nothing arms then script.stop else script.pick y (arms_in_front arms script.stop)

abbrev pub with_arm : WalkContext → ℕ → WalkState → Arms → Arms
with_arm x n w arms = record {
  scripts = if x.is_kept then (n, w.script) ∷ arms.scripts else [];
  joined = join arms.joined w.numbers;
}

-- A CASE, by how one arm is taken and by how all are looked at: a constant selector chooses one,
-- else all are looked at.
abbrev pub arms_of : WalkContext → WalkState → Operand → (WalkState → ℤ → Result WalkState RangeFault)
    → (WalkState → Arms → Count → Result (Arms × Count) RangeFault) → Result WalkState RangeFault
arms_of x w (fixed z) one all = one w z
arms_of x w (moving i y) one all = do
  found ← all w (record { scripts = []; joined = w.numbers }) w.count
  Ok (with_script x (pick_of y found.0.scripts)
      (record { numbers = found.0.joined; count = found.1; script = w.script }))

-- A way, by how its body goes, what is looked at after a body that may be taken, what else there
-- is, and what is left after a body that is the last.
abbrev pub way_taken : Operand → Result WalkState RangeFault → (WalkState → Result WalkState RangeFault)
    → Result WalkState RangeFault → (WalkState → WalkState) → Result WalkState RangeFault
way_taken (fixed z) body more others only =
    if int_eq z (pos 0) then others else (body >>= λ u. Ok (only u))
way_taken (moving i y) body more others only = body >>= more

abbrev mutual
  pub walk : WalkContext → Code → WalkState → Result WalkState RangeFault
  walk x stop w = Ok w
  walk x (assign place t e rest) w = do
    v ← assign_at x place t e w
    walk x rest v
  walk x (skip place rest) w = do
    c ← step place w.count
    walk x rest (at_count w c)
  walk x (repeat place a b body rest) w = do
    first ← constant_at x w a
    final ← constant_at x first.1 b
    v ← turns_at (λ z u. walk (in_turn x z) body u) place first.0 (count first.0 final.0) final.1
    walk x rest v
  walk x (choose ways rest) w = do
    v ← walk_ways x ways w no_ways w.count
    walk x rest v
  walk x (pick e arms rest) w = do
    f ← judged x w e
    a ← operand (spot_of e) f.0
    v ← arms_of x (at_count w f.1) a (arm_taken x arms) (all_arms x arms)
    walk x rest v
  walk x (way c body ways) w = Ok w
  walk x (last body) w = Ok w
  walk x (arm n body arms) w = Ok w

  -- the ways of an IF that begins here, after those found so far, with the counts after them
  pub walk_ways : WalkContext → Code → WalkState → Ways → Count → Result WalkState RangeFault
  walk_ways x (way c body more) w found n = do
    f ← judge x.sight w.numbers c n
    a ← operand (spot_of c) f.0
    way_taken a (walk x body (beginning w f.1))
        (λ u. walk_ways x more w (with_way x (condition f.0 a) u found) u.count)
        (walk_ways x more w found f.1) (closed x w found)
  walk_ways x (last body) w found n = do
    v ← walk x body (beginning w n)
    Ok (closed x w found v)
  walk_ways x _ w found n = Ok (closed x w found (beginning w n))

  -- the first arm of this number
  pub arm_taken : WalkContext → Code → WalkState → ℤ → Result WalkState RangeFault
  arm_taken x (arm n body more) w z =
      if int_eq z (pos n) then walk x body w else arm_taken x more w z
  arm_taken x _ w z = Ok w

  -- all arms of a CASE that begins here, after those found so far
  pub all_arms : WalkContext → Code → WalkState → Arms → Count → Result (Arms × Count) RangeFault
  all_arms x (arm n body more) w found c = do
    v ← walk x body (beginning w c)
    all_arms x more w (with_arm x n v found) v.count
  all_arms x _ w found c = Ok (found, c)

-- the number of an argument that is constant
abbrev pub constant_passed : Passed → Option ℕ
constant_passed (found.constant n) = Some n
constant_passed p = None

-- constant arguments, cut to the widths of their parameters; other registers are not constant
abbrev pub constants_of : List ℕ → List Passed → List (Option ℕ)
constants_of [] given = []
constants_of (w ∷ ws) [] = None ∷ constants_of ws []
constants_of (w ∷ ws) (p ∷ given) =
    option_map (λ n. n % 2 ^ w) (constant_passed p) ∷ constants_of ws given

abbrev pub given_of : List Passed → Given
given_of [] = script.nothing
given_of (found.constant n ∷ rest) = script.number n (given_of rest)
given_of (computed y ∷ rest) = script.word y (given_of rest)
given_of (found.bits r l w ∷ rest) = script.moved r l w (given_of rest)

-- so many number variables as a body begins
abbrev pub zeros : ℕ → List KnownNumber
zeros zero = []
zeros (suc n) = constant (pos 0) ∷ zeros n

abbrev pub context_of : Bool → List Walk → List ℕ → List (Option ℕ) → WalkContext
context_of is_kept walks widths constants = record {
  sight = record { widths = widths; constants = constants; turns = []; walks = walks };
  is_kept = is_kept;
}

abbrev pub begun : Body → Count → WalkState
begun b c = record { numbers = zeros b.numbers; count = c; script = script.stop }

-- a call of a DEFINE, where those before it are walked like this
abbrev pub called : Bool → List Walk → Function → Walk
called is_kept walks f at given c =
    let ps = take f.body.parameters given in
    let kept = kept_widths f.body.widths in
    let x = context_of is_kept walks f.body.widths (constants_of kept ps) in do
      w ← walk x f.body.code (begun f.body c)
      g ← judged x w f.answer
      a ← answered (spot_of f.answer) (frame kept f.body.numbers
          (given_of ps) w.script) g.0
      Ok (a, g.1)

-- the DEFINEs in their order, each with those before it
abbrev pub walks_from : Bool → List Walk → List Function → List Walk
walks_from is_kept walks [] = walks
walks_from is_kept walks (f ∷ rest) = walks_from is_kept (walks ++ called is_kept walks f ∷ []) rest

-- the registers of an operation that are constant: the immediate, which stands before dst
abbrev pub imm_constant : ℕ → Option ℕ → List ℕ → List (Option ℕ)
imm_constant result imm [] = []
imm_constant zero imm (w ∷ ws) = None ∷ imm_constant zero imm ws
imm_constant (suc zero) imm (w ∷ ws) = imm ∷ imm_constant zero None ws
imm_constant (suc (suc k)) imm (w ∷ ws) = None ∷ imm_constant (suc k) imm ws

-- an instance, for an immediate where the entry has one
abbrev pub instance_at : Bool → Resolved → Option ℕ → Result WalkState RangeFault
instance_at is_kept r imm =
    walk (context_of is_kept (walks_from is_kept [] r.functions) r.body.widths
    (imm_constant r.result imm r.body.widths))
    r.body.code (begun r.body (record { steps = 0; is_dynamic = false }))
