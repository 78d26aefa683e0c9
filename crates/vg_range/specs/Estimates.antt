-- What is known of operands but for their words. Where no script is kept no word is needed.
use Rattle.std.specs.Prelude.{ℕ, Bool, true, false, not, nat_le, List, Option, Result, Ok, Err, if◌then◌else◌}
use Rattle.std.specs.Option.{option_map}
use Rattle.vg_base.specs.Bind.{◌>>=◌}
use Rattle.vg_text.specs.declared.place.Place.{Place}
use Rattle.vg_pseudo.specs.declared.spot.Spot.{Spot}
use Rattle.vg_pseudo.specs.declared.operators.BinaryOp.{BinaryOp}
use Rattle.vg_pseudo.specs.Whole.{binary_result}
use Rattle.vg_pseudo.specs.Resolved.{Expr, binary, Target, Code}
use Rattle.vg_script.specs.Script.{Word, variable}
use Rattle.vg_interval.specs.declared.fault.RangeFault.{RangeFault}
use Rattle.vg_interval.specs.declared.fault.RangeFault.TheVariants.{TooWide}
use Rattle.vg_interval.specs.Interval.{fit, is_small, binary_span, slice_span, unsigned_span}
use Rattle.vg_interval.specs.Found.{Found, known, read, handed, bit, within, wide, loose, or_too_wide}
use Rattle.vg_interval.specs.Judge.{Sight, KnownNumber, constant, varying, Count, is_shift, judge, spot_of}
use Rattle.vg_interval.specs.Views.{Condition, always, tested}
use Rattle.vg_range.specs.Steps.{WayStep, way_by}
use Rattle.vg_range.specs.Seen.{number_set, tested_at}
use Rattle.vg_range.specs.Walk.{WalkContext, Goal, WalkState, Ways, assigned, at_count, beginning, judged, kept_span, walk}

-- what is known of an expression, as an operand without its word
abbrev pub kept_found : Spot → Found → Result KnownNumber RangeFault
kept_found s (known z w) = if is_small z then Ok (constant z) else Err (TooWide s.outer)
kept_found s (read is_signed r l w) =
    or_too_wide s.outer (option_map (λ i. varying i) (slice_span is_signed w))
kept_found s (handed f r l w) =
    or_too_wide s.outer (option_map (λ i. varying i) (slice_span false w))
kept_found s (bit y) = Ok (varying (unsigned_span 1))
kept_found s (within i y) = Ok (varying i)
kept_found s (wide y) = Err (TooWide s.outer)
kept_found s (loose y) = Err (TooWide s.inner)

-- the same of what is judged, and the counts after it
abbrev pub estimate_of : Spot → Result (Found × Count) RangeFault → Result (KnownNumber × Count) RangeFault
estimate_of s judged = do
  f ← judged
  k ← kept_found s f.0
  Ok (k, f.1)

-- an operator that is no shift, of operands without their words
abbrev pub kept_joined : Spot → BinaryOp → KnownNumber → KnownNumber → Result KnownNumber RangeFault
kept_joined s op (constant y) (constant z) =
    or_too_wide s.inner (option_map (λ x. constant x) (fit (binary_result op y z)))
kept_joined s op a b =
    or_too_wide s.inner (option_map (λ i. varying i) (binary_span op (kept_span a) (kept_span b)))

-- the same of two expressions, one after the other
abbrev pub joined_estimate : Sight → List KnownNumber → Spot → BinaryOp → Expr → Expr → Count
    → Result (KnownNumber × Count) RangeFault
joined_estimate s ks p op x y c = do
  a ← estimate_of (spot_of x) (judge s ks x c)
  b ← estimate_of (spot_of y) (judge s ks y a.1)
  k ← kept_joined p op a.0 b.0
  Ok (k, b.1)

-- whether an expression is an operator that is no shift
abbrev pub is_joined : Expr → Bool
is_joined (binary p op x y) = not (is_shift op)
is_joined e = false

-- the word in the place of one that no script keeps
abbrev pub no_word : Word
no_word = variable 0

abbrev pub condition_by : KnownNumber → Condition
condition_by (constant z) = always z
condition_by (varying i) = tested no_word

-- what a condition says, with its word only where scripts are kept
abbrev pub decided_at : Bool → Spot → Result (Found × Count) RangeFault → Result (Condition × Count) RangeFault
decided_at is_kept s judged =
    if is_kept then tested_at s judged else (estimate_of s judged >>= λ k. Ok (condition_by k.0, k.1))

-- a way whose condition says this
abbrev pub way_behind : WalkContext → Code → WalkState → Ways → Result (Condition × Count) RangeFault →
    Result WayStep RangeFault
way_behind x body w found decided =
    decided >>= λ d. way_by x (walk x body (beginning w d.1)) found d.0 d.1

-- what an expression is worth, after the target of an assignment
abbrev pub given_at : WalkContext → Target → Option Goal → Expr → WalkState → Result WalkState RangeFault
given_at x t g e w = do
  f ← judged x w e
  assigned x (spot_of e) t g f.0 (at_count w f.1)

-- a number that is no move goes into at most 128 bits
abbrev pub filled : Place → Goal → KnownNumber → WalkState → Result WalkState RangeFault
filled place g (constant z) w = Ok w
filled place g (varying i) w = if nat_le g.bits.width 128 then Ok w else Err (TooWide place)

abbrev pub estimate_filled : WalkContext → Goal → Expr → WalkState → Result WalkState RangeFault
estimate_filled x g e w = do
  k ← estimate_of (spot_of e) (judged x w e)
  filled (spot_of e).outer g k.0 (at_count w k.1)

abbrev pub estimate_set : WalkContext → ℕ → Expr → WalkState → Result WalkState RangeFault
estimate_set x n e w = do
  k ← estimate_of (spot_of e) (judged x w e)
  Ok (number_set (at_count w k.1) n k.0)
