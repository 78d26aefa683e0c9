-- What is known of an expression in an instance, and what each use of an expression asks.
use Rattle.std.specs.Prelude.{ℕ, ℤ, pos, Bool, false, nat_lt, Option, Some, None, Result, Ok, Err, if◌then◌else◌}
use Rattle.std.specs.Option.{option_map_or}
use Rattle.vg_base.specs.Number.{residue}
use Rattle.vg_text.specs.declared.place.Place.{Place}
use Rattle.vg_pseudo.specs.declared.spot.Spot.{Spot}
use Rattle.vg_script.specs.Script.{Word, slice, block, Low, Frame}
use Rattle.vg_interval.specs.declared.span.Span.{Span}
use Rattle.vg_interval.specs.declared.fault.RangeFault.{RangeFault}
use Rattle.vg_interval.specs.declared.fault.RangeFault.TheVariants.{TooWide}
use Rattle.vg_interval.specs.Interval.{between, is_small, slice_span, unsigned_span}
use Rattle.vg_interval.specs.Words.{number, extended, is_set}

-- `known` is a constant, with its width where it is a slice form; `read` is another slice form, by
-- its reading, its register, where it begins and its width; `handed` is a call whose RETURN is a
-- slice form, by its frame and that slice; `bit` is a comparison that stands there itself; `within`
-- is another number, by its interval and its word; `wide` is a call whose RETURN is itself a call
-- that hands 128 bits or more, by its low 128 bits; `loose` is a left shift by a number of places
-- that is not constant, whose result need not fit.
pub data Found : Type 0 where
  known : ℤ → Option ℕ → Found
  read : Bool → ℕ → Low → ℕ → Found
  handed : Frame → ℕ → Low → ℕ → Found
  bit : Word → Found
  within : Span → Word → Found
  wide : Word → Found
  loose : Word → Found

-- an operand: a constant, or a number by its interval and its word
pub data Operand : Type 0 where
  fixed : ℤ → Operand
  moving : Span → Word → Operand

abbrev pub span_of : Operand → Span
span_of (fixed z) = between z z
span_of (moving i x) = i

abbrev pub word_of : Operand → Word
word_of (fixed z) = number z
word_of (moving i x) = x

-- an operand without what it was
abbrev pub plain : Operand → Found
plain (fixed z) = known z None
plain (moving i x) = within i x

-- the bits of a slice as a number of 128 bits
abbrev pub slice_word : Bool → ℕ → Low → ℕ → Word
slice_word is_signed r l w = extended is_signed w (slice r l w)

-- the low 128 bits, at most, of what a call hands
abbrev pub handed_word : Frame → ℕ → Low → ℕ → Word
handed_word f r l w =
    if nat_lt w 128 then block f (slice_word false r l w) else block f (slice r l 128)

abbrev pub or_too_wide : {A : Type 0} → Place → Option A → Result A RangeFault
or_too_wide place (Some x) = Ok x
or_too_wide place None = Err (TooWide place)

-- The number of an expression that stands as an operand. A result that does not fit is placed
-- inside its parentheses, an operand that does not fit before them.
abbrev pub operand : Spot → Found → Result Operand RangeFault
operand s (known z w) = if is_small z then Ok (fixed z) else Err (TooWide s.outer)
operand s (read is_signed r l w) =
    or_too_wide s.outer
    (option_map_or (λ i. Some (moving i (slice_word is_signed r l w))) (slice_span is_signed w) None)
operand s (handed f r l w) =
    or_too_wide s.outer
    (option_map_or (λ i. Some (moving i (handed_word f r l w))) (slice_span false w) None)
operand s (bit x) = Ok (moving (unsigned_span 1) (extended false 1 x))
operand s (within i x) = Ok (moving i x)
operand s (wide x) = Err (TooWide s.outer)
operand s (loose x) = Err (TooWide s.inner)

-- the condition of an operand: one bit, that of a comparison itself where it is one
abbrev pub condition : Found → Operand → Word
condition (bit x) a = x
condition f a = is_set (word_of a)

-- what an argument hands: a constant number, a word of 128 bits, or bits of a register
pub data Passed : Type 0 where
  constant : ℕ → Passed
  computed : Word → Passed
  bits : ℕ → Low → ℕ → Passed

abbrev pub number_passed : ℤ → Option ℕ → ℕ
number_passed z (Some w) = residue w z
number_passed z None = residue 128 z

abbrev pub passed : Spot → Found → Result Passed RangeFault
passed s (known z w) = Ok (constant (number_passed z w))
passed s (read is_signed r l w) = Ok (bits r l w)
passed s (handed f r l w) = Ok (computed (handed_word f r l w))
passed s (bit x) = Ok (computed (extended false 1 x))
passed s (within i x) = Ok (computed x)
passed s (wide x) = Ok (computed x)
passed s (loose x) = Err (TooWide s.inner)

-- What a call gives, whose frame leaves this in the place of RETURN.
abbrev pub answered : Spot → Frame → Found → Result Found RangeFault
answered s f (known z (Some w)) = Ok (known (pos (residue w z)) None)
answered s f (known z None) = Ok (known z None)
answered s f (read is_signed r l w) = Ok (handed f r l w)
answered s f (handed g r l w) =
    Ok (option_map_or (λ i. within i (block f (handed_word g r l w))) (slice_span false w)
    (wide (block f (handed_word g r l w))))
answered s f (bit x) = Ok (within (unsigned_span 1) (block f (extended false 1 x)))
answered s f (within i x) = Ok (within i (block f x))
answered s f (wide x) = Ok (wide (block f x))
answered s f (loose x) = Err (TooWide s.inner)
