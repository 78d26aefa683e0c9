-- What is known of expressions, without where it lies in memory, and what the functions that find
-- it return.
use Rattle.std.specs.Prelude.{ℕ, ◌%◌, ◌^◌, ℤ, pos, Bool, List, [], Option, Some, None, Result, Ok, if◌then◌else◌}
use Rattle.std.specs.Option.{option_map}
use Rattle.vg_base.specs.Bind.{◌>>=◌}
use Rattle.vg_base.specs.Bits.{signed_at}
use Rattle.vg_base.specs.Gives as returned
use Rattle.vg_pseudo.specs.declared.spot.Spot.{Spot}
use Rattle.vg_pseudo.specs.declared.operators.UnaryOp.{UnaryOp}
use Rattle.vg_pseudo.specs.declared.operators.BinaryOp.{BinaryOp}
use Rattle.vg_script.specs.Script.{Word, sel}
use Rattle.vg_script.specs.Views.{frame_of, low_of, number_of, word_of}
use Rattle.vg_interval.specs.declared.fault.RangeFault.{RangeFault}
use Rattle.vg_interval.specs.declared.fault.RangeFault.TheVariants.{UnknownName, IndexOutside, DynamicIndex, TooWide, TooLong, BadExtend, BareRegister, Memory}
use Rattle.vg_interval.specs.Interval.{binary_span, hull}
use Rattle.vg_interval.specs.Words.{binary_word, comparison}
use Rattle.vg_interval.specs.Found.{Found, known, read, handed, bit, within, wide, loose, Operand, fixed, moving, span_of, operand, condition, Passed, computed, bits}
use Rattle.vg_interval.specs.Found as found
use Rattle.vg_interval.specs.Judge.{KnownNumber, constant, varying, Count, Bits, Index, settled, unsettled, Sight, is_comparison, result_within, unary_of}
use Rattle.vg_interval.specs.declared.found.Found as in_memory
use Rattle.vg_interval.specs.declared.found.Found.TheVariants as f
use Rattle.vg_interval.specs.declared.found.Operand as operands
use Rattle.vg_interval.specs.declared.found.Operand.TheVariants as o
use Rattle.vg_interval.specs.declared.found.Passed as passing
use Rattle.vg_interval.specs.declared.found.Passed.TheVariants as p
use Rattle.vg_interval.specs.declared.found.Condition as conditions
use Rattle.vg_interval.specs.declared.found.Condition.TheVariants as t
use Rattle.vg_interval.specs.declared.judged.Index as indices
use Rattle.vg_interval.specs.declared.judged.Index.TheVariants as i
use Rattle.vg_interval.specs.declared.judged.KnownNumber as keeping
use Rattle.vg_interval.specs.declared.judged.KnownNumber.TheVariants as k
use Rattle.vg_interval.specs.declared.judged.Count as counting
use Rattle.vg_interval.specs.declared.judged.Bits as slices

-- the fault of an operation that an error tells; want of memory tells none
abbrev pub told : RangeFault → Option RangeFault
told (UnknownName p) = Some (UnknownName p)
told (IndexOutside p) = Some (IndexOutside p)
told (DynamicIndex p) = Some (DynamicIndex p)
told (TooWide p) = Some (TooWide p)
told (TooLong p) = Some (TooLong p)
told (BadExtend p) = Some (BadExtend p)
told (BareRegister p) = Some (BareRegister p)
told (Memory e) = None

-- the same value or fault, unless there was no memory
abbrev pub Gives : {X Y : Type 0} → (X → Y) → Result X RangeFault → Result Y RangeFault → Type 0
Gives view result given = returned.Gives told view result given

-- the number of the bits of a slice by its reading
abbrev pub slice_number : Bool → ℕ → ℕ → ℤ
slice_number is_signed w n = if is_signed then signed_at w n else pos n

abbrev pub found_view : in_memory.Found → Found
found_view (f.Known n) = known (number_of n) None
found_view (f.KnownSlice is_signed n w) = known (slice_number is_signed w (n % 2 ^ w)) (Some w)
found_view (f.Read is_signed r l w) = read is_signed r (low_of l) w
found_view (f.Handed g r l w) = handed (frame_of g.value) r (low_of l) w
found_view (f.Bit x) = bit (word_of x)
found_view (f.Within j x) = within j (word_of x)
found_view (f.Wide x) = wide (word_of x)
found_view (f.Loose x) = loose (word_of x)

abbrev pub operand_view : operands.Operand → Operand
operand_view (o.Fixed z) = fixed z
operand_view (o.Moving j x) = moving j (word_of x)

abbrev pub passed_view : passing.Passed → Passed
passed_view (p.Constant n) = found.constant n
passed_view (p.Computed x) = computed (word_of x)
passed_view (p.Bits r l w) = bits r (low_of l) w

abbrev pub index_view : indices.Index → Index
index_view (i.Settled n) = settled (number_of n)
index_view (i.Unsettled a) = unsettled (option_map operand_view a)

abbrev pub kept_view : keeping.KnownNumber → KnownNumber
kept_view (k.Constant z) = constant z
kept_view (k.Varying j) = varying j

abbrev pub count_view : counting.Count → Count
count_view c = record { steps = c.steps; is_dynamic = c.is_dynamic }

abbrev pub bits_view : slices.Bits → Bits
bits_view b = record { low = b.low; width = b.width }

-- a condition: a constant, or one bit
pub data Condition : Type 0 where
  always : ℤ → Condition
  tested : Word → Condition

abbrev pub condition_view : conditions.Condition → Condition
condition_view (t.Always z) = always z
condition_view (t.Tested x) = tested (word_of x)

abbrev pub condition_of : Found → Operand → Condition
condition_of f (fixed z) = always z
condition_of f (moving j x) = tested (condition f (moving j x))

abbrev pub condition_at : Spot → Found → Result Condition RangeFault
condition_at s f = operand s f >>= λ a. Ok (condition_of f a)

-- either of two branches, by a condition of one bit
abbrev pub either : Word → Operand → Operand → Found
either c a b = within (hull (span_of a) (span_of b)) (sel 128 c (found.word_of a) (found.word_of b))

-- an operator or a function of what is neither a slice form nor a left shift that need not fit
abbrev pub unary_of_number : Spot → UnaryOp → Spot → Found → Result Found RangeFault
unary_of_number s op t f = operand t f >>= λ a. unary_of s op a

-- an operator that is no shift, of operands that are not both constant
abbrev pub mixed : Spot → BinaryOp → Operand → Operand → Result Found RangeFault
mixed s op a b =
    if is_comparison op
    then Ok (bit (comparison op (found.word_of a) (found.word_of b)))
    else result_within s (binary_span op (span_of a) (span_of b))
    (binary_word op (found.word_of a) (found.word_of b))

-- what a slice sees: the widths of registers, and the numbers of those that are constant
abbrev pub seen : List ℕ → List (Option ℕ) → Sight
seen widths constants =
    record { widths = widths; constants = constants; turns = []; walks = [] }
