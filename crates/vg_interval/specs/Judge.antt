-- What is known of an expression in an instance, found in the order of the text: operands one after
-- the other, each before its operator.
use Rattle.std.specs.Prelude.{ℕ, ◌+◌, ◌-◌, ◌*◌, ◌/◌, ◌%◌, ◌^◌, ℤ, pos, negsuc, ◌+ℤ◌, ◌*ℤ◌, Bool, true, false, ◌&&◌, int_lt, int_le, nat_le, nat_lt, List, [], ◌∷◌, get_or, Option, Some, None, Result, Ok, Err, if◌then◌else◌}
use Rattle.std.specs.Option.{option_map, option_map_or}
use Rattle.std.specs.Ordering.{int_eq}
use Rattle.vg_base.specs.Bind.{◌>>=◌}
use Rattle.vg_base.specs.Bits.{signed_at}
use Rattle.vg_base.specs.Width.{bits_of}
use Rattle.vg_base.specs.Number.{residue}
use Rattle.vg_text.specs.declared.place.Place.{Place}
use Rattle.vg_pseudo.specs.declared.spot.Spot.{Spot}
use Rattle.vg_pseudo.specs.declared.operators.UnaryOp.{UnaryOp}
use Rattle.vg_pseudo.specs.declared.operators.UnaryOp.TheVariants.{Signed, SignExtend, ZeroExtend, Truncate}
use Rattle.vg_pseudo.specs.declared.operators.BinaryOp.{BinaryOp}
use Rattle.vg_pseudo.specs.declared.operators.BinaryOp.TheVariants.{Equal, NotEqual, Less, LessOrEqual, Greater, GreaterOrEqual, ShiftLeft, ShiftRight}
use Rattle.vg_pseudo.specs.Whole.{unary_result, binary_result}
use Rattle.vg_pseudo.specs.Resolved.{Expr, literal, counter, variable, slice, element, front, unary, binary, choice, call, Arguments, end, more}
use Rattle.vg_terms.specs.declared.term.TwoOp.TheVariants as terms
use Rattle.vg_script.specs.Script.{Word, two, sel, Low, at, held, Frame}
use Rattle.vg_script.specs.Script as script
use Rattle.vg_interval.specs.declared.span.Span.{Span}
use Rattle.vg_interval.specs.declared.fault.RangeFault.{RangeFault}
use Rattle.vg_interval.specs.declared.fault.RangeFault.TheVariants.{IndexOutside, DynamicIndex, TooWide, TooLong, BadExtend}
use Rattle.vg_interval.specs.Interval.{between, fit, hull, signed_span, unsigned_span, unary_span, binary_span, shifted_left_span, right_span}
use Rattle.vg_interval.specs.Words.{number, low_extended, unary_word, binary_word, comparison, left_by, right_by}
use Rattle.vg_interval.specs.Found.{Found, known, read, bit, within, loose, Operand, fixed, moving, span_of, word_of, plain, slice_word, or_too_wide, operand, condition, Passed, passed}

-- what is known of a number variable: a constant, or an interval
pub data KnownNumber : Type 0 where
  constant : ℤ → KnownNumber
  varying : Span → KnownNumber

-- how many assignments, turns and calls there were, and whether a slice or a shift depended on data
pub record Count : Type 0 where
  pub steps : ℕ
  pub is_dynamic : Bool

abbrev pub step : Place → Count → Result Count RangeFault
step place c =
    if nat_lt c.steps 4096 then Ok (record { steps = c.steps + 1; is_dynamic = c.is_dynamic })
    else Err (TooLong place)

abbrev pub dynamic : Count → Count
dynamic c = record { steps = c.steps; is_dynamic = true }

-- what a call of a DEFINE gives for its arguments, found at this place
abbrev pub Walk : Type 0
Walk = Spot → List Passed → Count → Result (Found × Count) RangeFault

-- What an expression can see: the widths of the registers of its body, the numbers of those that
-- are constant, the turns of the FORs around it, innermost first, and what calls give.
pub record Sight : Type 0 where
  pub widths : List ℕ
  pub constants : List (Option ℕ)
  pub turns : List ℤ
  pub walks : List Walk

-- the bits of a register, from a bit on
pub record Bits : Type 0 where
  pub low : ℕ
  pub width : ℕ

-- the bits from the low to the high index, where they lie inside a register of this width
abbrev pub bits_between : Place → ℕ → ℤ → ℤ → Result Bits RangeFault
bits_between place all (pos high) (pos low) =
    if nat_le low high && nat_lt high all then Ok (record { low = low; width = (high - low) + 1 })
    else Err (IndexOutside place)
bits_between place all high low = Err (IndexOutside place)

-- an element by its size and its index
abbrev pub bits_of_element : Place → ℕ → ℕ → ℤ → Result Bits RangeFault
bits_of_element place all size (pos k) =
    if nat_lt 0 size && nat_le (k * size + size) all
    then Ok (record { low = k * size; width = size })
    else Err (IndexOutside place)
bits_of_element place all size (negsuc k) = Err (IndexOutside place)

-- a slice of a register by its reading; that of a constant is a constant
abbrev pub slice_found : Bool → Option ℕ → ℕ → Bits → Found
slice_found is_signed None r b = read is_signed r (at b.low) b.width
slice_found is_signed (Some n) r b =
    let bits = (n / 2 ^ b.low) % 2 ^ b.width in
    known (if is_signed then signed_at b.width bits else pos bits) (Some b.width)

-- an index: a constant, or a number; one that has no interval is outside of every register
pub data Index : Type 0 where
  settled : ℤ → Index
  unsettled : Option Operand → Index

abbrev pub ok_of : Result Operand RangeFault → Option Operand
ok_of (Ok a) = Some a
ok_of (Err e) = None

abbrev pub index_of : Spot → Found → Result Index RangeFault
index_of s (known z w) = Ok (settled z)
index_of s (loose x) = Err (TooWide s.inner)
index_of s f = Ok (unsettled (ok_of (operand s f)))

-- so many bits from a place in this interval on lie inside a register
abbrev pub lies_inside : ℕ → ℕ → Span → Bool
lies_inside all width i = int_le (pos 0) i.least && int_le (i.greatest +ℤ pos width) (pos all)

abbrev pub times : ℕ → Span → Span
times size i = between (i.least *ℤ pos size) (i.greatest *ℤ pos size)

-- a slice from a number on that is not constant, this many times a size, in a register of this
-- width
abbrev pub moving_slice : Place → ℕ → Bool → ℕ → ℕ → ℕ → Option Operand → Result Found RangeFault
moving_slice place all is_signed r size width None = Err (IndexOutside place)
moving_slice place all is_signed r size width (Some a) =
    if nat_lt 0 size && lies_inside all width (times size (span_of a))
    then Ok (read is_signed r (held (two terms.Mul 128 (word_of a) (number (pos size)))) width)
    else Err (IndexOutside place)

-- A slice by its two indices: where the high one is the low one with `+ n` after it, the low one
-- alone says where it is.
abbrev pub slice_at : Sight → Place → Bool → ℕ → Option ℕ → Index → Index → Count
    → Result (Found × Count) RangeFault
slice_at s place is_signed r (Some n) high (settled low) c = do
  b ← bits_between place (get_or s.widths r 0) (low +ℤ pos n) low
  Ok (slice_found is_signed (get_or s.constants r None) r b, c)
slice_at s place is_signed r (Some n) high (unsettled low) c = do
  f ← moving_slice place (get_or s.widths r 0) is_signed r 1 (n + 1) low
  Ok (f, dynamic c)
slice_at s place is_signed r None (settled high) (settled low) c = do
  b ← bits_between place (get_or s.widths r 0) high low
  Ok (slice_found is_signed (get_or s.constants r None) r b, c)
slice_at s place is_signed r None high low c = Err (DynamicIndex place)

abbrev pub element_at : Sight → Place → Bool → ℕ → ℕ → Index → Count
    → Result (Found × Count) RangeFault
element_at s place is_signed r size (settled k) c = do
  b ← bits_of_element place (get_or s.widths r 0) size k
  Ok (slice_found is_signed (get_or s.constants r None) r b, c)
element_at s place is_signed r size (unsettled k) c = do
  f ← moving_slice place (get_or s.widths r 0) is_signed r size size k
  Ok (f, dynamic c)

-- a result that is an interval has to fit
abbrev pub result_within : Spot → Option Span → Word → Result Found RangeFault
result_within s i x = or_too_wide s.inner (option_map (λ j. within j x) i)

abbrev pub result_known : Spot → ℤ → Result Found RangeFault
result_known s z = or_too_wide s.inner (option_map (λ y. known y None) (fit z))

abbrev pub width_found : Found → Option ℕ
width_found (known z w) = w
width_found (read is_signed r l w) = Some w
width_found f = None

-- Signed, SignExtendN and ZeroExtendN of a slice form: its bits, read as signed or not
abbrev pub bits_read : Bool → Found → Found
bits_read is_signed (known z (Some w)) =
    known (if is_signed then signed_at w (residue w z) else pos (residue w z)) None
bits_read is_signed (read s r l w) =
    within (if is_signed then signed_span w else unsigned_span w) (slice_word is_signed r l w)
bits_read is_signed f = f

abbrev pub extended_slice : Spot → Bool → ℕ → ℕ → Found → Result Found RangeFault
extended_slice s is_signed to w f =
    if nat_le w to then Ok (bits_read is_signed f) else Err (BadExtend s.inner)

-- an operator or a function of what is no slice form
abbrev pub unary_of : Spot → UnaryOp → Operand → Result Found RangeFault
unary_of s op (fixed z) = result_known s (unary_result op z)
unary_of s op (moving i x) = result_within s (unary_span op i) (unary_word op x)

-- an operator or a function of an operand, by the width of what is a slice form
abbrev pub unary_found : Spot → UnaryOp → Found → Option ℕ → Operand → Result Found RangeFault
unary_found s Signed f (Some w) a = Ok (bits_read true f)
unary_found s (SignExtend n) f (Some w) a = extended_slice s true (bits_of n) w f
unary_found s (ZeroExtend n) f (Some w) a = extended_slice s false (bits_of n) w f
unary_found s op f w a = unary_of s op a

-- a left shift that need not fit is cut at once
abbrev pub cut_loose : UnaryOp → Word → Option Found
cut_loose (SignExtend n) x =
    Some (within (signed_span (bits_of n)) (low_extended true (bits_of n) x))
cut_loose (ZeroExtend n) x =
    Some (within (unsigned_span (bits_of n)) (low_extended false (bits_of n) x))
cut_loose (Truncate n) x =
    Some (within (unsigned_span (bits_of n)) (low_extended false (bits_of n) x))
cut_loose op x = None

abbrev pub loose_word : Found → Option Word
loose_word (loose x) = Some x
loose_word f = None

-- the first of the two spots is that of the whole, the second that of the operand
abbrev pub unary_at : Spot → UnaryOp → Spot → Found → Result Found RangeFault
unary_at s op t f =
    option_map_or (λ g. Ok g) (option_map_or (cut_loose op) (loose_word f) None)
    (operand t f >>= λ a. unary_found s op f (width_found f) a)

abbrev pub is_shift : BinaryOp → Bool
is_shift ShiftLeft = true
is_shift ShiftRight = true
is_shift op = false

abbrev pub is_comparison : BinaryOp → Bool
is_comparison Equal = true
is_comparison NotEqual = true
is_comparison Less = true
is_comparison LessOrEqual = true
is_comparison Greater = true
is_comparison GreaterOrEqual = true
is_comparison op = false

-- a shift by a constant number of places
abbrev pub shifted_by : Spot → BinaryOp → ℕ → Operand → Result Found RangeFault
shifted_by s ShiftLeft n (fixed z) =
    if nat_le n 126 then result_known s (binary_result ShiftLeft z (pos n))
    else Err (TooWide s.inner)
shifted_by s ShiftLeft n (moving i x) =
    if nat_le n 126
    then result_within s (shifted_left_span i (between (pos n) (pos n))) (left_by n x)
    else Err (TooWide s.inner)
shifted_by s op n (fixed z) = result_known s (binary_result op z (pos n))
shifted_by s op n (moving i x) = Ok (within (right_span i (between (pos n) (pos n))) (right_by n x))

-- a shift by a number of places that is not constant
abbrev pub shifted_along : BinaryOp → Operand → Operand → Found
shifted_along ShiftLeft a b =
    option_map_or (λ i. within i (binary_word ShiftLeft (word_of a) (word_of b)))
    (binary_span ShiftLeft (span_of a) (span_of b))
    (loose (binary_word ShiftLeft (word_of a) (word_of b)))
shifted_along op a b =
    within (right_span (span_of a) (span_of b)) (binary_word op (word_of a) (word_of b))

-- the spots are those of the whole and of the amount
abbrev pub shift_at : Spot → BinaryOp → Spot → Operand → Operand → Count
    → Result (Found × Count) RangeFault
shift_at s op t a (fixed (pos n)) c = shifted_by s op n a >>= λ f. Ok (f, c)
shift_at s op t a (fixed (negsuc n)) c = Err (TooWide t.outer)
shift_at s op t a (moving i x) c =
    if int_lt i.least (pos 0) then Err (TooWide t.outer)
    else Ok (shifted_along op a (moving i x), dynamic c)

-- an operator that is no shift
abbrev pub joined : Spot → BinaryOp → Operand → Operand → Result Found RangeFault
joined s op (fixed y) (fixed z) = result_known s (binary_result op y z)
joined s op a b =
    if is_comparison op then Ok (bit (comparison op (word_of a) (word_of b)))
    else result_within s (binary_span op (span_of a) (span_of b))
    (binary_word op (word_of a) (word_of b))

abbrev pub binary_at : Spot → BinaryOp → Spot → Operand → Operand → Count
    → Result (Found × Count) RangeFault
binary_at s op t a b c =
    if is_shift op then shift_at s op t a b c else (joined s op a b >>= λ f. Ok (f, c))

abbrev pub variable_found : ℕ → KnownNumber → Found
variable_found k (constant z) = known z None
variable_found k (varying i) = within i (script.variable k)

abbrev pub spot_of : Expr → Spot
spot_of (literal s n) = s
spot_of (counter s k) = s
spot_of (variable s k) = s
spot_of (slice s g r n h l) = s
spot_of (element s g r size k) = s
spot_of (front s g r w) = s
spot_of (unary s op x) = s
spot_of (binary s op x y) = s
spot_of (choice s c x y) = s
spot_of (call s f xs) = s

abbrev pub no_walk : Walk
no_walk s given c = Ok (known (pos 0) None, c)

-- how an expression is judged after another one
abbrev pub Judges : Type 0
Judges = Count → Result (Found × Count) RangeFault

-- a branch of a choice by its spot
abbrev pub branch : Spot → Judges → Count → Result (Operand × Count) RangeFault
branch s judge c = do
  f ← judge c
  a ← operand s f.0
  Ok (a, f.1)

-- A choice by the spots of its branches and how they are judged, after its condition. A constant
-- condition chooses one branch, and the other is not looked at.
abbrev pub chosen : Spot → Judges → Spot → Judges → Found → Operand → Count
    → Result (Found × Count) RangeFault
chosen s first t second f (fixed z) c = do
  a ← if int_eq z (pos 0) then branch t second c else branch s first c
  Ok (plain a.0, a.1)
chosen s first t second f (moving i w) c = do
  a ← branch s first c
  b ← branch t second a.1
  Ok (
    within (hull (span_of a.0) (span_of b.0))
        (sel 128 (condition f (moving i w)) (word_of a.0) (word_of b.0)),
    b.1,
  )

-- given what is known of the number variables
abbrev mutual
  pub judge : Sight → List KnownNumber → Expr → Count → Result (Found × Count) RangeFault
  judge s ks (literal p n) c = Ok (known (pos n) None, c)
  judge s ks (counter p k) c = Ok (known (get_or s.turns k (pos 0)) None, c)
  judge s ks (variable p k) c = Ok (variable_found k (get_or ks k (constant (pos 0))), c)
  judge s ks (slice p is_signed r n h l) c = do
    f ← judge s ks h c
    high ← index_of (spot_of h) f.0
    g ← judge s ks l f.1
    low ← index_of (spot_of l) g.0
    slice_at s p.inner is_signed r n high low g.1
  judge s ks (element p is_signed r size k) c = do
    f ← judge s ks k c
    index ← index_of (spot_of k) f.0
    element_at s p.inner is_signed r size index f.1
  judge s ks (front p is_signed r width) c = do
    b ← bits_of_element p.inner (get_or s.widths r 0) width (pos 0)
    Ok (slice_found is_signed (get_or s.constants r None) r b, c)
  judge s ks (unary p op x) c = do
    f ← judge s ks x c
    g ← unary_at p op (spot_of x) f.0
    Ok (g, f.1)
  judge s ks (binary p op x y) c = do
    f ← judge s ks x c
    a ← operand (spot_of x) f.0
    g ← judge s ks y f.1
    b ← operand (spot_of y) g.0
    binary_at p op (spot_of y) a b g.1
  judge s ks (choice p e x y) c = do
    f ← judge s ks e c
    a ← operand (spot_of e) f.0
    chosen (spot_of x) (judge s ks x) (spot_of y) (judge s ks y) f.0 a f.1
  judge s ks (call p f xs) c = do
    d ← step p.inner c
    given ← judge_all s ks xs d
    get_or s.walks f no_walk p given.0 given.1

  pub judge_all : Sight → List KnownNumber → Arguments → Count → Result (List Passed × Count) RangeFault
  judge_all s ks end c = Ok ([], c)
  judge_all s ks (more x xs) c = do
    f ← judge s ks x c
    first ← passed (spot_of x) f.0
    rest ← judge_all s ks xs f.1
    Ok (first ∷ rest.0, rest.1)
