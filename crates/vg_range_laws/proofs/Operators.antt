-- What is found of an expression is static where nothing that depends on data was met.
use Rattle.std.proofs.Common.{◌≡◌, ℕ, ◌+◌, refl, sym, ap, ◌∙◌, inl, inr, Bool, true, false, List, [], ◌∷◌, get_or}
use Rattle.std.specs.Prelude.{ℤ, ◌+ℤ◌, pos, negsuc, nat_eq, nat_lt, nat_le, int_lt, if◌then◌else◌, Option, Some, None, Result, Ok, Err}
use Rattle.std.specs.Option.{option_map, option_map_or}
use Rattle.std.specs.Ordering.{int_eq}
use Rattle.std.proofs.lemmas.Bool.{cases_Bool}
use Rattle.vg_base.specs.Bind.{◌>>=◌}
use Rattle.vg_base.specs.Width.{bits_of}
use Rattle.vg_text.specs.declared.place.Place.{Place}
use Rattle.vg_pseudo.specs.declared.spot.Spot.{Spot}
use Rattle.vg_pseudo.specs.declared.operators.UnaryOp.{UnaryOp}
use Rattle.vg_pseudo.specs.declared.operators.UnaryOp.TheVariants.{Not, Negate, Absolute, Signed, SignExtend, ZeroExtend, Saturate, SaturateUnsigned, Truncate}
use Rattle.vg_pseudo.specs.declared.operators.BinaryOp.{BinaryOp}
use Rattle.vg_pseudo.specs.declared.operators.BinaryOp.TheVariants.{Or, Xor, And, Equal, NotEqual, Less, LessOrEqual, Greater, GreaterOrEqual, ShiftLeft, ShiftRight, Add, Subtract, Multiply, Minimum, Maximum}
use Rattle.vg_terms.specs.declared.term.OneOp.TheVariants.{Trunc}
use Rattle.vg_script.specs.Script.{Word, Low, Frame, block, slice, one}
use Rattle.vg_interval.specs.declared.span.Span.{Span}
use Rattle.vg_interval.specs.declared.fault.RangeFault.{RangeFault}
use Rattle.vg_interval.specs.Interval.{between, binary_span, shifted_left_span, slice_span, fit, is_small}
use Rattle.vg_interval.specs.Words.{extended, low_extended, left_by, unary_word, binary_word, comparison}
use Rattle.vg_interval.specs.Found.{Found, known, read, handed, bit, within, wide, loose, Operand, fixed, moving, span_of, word_of, plain, slice_word, handed_word, or_too_wide, operand, condition, Passed, computed, passed, answered}
use Rattle.vg_interval.specs.Found as found
use Rattle.vg_interval.specs.Judge.{KnownNumber, varying, Count, step, dynamic, Sight, Bits, bits_between, bits_of_element, slice_found, Index, settled, unsettled, moving_slice, slice_at, element_at, result_within, result_known, width_found, bits_read, extended_slice, unary_of, unary_found, cut_loose, unary_at, is_shift, is_comparison, shifted_along, shifted_by, shift_at, joined, binary_at, variable_found}
use Rattle.vg_interval.specs.Judge as judging
use Rattle.vg_range_laws.specs.Static.{IsPlace, IsStaticWord, IsStaticFrame}
use Rattle.vg_range_laws.proofs.Settled.{Settled, Gives, gives_if, gives_bind, then_plain, anyhow, settled_if}

-- ---- static

abbrev pub FoundStatic : Found → Type 0
FoundStatic (known z w) = Unit {0}
FoundStatic (read s r l w) = IsPlace l
FoundStatic (handed f r l w) = IsStaticFrame f × IsPlace l
FoundStatic (bit x) = IsStaticWord x
FoundStatic (within i x) = IsStaticWord x
FoundStatic (wide x) = IsStaticWord x
FoundStatic (loose x) = IsStaticWord x

abbrev pub OperandStatic : Operand → Type 0
OperandStatic (fixed z) = Unit {0}
OperandStatic (moving i x) = IsStaticWord x

abbrev pub PassedStatic : Passed → Type 0
PassedStatic (found.constant n) = Unit {0}
PassedStatic (computed x) = IsStaticWord x
PassedStatic (found.bits r l w) = IsPlace l

abbrev pub AllPassedStatic : List Passed → Type 0
AllPassedStatic [] = Unit {0}
AllPassedStatic (p ∷ ps) = PassedStatic p × AllPassedStatic ps

-- whether something that depends on data was met
abbrev pub is_met : {A : Type 0} → A × Count → Bool
is_met p = p.1.is_dynamic

abbrev pub FirstStatic : Found × Count → Type 0
FirstStatic p = FoundStatic p.0

-- ---- words

pub if_static : (b : Bool) (x y : Word) → IsStaticWord x → IsStaticWord y → IsStaticWord (if b then x else y)
if_static true x y h g = h
if_static false x y h g = g

pub extended-static : (s : Bool) (w : ℕ) (x : Word) → IsStaticWord x → IsStaticWord (extended s w x)
extended-static s w x h = if_static (nat_eq w 128) x _ h h

low_extended-static : (s : Bool) (w : ℕ) (x : Word) → IsStaticWord x → IsStaticWord (low_extended s w x)
low_extended-static s w x h = extended-static s w (one Trunc w 0 x) h

pub slice_word-static : (s : Bool) (r : ℕ) (l : Low) (w : ℕ) → IsPlace l → IsStaticWord (slice_word s r l w)
slice_word-static s r l w h = extended-static s w (slice r l w) h

pub handed_word-static : (f : Frame) (r : ℕ) (l : Low) (w : ℕ) → IsStaticFrame f → IsPlace l → IsStaticWord (handed_word f r l w)
handed_word-static f r l w h g = if_static (nat_lt w 128) (block f (slice_word false r l w)) (block f (slice r l 128)) (h, slice_word-static false r l w g) (h, g)

pub word_of-static : (a : Operand) → OperandStatic a → IsStaticWord (word_of a)
word_of-static (fixed z) h = tt
word_of-static (moving i x) h = h

pub plain-static : (a : Operand) → OperandStatic a → FoundStatic (plain a)
plain-static (fixed z) h = tt
plain-static (moving i x) h = h

-- ---- operands, arguments, answers

spanned : (p : Place) (x : Word) (o : Option Span) → IsStaticWord x → Gives OperandStatic (or_too_wide p (option_map_or (λ i. Some (moving i x)) o None))
spanned p x (Some i) h = h
spanned p x None h = tt

pub operand-static : (s : Spot) (f : Found) → FoundStatic f → Gives OperandStatic (operand s f)
operand-static s (known z w) h = gives_if OperandStatic (is_small z) _ _ tt tt
operand-static s (read b r l w) h = spanned s.outer (slice_word b r l w) (slice_span b w) (slice_word-static b r l w h)
operand-static s (handed f r l w) h = spanned s.outer (handed_word f r l w) (slice_span false w) (handed_word-static f r l w h.0 h.1)
operand-static s (bit x) h = extended-static false 1 x h
operand-static s (within i x) h = h
operand-static s (wide x) h = tt
operand-static s (loose x) h = tt

pub condition-static : (f : Found) (a : Operand) → FoundStatic f → OperandStatic a → IsStaticWord (condition f a)
condition-static (known z w) a h g = (tt, word_of-static a g)
condition-static (read b r l w) a h g = (tt, word_of-static a g)
condition-static (handed f r l w) a h g = (tt, word_of-static a g)
condition-static (bit x) a h g = h
condition-static (within i x) a h g = (tt, word_of-static a g)
condition-static (wide x) a h g = (tt, word_of-static a g)
condition-static (loose x) a h g = (tt, word_of-static a g)

pub passed-static : (s : Spot) (f : Found) → FoundStatic f → Gives PassedStatic (passed s f)
passed-static s (known z w) h = tt
passed-static s (read b r l w) h = h
passed-static s (handed f r l w) h = handed_word-static f r l w h.0 h.1
passed-static s (bit x) h = extended-static false 1 x h
passed-static s (within i x) h = h
passed-static s (wide x) h = h
passed-static s (loose x) h = tt

answer_by : (x : Word) (o : Option Span) → IsStaticWord x → FoundStatic (option_map_or (λ i. within i x) o (wide x))
answer_by x (Some i) h = h
answer_by x None h = h

pub answered-static : (s : Spot) (g : Frame) (f : Found) → IsStaticFrame g → FoundStatic f → Gives FoundStatic (answered s g f)
answered-static s g (known z (Some w)) k h = tt
answered-static s g (known z None) k h = tt
answered-static s g (read b r l w) k h = (k, h)
answered-static s g (handed f r l w) k h = answer_by (block g (handed_word f r l w)) (slice_span false w) (k, handed_word-static f r l w h.0 h.1)
answered-static s g (bit x) k h = (k, extended-static false 1 x h)
answered-static s g (within i x) k h = (k, h)
answered-static s g (wide x) k h = (k, h)
answered-static s g (loose x) k h = tt

-- ---- slices

slice_found-static : (b : Bool) (o : Option ℕ) (r : ℕ) (x : Bits) → FoundStatic (slice_found b o r x)
slice_found-static b None r x = tt
slice_found-static b (Some n) r x = tt

abbrev found_at : Found → Count → Result (Found × Count) RangeFault
found_at f c = Ok (f, c)

-- after what depends on data there is nothing to show
vacuous : (f : Found) (c : Count) → Settled is_met FirstStatic c.is_dynamic (found_at f (dynamic c))
vacuous f c e = absurd (true-false e)
  where
    true-false : true ≡ false → ⊥
    true-false h = cc

settled_slice : (s : Sight) (b : Bool) (r : ℕ) (x : Bits) (c : Count) → Settled is_met FirstStatic c.is_dynamic (found_at (slice_found b (get_or s.constants r None) r x) c)
settled_slice s b r x c e = (e, slice_found-static b (get_or s.constants r None) r x)

pub slice_at-settled : (s : Sight) (p : Place) (b : Bool) (r : ℕ) (n : Option ℕ) (high low : Index) (c : Count)
    → Settled is_met FirstStatic c.is_dynamic (slice_at s p b r n high low c)
slice_at-settled s p b r (Some n) high (settled low) c =
    then_plain (λ x. Unit {0}) is_met FirstStatic c.is_dynamic (bits_between p (get_or s.widths r 0) (low +ℤ pos n) low) (λ x. found_at (slice_found b (get_or s.constants r None) r x) c) (anyhow _) (λ x u. settled_slice s b r x c)
slice_at-settled s p b r (Some n) high (unsettled low) c = then_plain (λ x. Unit {0}) is_met FirstStatic c.is_dynamic (moving_slice p (get_or s.widths r 0) b r 1 (n + 1) low) (λ f. found_at f (dynamic c)) (anyhow _) (λ f u. vacuous f c)
slice_at-settled s p b r None (settled high) (settled low) c =
    then_plain (λ x. Unit {0}) is_met FirstStatic c.is_dynamic (bits_between p (get_or s.widths r 0) high low) (λ x. found_at (slice_found b (get_or s.constants r None) r x) c) (anyhow _) (λ x u. settled_slice s b r x c)
slice_at-settled s p b r None (settled high) (unsettled low) c = tt
slice_at-settled s p b r None (unsettled high) (settled low) c = tt
slice_at-settled s p b r None (unsettled high) (unsettled low) c = tt

pub element_at-settled : (s : Sight) (p : Place) (b : Bool) (r size : ℕ) (k : Index) (c : Count) → Settled is_met FirstStatic c.is_dynamic (element_at s p b r size k c)
element_at-settled s p b r size (settled k) c =
    then_plain (λ x. Unit {0}) is_met FirstStatic c.is_dynamic (bits_of_element p (get_or s.widths r 0) size k) (λ x. found_at (slice_found b (get_or s.constants r None) r x) c) (anyhow _) (λ x u. settled_slice s b r x c)
element_at-settled s p b r size (unsettled k) c = then_plain (λ x. Unit {0}) is_met FirstStatic c.is_dynamic (moving_slice p (get_or s.widths r 0) b r size size k) (λ f. found_at f (dynamic c)) (anyhow _) (λ f u. vacuous f c)

pub front-settled : (s : Sight) (b : Bool) (r : ℕ) (q : Result Bits RangeFault) (c : Count)
    → Settled is_met FirstStatic c.is_dynamic (q >>= λ x. Ok (slice_found b (get_or s.constants r None) r x, c))
front-settled s b r q c = then_plain (λ x. Unit {0}) is_met FirstStatic c.is_dynamic q _ (anyhow q) (λ x u e. (e, slice_found-static b (get_or s.constants r None) r x))

pub variable-static : (k : ℕ) (v : KnownNumber) → FoundStatic (variable_found k v)
variable-static k (judging.constant z) = tt
variable-static k (varying i) = tt

-- ---- operators of one operand

within-static : (s : Spot) (o : Option Span) (x : Word) → IsStaticWord x → Gives FoundStatic (result_within s o x)
within-static s (Some i) x h = h
within-static s None x h = tt

known-static : (s : Spot) (z : ℤ) → Gives FoundStatic (result_known s z)
known-static s z = fits (fit z)
  where
    fits : (o : Option ℤ) → Gives FoundStatic (or_too_wide s.inner (option_map (λ y. known y None) o))
    fits (Some y) = tt
    fits None = tt

unary_word-static : (op : UnaryOp) (x : Word) → IsStaticWord x → IsStaticWord (unary_word op x)
unary_word-static Not x h = (h, tt)
unary_word-static Negate x h = (h, tt)
unary_word-static Absolute x h = h
unary_word-static Signed x h = h
unary_word-static (SignExtend n) x h = low_extended-static true (bits_of n) x h
unary_word-static (ZeroExtend n) x h = low_extended-static false (bits_of n) x h
unary_word-static (Saturate n) x h = ((h, tt), tt)
unary_word-static (SaturateUnsigned n) x h = ((h, tt), tt)
unary_word-static (Truncate n) x h = low_extended-static false (bits_of n) x h

unary_of-static : (s : Spot) (op : UnaryOp) (a : Operand) → OperandStatic a → Gives FoundStatic (unary_of s op a)
unary_of-static s op (fixed z) h = known-static s _
unary_of-static s op (moving i x) h = within-static s _ (unary_word op x) (unary_word-static op x h)

bits_read-static : (b : Bool) (f : Found) → FoundStatic f → FoundStatic (bits_read b f)
bits_read-static b (known z (Some w)) h = tt
bits_read-static b (known z None) h = tt
bits_read-static b (read s r l w) h = slice_word-static b r l w h
bits_read-static b (handed f r l w) h = h
bits_read-static b (bit x) h = h
bits_read-static b (within i x) h = h
bits_read-static b (wide x) h = h
bits_read-static b (loose x) h = h

extended_slice-static : (s : Spot) (b : Bool) (to w : ℕ) (f : Found) → FoundStatic f → Gives FoundStatic (extended_slice s b to w f)
extended_slice-static s b to w f h = gives_if FoundStatic (nat_le w to) _ _ (bits_read-static b f h) tt

unary_found-static : (s : Spot) (op : UnaryOp) (f : Found) (w : Option ℕ) (a : Operand) → FoundStatic f → OperandStatic a → Gives FoundStatic (unary_found s op f w a)
unary_found-static s Not f w a h g = unary_of-static s Not a g
unary_found-static s Negate f w a h g = unary_of-static s Negate a g
unary_found-static s Absolute f w a h g = unary_of-static s Absolute a g
unary_found-static s Signed f (Some w) a h g = bits_read-static true f h
unary_found-static s Signed f None a h g = unary_of-static s Signed a g
unary_found-static s (SignExtend n) f (Some w) a h g = extended_slice-static s true _ w f h
unary_found-static s (SignExtend n) f None a h g = unary_of-static s (SignExtend n) a g
unary_found-static s (ZeroExtend n) f (Some w) a h g = extended_slice-static s false _ w f h
unary_found-static s (ZeroExtend n) f None a h g = unary_of-static s (ZeroExtend n) a g
unary_found-static s (Saturate n) f w a h g = unary_of-static s (Saturate n) a g
unary_found-static s (SaturateUnsigned n) f w a h g = unary_of-static s (SaturateUnsigned n) a g
unary_found-static s (Truncate n) f w a h g = unary_of-static s (Truncate n) a g

uncut : (s : Spot) (op : UnaryOp) (t : Spot) (f : Found) → FoundStatic f → Gives FoundStatic (operand t f >>= λ a. unary_found s op f (width_found f) a)
uncut s op t f h = gives_bind OperandStatic FoundStatic (operand t f) _ (operand-static t f h) (λ a g. unary_found-static s op f (width_found f) a h g)

cut : (s : Spot) (op : UnaryOp) (t : Spot) (x : Word) → IsStaticWord x → Gives FoundStatic (unary_at s op t (loose x))
cut s Not t x h = tt
cut s Negate t x h = tt
cut s Absolute t x h = tt
cut s Signed t x h = tt
cut s (SignExtend n) t x h = low_extended-static true (bits_of n) x h
cut s (ZeroExtend n) t x h = low_extended-static false (bits_of n) x h
cut s (Saturate n) t x h = tt
cut s (SaturateUnsigned n) t x h = tt
cut s (Truncate n) t x h = low_extended-static false (bits_of n) x h

pub unary_at-static : (s : Spot) (op : UnaryOp) (t : Spot) (f : Found) → FoundStatic f → Gives FoundStatic (unary_at s op t f)
unary_at-static s op t (known z w) h = uncut s op t (known z w) h
unary_at-static s op t (read b r l w) h = uncut s op t (read b r l w) h
unary_at-static s op t (handed f r l w) h = uncut s op t (handed f r l w) h
unary_at-static s op t (bit x) h = uncut s op t (bit x) h
unary_at-static s op t (within i x) h = uncut s op t (within i x) h
unary_at-static s op t (wide x) h = uncut s op t (wide x) h
unary_at-static s op t (loose x) h = cut s op t x h

-- ---- operators of two operands

comparison-static : (op : BinaryOp) (x y : Word) → IsStaticWord x → IsStaticWord y → IsStaticWord (comparison op x y)
comparison-static Or x y h g = tt
comparison-static Xor x y h g = tt
comparison-static And x y h g = tt
comparison-static Equal x y h g = (h, g)
comparison-static NotEqual x y h g = ((h, g), tt)
comparison-static Less x y h g = (h, g)
comparison-static LessOrEqual x y h g = ((g, h), tt)
comparison-static Greater x y h g = (g, h)
comparison-static GreaterOrEqual x y h g = ((h, g), tt)
comparison-static ShiftLeft x y h g = tt
comparison-static ShiftRight x y h g = tt
comparison-static Add x y h g = tt
comparison-static Subtract x y h g = tt
comparison-static Multiply x y h g = tt
comparison-static Minimum x y h g = tt
comparison-static Maximum x y h g = tt

binary_word-static : (op : BinaryOp) (x y : Word) → is_shift op ≡ false → IsStaticWord x → IsStaticWord y → IsStaticWord (binary_word op x y)
binary_word-static Or x y e h g = (h, g)
binary_word-static Xor x y e h g = (h, g)
binary_word-static And x y e h g = (h, g)
binary_word-static Equal x y e h g = extended-static false 1 (comparison Equal x y) (comparison-static Equal x y h g)
binary_word-static NotEqual x y e h g = extended-static false 1 (comparison NotEqual x y) (comparison-static NotEqual x y h g)
binary_word-static Less x y e h g = extended-static false 1 (comparison Less x y) (comparison-static Less x y h g)
binary_word-static LessOrEqual x y e h g = extended-static false 1 (comparison LessOrEqual x y) (comparison-static LessOrEqual x y h g)
binary_word-static Greater x y e h g = extended-static false 1 (comparison Greater x y) (comparison-static Greater x y h g)
binary_word-static GreaterOrEqual x y e h g = extended-static false 1 (comparison GreaterOrEqual x y) (comparison-static GreaterOrEqual x y h g)
binary_word-static ShiftLeft x y e h g = absurd (cc)
binary_word-static ShiftRight x y e h g = absurd (cc)
binary_word-static Add x y e h g = (h, g)
binary_word-static Subtract x y e h g = (h, (g, tt))
binary_word-static Multiply x y e h g = (h, g)
binary_word-static Minimum x y e h g = (h, g)
binary_word-static Maximum x y e h g = (h, g)

joined_two : (s : Spot) (op : BinaryOp) (a b : Operand) → is_shift op ≡ false → OperandStatic a → OperandStatic b
    → Gives FoundStatic (if is_comparison op then Ok (bit (comparison op (word_of a) (word_of b)))
    else result_within s (binary_span op (span_of a) (span_of b)) (binary_word op (word_of a) (word_of b)))
joined_two s op a b e h g =
    let x = word_of-static a h in
    let y = word_of-static b g in
    gives_if FoundStatic (is_comparison op) _ _ (comparison-static op (word_of a) (word_of b) x y)
    (within-static s (binary_span op (span_of a) (span_of b)) (binary_word op (word_of a) (word_of b)) (binary_word-static op (word_of a) (word_of b) e x y))

joined-static : (s : Spot) (op : BinaryOp) (a b : Operand) → is_shift op ≡ false → OperandStatic a → OperandStatic b → Gives FoundStatic (joined s op a b)
joined-static s op (fixed y) (fixed z) e h g = known-static s _
joined-static s op (fixed y) (moving j w) e h g = joined_two s op (fixed y) (moving j w) e h g
joined-static s op (moving i x) (fixed z) e h g = joined_two s op (moving i x) (fixed z) e h g
joined-static s op (moving i x) (moving j w) e h g = joined_two s op (moving i x) (moving j w) e h g

shifted_by-static : (s : Spot) (op : BinaryOp) (n : ℕ) (a : Operand) → OperandStatic a → Gives FoundStatic (shifted_by s op n a)
shifted_by-static s Or n (fixed z) h = known-static s _
shifted_by-static s Or n (moving i x) h = h
shifted_by-static s Xor n (fixed z) h = known-static s _
shifted_by-static s Xor n (moving i x) h = h
shifted_by-static s And n (fixed z) h = known-static s _
shifted_by-static s And n (moving i x) h = h
shifted_by-static s Equal n (fixed z) h = known-static s _
shifted_by-static s Equal n (moving i x) h = h
shifted_by-static s NotEqual n (fixed z) h = known-static s _
shifted_by-static s NotEqual n (moving i x) h = h
shifted_by-static s Less n (fixed z) h = known-static s _
shifted_by-static s Less n (moving i x) h = h
shifted_by-static s LessOrEqual n (fixed z) h = known-static s _
shifted_by-static s LessOrEqual n (moving i x) h = h
shifted_by-static s Greater n (fixed z) h = known-static s _
shifted_by-static s Greater n (moving i x) h = h
shifted_by-static s GreaterOrEqual n (fixed z) h = known-static s _
shifted_by-static s GreaterOrEqual n (moving i x) h = h
shifted_by-static s ShiftLeft n (fixed z) h = gives_if FoundStatic (nat_le n 126) _ _ (known-static s _) tt
shifted_by-static s ShiftLeft n (moving i x) h = gives_if FoundStatic (nat_le n 126) _ _ (within-static s (shifted_left_span i (between (pos n) (pos n))) (left_by n x) (h, tt)) tt
shifted_by-static s ShiftRight n (fixed z) h = known-static s _
shifted_by-static s ShiftRight n (moving i x) h = h
shifted_by-static s Add n (fixed z) h = known-static s _
shifted_by-static s Add n (moving i x) h = h
shifted_by-static s Subtract n (fixed z) h = known-static s _
shifted_by-static s Subtract n (moving i x) h = h
shifted_by-static s Multiply n (fixed z) h = known-static s _
shifted_by-static s Multiply n (moving i x) h = h
shifted_by-static s Minimum n (fixed z) h = known-static s _
shifted_by-static s Minimum n (moving i x) h = h
shifted_by-static s Maximum n (fixed z) h = known-static s _
shifted_by-static s Maximum n (moving i x) h = h

shift_at-settled : (s : Spot) (op : BinaryOp) (t : Spot) (a b : Operand) (c : Count) → (c.is_dynamic ≡ false → OperandStatic a)
    → Settled is_met FirstStatic c.is_dynamic (shift_at s op t a b c)
shift_at-settled s op t a (fixed (pos n)) c h =
    then_plain (λ f. c.is_dynamic ≡ false → FoundStatic f) is_met FirstStatic c.is_dynamic (shifted_by s op n a) _
    (where_static (shifted_by s op n a) (λ e. shifted_by-static s op n a (h e))) (λ f g e. (e, g e))
  where
    where_static : (r : Result Found RangeFault) → (c.is_dynamic ≡ false → Gives FoundStatic r) → Gives (λ f. c.is_dynamic ≡ false → FoundStatic f) r
    where_static (Ok f) g = g
    where_static (Err e) g = tt
shift_at-settled s op t a (fixed (negsuc n)) c h = tt
shift_at-settled s op t a (moving i x) c h = settled_if is_met FirstStatic c.is_dynamic (int_lt i.least (pos 0)) _ _ tt (vacuous (shifted_along op a (moving i x)) c)

pub binary_at-settled : (s : Spot) (op : BinaryOp) (t : Spot) (a b : Operand) (c : Count) → (c.is_dynamic ≡ false → OperandStatic a) → (c.is_dynamic ≡ false → OperandStatic b)
    → Settled is_met FirstStatic c.is_dynamic (binary_at s op t a b c)
binary_at-settled s op t a b c h g = elim (cases_Bool (is_shift op)) [
  | inl e ↦ rw e (shift_at-settled s op t a b c h)
  | inr e ↦ rw e (
      then_plain (λ f. c.is_dynamic ≡ false → FoundStatic f) is_met FirstStatic c.is_dynamic (joined s op a b) _
      (where_static (joined s op a b) (λ d. joined-static s op a b e (h d) (g d))) (λ f k d. (d, k d)))
]
  where
    where_static : (r : Result Found RangeFault) → (c.is_dynamic ≡ false → Gives FoundStatic r) → Gives (λ f. c.is_dynamic ≡ false → FoundStatic f) r
    where_static (Ok f) g = g
    where_static (Err e) g = tt
