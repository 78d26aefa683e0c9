-- The span of an operation holds what it makes of numbers that the spans of its operands hold.
use Rattle.std.proofs.Common.{◌≡◌, ℕ, suc, ◌+◌, ◌-◌, ◌*◌, ◌/◌, ◌%◌, ◌^◌, ◌<◌, ◌≤◌, Bool, true, false, refl, sym, ap, ◌∙◌, subst, arith, inl, inr}
use Rattle.std.specs.Prelude.{ℤ, pos, negsuc, ◌+ℤ◌, ◌-ℤ◌, ◌*ℤ◌, ◌≤ℤ◌, bit_and, bit_or, bit_xor, max, min, int_lt, if◌then◌else◌}
use Rattle.std.specs.Int.{int_min, int_max}
use Rattle.std.proofs.lemmas.Bool.{cases_lt}
use Rattle.std.proofs.lemmas.Int.{clamps, ints}
use Rattle.std.proofs.lemmas.Nat.{le-div, mul-mod, pow_pos, shr_le}
use Rattle.std.proofs.Math.IntN.{*ℤ_comm}
use Rattle.std.proofs.Math.Nat.{add-mul-mod_self_right, div-mul-le_self, mod-eq_of_lt, mul-le-mul_right}
use borrow.Author.Differences.{up, down}
use Rattle.vg_base.specs.Bits.{signed_at}
use Rattle.vg_base.specs.Number.{floor_shift, magnitude, residue}
use Rattle.vg_base.proofs.LowBits.{below_wider, low-below, pow-le}
use Rattle.vg_base.proofs.Signed.{residue-add, residue-low, residue-mul, residue_below}
use Rattle.vg_scalar.specs.declared.two_op.TwoOp.{TwoOp}
use Rattle.vg_scalar.specs.declared.two_op.TwoOp.TheVariants.{Add, Sub, Mul, And, Or, Xor, Smin, Smax, Umin, Umax}
use Rattle.vg_scalar.specs.declared.resize.Resize.{Resize}
use Rattle.vg_scalar.specs.declared.resize.Resize.TheVariants.{Sext, Zext, Trunc}
use Rattle.vg_scalar.specs.declared.shift.Shift.{Shift}
use Rattle.vg_scalar.specs.declared.shift.Shift.TheVariants.{Shl, Lshr, Ashr}
use Rattle.vg_scalar.specs.Scalar.{resize_result, shift_result, two_result}
use Rattle.vg_spans.specs.declared.operand_spans.OperandSpans.{OperandSpans}
use Rattle.vg_spans.specs.declared.span.Span.{Span}
use Rattle.vg_spans.specs.Span.{between_ends, end_by_end, hull, IsIn, is_signed, is_unsigned, is_within, only, readable, signed_span, span, unsigned_span, with_ends}
use Rattle.vg_spans.specs.Spans.{resize_span, shift_span, shifted_down, two_span}
use Rattle.vg_spans.proofs.BitRows.{and-holds, bits-hold, or-on_bits, xor-on_bits}
use Rattle.vg_spans.proofs.Holding.{Holds, holds-by, le-self, le-trans, or-left, readable-holds, signed-holds, unsigned-holds, within, within-ends}
use Rattle.vg_spans.proofs.Reading.{ReadsAs}

-- ---- ends

-- a change from v bits to w
abbrev pub ChangesTo : Resize → ℕ → ℕ → Type 0
ChangesTo Sext v w = v < w
ChangesTo Zext v w = v < w
ChangesTo Trunc v w = w < v

add-ends : (s t : Span) (x y : ℤ) → IsIn s x → IsIn t y → IsIn (between_ends (λ a b. a +ℤ b) s t) (x +ℤ y)
add-ends s t x y h k = record {
  above = omega (arith, ints, clamps, h.above, k.above);
  below = omega (arith, ints, clamps, h.below, k.below);
}

sub-ends : (s t : Span) (x y : ℤ) → IsIn s x → IsIn t y → IsIn (between_ends (λ a b. a -ℤ b) s t) (x -ℤ y)
sub-ends s t x y h k = record {
  above = omega (arith, ints, clamps, h.above, k.below);
  below = omega (arith, ints, clamps, h.below, k.above);
}

-- a product with a number
mul-pos : (a x : ℤ) (n : ℕ) → a ≤ℤ x → (a *ℤ pos n) ≤ℤ (x *ℤ pos n)
mul-pos a x n p =
    let h : up a + down x ≤ up x + down a = omega (arith, ints) in
    omega (arith, ints, mul-le-mul_right n h)

mul-negsuc : (a x : ℤ) (n : ℕ) → a ≤ℤ x → (x *ℤ negsuc n) ≤ℤ (a *ℤ negsuc n)
mul-negsuc a x n p =
    let h : up a + down x ≤ up x + down a = omega (arith, ints) in
    omega (arith, ints, mul-le-mul_right (suc n) h)

-- between those of the ends
line : (s : Span) (x y : ℤ) → IsIn s x → IsIn (span (int_min (s.low *ℤ y) (s.high *ℤ y)) (int_max (s.low *ℤ y) (s.high *ℤ y))) (x *ℤ y)
line s x (pos n) h =
    let p = mul-pos s.low x n h.above in
    let q = mul-pos x s.high n h.below in
    record { above = omega (arith, ints, clamps, p); below = omega (arith, ints, clamps, q) }
line s x (negsuc n) h =
    let p = mul-negsuc s.low x n h.above in
    let q = mul-negsuc x s.high n h.below in
    record { above = omega (arith, ints, clamps, q); below = omega (arith, ints, clamps, p) }

column : (t : Span) (a y : ℤ) → IsIn t y → IsIn (with_ends (λ a b. a *ℤ b) a t) (a *ℤ y)
column t a y h =
    subst (λ v. IsIn (span (int_min v (a *ℤ t.high)) (int_max v (a *ℤ t.high))) (a *ℤ y)) (*ℤ_comm t.low a)
    (subst (λ v. IsIn (span (int_min (t.low *ℤ a) v) (int_max (t.low *ℤ a) v)) (a *ℤ y)) (*ℤ_comm t.high a)
    (subst (IsIn (span (int_min (t.low *ℤ a) (t.high *ℤ a)) (int_max (t.low *ℤ a) (t.high *ℤ a)))) (*ℤ_comm y a) (line t y a h)))

both-ends : (a b c d l m g k z : ℤ) → int_min a b ≤ℤ z → z ≤ℤ int_max a b → l ≤ℤ a → a ≤ℤ m → g ≤ℤ b → b ≤ℤ k → IsIn (span (int_min l g) (int_max m k)) z
both-ends a b c d l m g k z p q r s t u = record { above = omega (arith, ints, clamps); below = omega (arith, ints, clamps) }

mul-ends : (s t : Span) (x y : ℤ) → IsIn s x → IsIn t y → IsIn (between_ends (λ a b. a *ℤ b) s t) (x *ℤ y)
mul-ends s t x y h k =
    let across = line s x y h in
    let first = column t s.low y k in
    let last = column t s.high y k in
    both-ends (s.low *ℤ y) (s.high *ℤ y) x y _ _ _ _ (x *ℤ y) across.above across.below first.above first.below last.above last.below

-- ---- sums, differences, products

pub residue-sub : (w : ℕ) (x y : ℤ) → residue w (x -ℤ y) ≡ (residue w x + (2 ^ w - residue w y)) % 2 ^ w
residue-sub w x y =
    let p = 2 ^ w in
    let r = residue w (x -ℤ y) in
    let a = residue w x in
    let b = residue w y in
    let back : ((x -ℤ y) +ℤ y) ≡ x = omega (arith, ints) in
    let sum : (r + b) % p ≡ a = sym (residue-add w (x -ℤ y) y) ∙ ap (residue w) back in
    let low : r < p = residue_below w (x -ℤ y) in
    let low' : b < p = residue_below w y in
    elim (cases_lt (r + b) p) [
      | inl l ↦
          let e : r + b ≡ a = sym (mod-eq_of_lt l) ∙ sum in
          let f : a + (p - b) ≡ r + 1 * p = omega arith in
          sym (ap (λ v. v % p) f ∙ add-mul-mod_self_right r 1 p ∙ mod-eq_of_lt low)
      | inr g ↦
          let e : r + b ≡ (r + b - p) + 1 * p = omega arith in
          let small : r + b - p < p = omega arith in
          let f : r + b - p ≡ a = sym (mod-eq_of_lt small) ∙ sym (add-mul-mod_self_right (r + b - p) 1 p) ∙ sym (ap (λ v. v % p) e) ∙ sum in
          let h : a + (p - b) ≡ r = omega arith in
          sym (ap (λ v. v % p) h ∙ mod-eq_of_lt low)
    ]

-- ---- the lesser and the greater

-- the lesser of two numbers in spans is between the lesser ends
min-ends : (s t : Span) (x y : ℤ) → IsIn s x → IsIn t y → IsIn (end_by_end int_min s t) (int_min x y)
min-ends s t x y h k = record {
  above = omega (arith, ints, clamps, h.above, k.above);
  below = omega (arith, ints, clamps, h.below, k.below);
}

max-ends : (s t : Span) (x y : ℤ) → IsIn s x → IsIn t y → IsIn (end_by_end int_max s t) (int_max x y)
max-ends s t x y h k = record {
  above = omega (arith, ints, clamps, h.above, k.above);
  below = omega (arith, ints, clamps, h.below, k.below);
}

-- and both stay in a span that has both spans
pub min-within : (s t u : Span) → is_within s u ≡ true → is_within t u ≡ true → is_within (end_by_end int_min s t) u ≡ true
min-within s t u e f =
    let h = within-ends s u e in
    let k = within-ends t u f in
    within (end_by_end int_min s t) u (omega (arith, ints, clamps, h.above, k.above)) (omega (arith, ints, clamps, h.below, k.below))

pub max-within : (s t u : Span) → is_within s u ≡ true → is_within t u ≡ true → is_within (end_by_end int_max s t) u ≡ true
max-within s t u e f =
    let h = within-ends s u e in
    let k = within-ends t u f in
    within (end_by_end int_max s t) u (omega (arith, ints, clamps, h.above, k.above)) (omega (arith, ints, clamps, h.below, k.below))

if-min : (a b : ℤ) → (if int_lt a b then a else b) ≡ int_min a b
if-min a b = grind (arith, ints)

if-max : (a b : ℤ) → (if int_lt a b then b else a) ≡ int_max a b
if-max a b = grind (arith, ints)

through : {A B : Type 0} (f : A → B) (c : Bool) (x y : A) → f (if c then x else y) ≡ (if c then f x else f y)
through f true x y = refl
through f false x y = refl

signed-pick : (w a b : ℕ) (x y : OperandSpans) (c : Bool) (s : Span) (z : ℤ) → ReadsAs w x a → ReadsAs w y b → is_signed w s ≡ true
    → (if c then signed_at w a else signed_at w b) ≡ z → IsIn s z → Holds w s (if c then a else b)
signed-pick w a b x y c s z h k fits e inside =
    signed-holds w (if c then a else b) s h.some (by c) fits (subst (IsIn s) (sym (through (signed_at w) c a b ∙ e)) inside)
  where
    by : (c : Bool) → (if c then a else b) < 2 ^ w
    by true = h.below
    by false = k.below

pub pos-min : (a b : ℕ) → int_min (pos a) (pos b) ≡ pos (min a b)
pos-min a b = grind arith

pub pos-max : (a b : ℕ) → int_max (pos a) (pos b) ≡ pos (max a b)
pos-max a b = grind arith

-- ---- two operands

pub two-holds : (op : TwoOp) (w a b : ℕ) (x y : OperandSpans) → w ≤ 64 → ReadsAs w x a → ReadsAs w y b → Holds w (two_span op w x y) (two_result op w a b)
two-holds op w a b x y most h k = by op
  where
    same : w ≤ w
    same = omega arith

    la : a % 2 ^ w ≡ a
    la = low-below a w w h.below same

    lb : b % 2 ^ w ≡ b
    lb = low-below b w w k.below same

    by : (op : TwoOp) → Holds w (two_span op w x y) (two_result op w a b)
    by Add =
        readable-holds w (two_result Add w a b) (between_ends (λ a b. a +ℤ b) x.plain y.plain) (h.whole +ℤ k.whole) h.some (add-ends x.plain y.plain h.whole k.whole h.plain k.plain)
        (residue-add w h.whole k.whole ∙ (λ i. (h.residue i + k.residue i) % 2 ^ w))
    by Sub =
        readable-holds w (two_result Sub w a b) (between_ends (λ a b. a -ℤ b) x.plain y.plain) (h.whole -ℤ k.whole) h.some (sub-ends x.plain y.plain h.whole k.whole h.plain k.plain)
        (residue-sub w h.whole k.whole ∙ (λ i. (h.residue i + (2 ^ w - (k.residue ∙ sym lb) i)) % 2 ^ w))
    by Mul =
        readable-holds w (two_result Mul w a b) (between_ends (λ a b. a *ℤ b) x.plain y.plain) (h.whole *ℤ k.whole) h.some (mul-ends x.plain y.plain h.whole k.whole h.plain k.plain)
        (residue-mul w h.whole k.whole ∙ (λ i. (h.residue i * k.residue i) % 2 ^ w))
    by And = subst (Holds w (two_span And w x y)) (λ i. bit_and (sym la i) (sym lb i)) (and-holds w a b x y h k)
    by Or = subst (Holds w (two_span Or w x y)) (λ i. bit_or (sym la i) (sym lb i)) (bits-hold bit_or w a b x y or-on_bits most h k)
    by Xor = subst (Holds w (two_span Xor w x y)) (λ i. bit_xor (sym la i) (sym lb i)) (bits-hold bit_xor w a b x y xor-on_bits most h k)
    by Smin =
        subst (Holds w (two_span Smin w x y)) (λ i. if int_lt (signed_at w (sym la i)) (signed_at w (sym lb i)) then sym la i else sym lb i)
        (signed-pick w a b x y (int_lt (signed_at w a) (signed_at w b)) (two_span Smin w x y) (int_min (signed_at w a) (signed_at w b)) h k
        (min-within x.signed y.signed (signed_span w) h.signed_fits k.signed_fits) (if-min (signed_at w a) (signed_at w b))
        (min-ends x.signed y.signed (signed_at w a) (signed_at w b) h.signed k.signed))
    by Smax =
        subst (Holds w (two_span Smax w x y)) (λ i. if int_lt (signed_at w (sym la i)) (signed_at w (sym lb i)) then sym lb i else sym la i)
        (signed-pick w b a y x (int_lt (signed_at w a) (signed_at w b)) (two_span Smax w x y) (int_max (signed_at w a) (signed_at w b)) k h
        (max-within x.signed y.signed (signed_span w) h.signed_fits k.signed_fits) (if-max (signed_at w a) (signed_at w b))
        (max-ends x.signed y.signed (signed_at w a) (signed_at w b) h.signed k.signed))
    by Umin =
        subst (Holds w (two_span Umin w x y)) (λ i. min (sym la i) (sym lb i))
        (unsigned-holds w (min a b) (two_span Umin w x y) h.some (let p = h.below in omega arith) (min-within x.unsigned y.unsigned (unsigned_span w) h.unsigned_fits k.unsigned_fits)
        (subst (IsIn (two_span Umin w x y)) (pos-min a b) (min-ends x.unsigned y.unsigned (pos a) (pos b) h.unsigned k.unsigned)))
    by Umax =
        subst (Holds w (two_span Umax w x y)) (λ i. max (sym la i) (sym lb i))
        (unsigned-holds w (max a b) (two_span Umax w x y) h.some (let p = h.below in let q = k.below in omega arith) (max-within x.unsigned y.unsigned (unsigned_span w) h.unsigned_fits k.unsigned_fits)
        (subst (IsIn (two_span Umax w x y)) (pos-max a b) (max-ends x.unsigned y.unsigned (pos a) (pos b) h.unsigned k.unsigned)))

-- ---- shifts

quotients : (a x k : ℕ) → a ≤ x → a / 2 ^ k ≤ x / 2 ^ k
quotients a x k h = le-div (a / 2 ^ k) x (2 ^ k) (pow_pos k) (omega (arith, div-mul-le_self a (2 ^ k)))

pub floor-le : (a x : ℤ) (k : ℕ) → a ≤ℤ x → floor_shift a k ≤ℤ floor_shift x k
floor-le (pos a) (pos x) k p =
    let h : a ≤ x = omega (arith, ints) in
    omega (arith, ints, quotients a x k h)
floor-le (pos a) (negsuc x) k p = absurd (omega (arith, ints))
floor-le (negsuc a) (pos x) k p = omega (arith, ints)
floor-le (negsuc a) (negsuc x) k p =
    let h : x ≤ a = omega (arith, ints) in
    omega (arith, ints, quotients x a k h)

down-in : (s : Span) (z : ℤ) (k : ℕ) → IsIn s z → IsIn (shifted_down s k) (floor_shift z k)
down-in s z k h = record { above = floor-le s.low z k h.above; below = floor-le z s.high k h.below }

-- a shift down brings a number nearer to 0 or -1
floor-magnitude : (z : ℤ) (k : ℕ) → magnitude (floor_shift z k) ≤ magnitude z
floor-magnitude (pos n) k = shr_le n k
floor-magnitude (negsuc n) k = shr_le n k

-- so what is within bounds round 0 stays there
down-least : (m z : ℕ) (k : ℕ) → z ≤ m → z / 2 ^ k ≤ m
down-least m z k h = omega (arith, shr_le z k)

signed-down : (w k : ℕ) (s : Span) → is_signed w s ≡ true → is_signed w (shifted_down s k) ≡ true
signed-down w k s e =
    let h = within-ends s (signed_span w) e in
    within (shifted_down s k) (signed_span w) (low s.low h.above) (high s.high h.below)
  where
    low : (z : ℤ) → negsuc (2 ^ (w - 1) - 1) ≤ℤ z → negsuc (2 ^ (w - 1) - 1) ≤ℤ floor_shift z k
    low (pos n) p = omega (arith, ints)
    low (negsuc n) p = omega (arith, ints, shr_le n k)

    high : (z : ℤ) → z ≤ℤ pos (2 ^ (w - 1) - 1) → floor_shift z k ≤ℤ pos (2 ^ (w - 1) - 1)
    high (pos n) p = omega (arith, ints, shr_le n k)
    high (negsuc n) p = omega (arith, ints)

unsigned-down : (w k : ℕ) (s : Span) → is_unsigned w s ≡ true → is_unsigned w (shifted_down s k) ≡ true
unsigned-down w k s e =
    let h = within-ends s (unsigned_span w) e in
    within (shifted_down s k) (unsigned_span w) (low s.low h.above) (high s.high h.below)
  where
    low : (z : ℤ) → pos 0 ≤ℤ z → pos 0 ≤ℤ floor_shift z k
    low (pos n) p = omega (arith, ints)
    low (negsuc n) p = absurd (omega (arith, ints))

    high : (z : ℤ) → z ≤ℤ pos (2 ^ w - 1) → floor_shift z k ≤ℤ pos (2 ^ w - 1)
    high (pos n) p = omega (arith, ints, shr_le n k)
    high (negsuc n) p = omega (arith, ints)

pub shift-holds : (op : Shift) (w k a : ℕ) (x : OperandSpans) → ReadsAs w x a → Holds w (shift_span op w k x) (shift_result op w k a)
shift-holds Shl w k a x h =
    let p = 2 ^ k in
    let one : IsIn (only (pos p)) (pos p) = record { above = le-self (pos p); below = le-self (pos p) } in
    readable-holds w ((a * p) % 2 ^ w) (between_ends (λ a b. a *ℤ b) x.plain (only (pos p))) (h.whole *ℤ pos p) h.some (mul-ends x.plain (only (pos p)) h.whole (pos p) h.plain one)
    (residue-mul w h.whole (pos p) ∙ (λ i. (h.residue i * (p % 2 ^ w)) % 2 ^ w) ∙ (let same : w ≤ w = omega arith in ap (λ v. (v * (p % 2 ^ w)) % 2 ^ w) (sym (low-below a w w h.below same))) ∙ sym (mul-mod a p (2 ^ w)))
shift-holds Lshr w k a x h =
    let same : w ≤ w = omega arith in
    let la = low-below a w w h.below same in
    subst (λ v. Holds w (shift_span Lshr w k x) (v / 2 ^ k)) (sym la)
    (unsigned-holds w (a / 2 ^ k) (shifted_down x.unsigned k) h.some (let p = h.below in omega (arith, shr_le a k)) (unsigned-down w k x.unsigned h.unsigned_fits) (down-in x.unsigned (pos a) k h.unsigned))
shift-holds Ashr w k a x h =
    let same : w ≤ w = omega arith in
    let la = low-below a w w h.below same in
    let z = floor_shift (signed_at w a) k in
    let fits = signed-down w k x.signed h.signed_fits in
    subst (λ v. Holds w (shift_span Ashr w k x) (residue w (floor_shift (signed_at w v) k))) (sym la)
    (holds-by w (residue w z) (shifted_down x.signed k) z h.some (or-left (is_signed w (shifted_down x.signed k)) (is_unsigned w (shifted_down x.signed k)) fits) (down-in x.signed (signed_at w a) k h.signed) refl)

-- ---- resizes

pub signed-wider : (v w : ℕ) → v ≤ w → is_within (signed_span v) (signed_span w) ≡ true
signed-wider v w h = let p = pow-le (v - 1) (w - 1) (omega arith) in within (signed_span v) (signed_span w) (omega (arith, ints)) (omega (arith, ints))

pub unsigned-wider : (v w : ℕ) → v ≤ w → is_within (unsigned_span v) (unsigned_span w) ≡ true
unsigned-wider v w h = let p = pow-le v w h in within (unsigned_span v) (unsigned_span w) (omega (arith, ints)) (omega (arith, ints))

pub within-within : (s t u : Span) → is_within s t ≡ true → is_within t u ≡ true → is_within s u ≡ true
within-within s t u e f =
    let h = within-ends s t e in
    let k = within-ends t u f in
    within s u (le-trans u.low t.low s.low k.above h.above) (le-trans s.high t.high u.high h.below k.below)

-- from v bits to w
pub resize-holds : (op : Resize) (w v a : ℕ) (x : OperandSpans) → 0 < w → ChangesTo op v w → ReadsAs v x a → Holds w (resize_span op w x) (resize_result op w v a)
resize-holds Sext w v a x some c h =
    let same : v ≤ v = omega arith in
    let la = low-below a v v h.below same in
    let wide = within-within x.signed (signed_span v) (signed_span w) h.signed_fits (signed-wider v w (omega arith)) in
    subst (λ n. Holds w x.signed (residue w (signed_at v n))) (sym la)
    (holds-by w (residue w (signed_at v a)) x.signed (signed_at v a) some (or-left (is_signed w x.signed) (is_unsigned w x.signed) wide) h.signed refl)
resize-holds Zext w v a x some c h =
    let same : v ≤ v = omega arith in
    let la = low-below a v v h.below same in
    let wide = within-within x.unsigned (unsigned_span v) (unsigned_span w) h.unsigned_fits (unsigned-wider v w (omega arith)) in
    subst (λ n. Holds w x.unsigned n) (sym la)
    (unsigned-holds w a x.unsigned some (below_wider a v w h.below (omega arith)) wide h.unsigned)
resize-holds Trunc w v a x some c h =
    readable-holds w (a % 2 ^ w) x.plain h.whole some h.plain (sym (residue-low v w h.whole (omega arith)) ∙ ap (λ n. n % 2 ^ w) h.residue)

-- ---- comparisons, choices

pub bit-holds : (c : Bool) → Holds 1 (span (pos 0) (pos 1)) (if c then 1 else 0)
bit-holds true = unsigned-holds 1 1 (span (pos 0) (pos 1)) (omega arith) (omega arith) refl (record { above = omega (arith, ints); below = omega (arith, ints) })
bit-holds false = unsigned-holds 1 0 (span (pos 0) (pos 1)) (omega arith) (omega arith) refl (record { above = omega (arith, ints); below = omega (arith, ints) })

hull-left : (s t : Span) (z : ℤ) → IsIn s z → IsIn (hull s t) z
hull-left s t z h = record { above = omega (arith, ints, clamps, h.above); below = omega (arith, ints, clamps, h.below) }

hull-right : (s t : Span) (z : ℤ) → IsIn t z → IsIn (hull s t) z
hull-right s t z h = record { above = omega (arith, ints, clamps, h.above); below = omega (arith, ints, clamps, h.below) }

pub choice-holds : (c : Bool) (w a b : ℕ) (x y : OperandSpans) → ReadsAs w x a → ReadsAs w y b → Holds w (readable w (hull x.plain y.plain)) (if c then a else b)
choice-holds true w a b x y h k = readable-holds w a (hull x.plain y.plain) h.whole h.some (hull-left x.plain y.plain h.whole h.plain) h.residue
choice-holds false w a b x y h k = readable-holds w b (hull x.plain y.plain) k.whole h.some (hull-right x.plain y.plain k.whole k.plain) k.residue
