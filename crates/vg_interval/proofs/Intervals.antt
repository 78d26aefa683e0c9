-- Each operator's interval holds its results.
use Rattle.std.proofs.Common.{◌≡◌, ℕ, suc, ◌+◌, ◌-◌, ◌/◌, ◌^◌, ◌<◌, ◌≤◌, refl, sym, ap, ◌∙◌, subst, arith, inl, inr, Bool, true, false, lit<}
use Rattle.std.specs.Prelude.{ℤ, pos, negsuc, ◌+ℤ◌, ◌*ℤ◌, ◌≤ℤ◌, ◌||◌, not, bit_and, bit_or, bit_xor, int_lt, int_le, nat_lt, if◌then◌else◌, max, Option, Some, None}
use Rattle.std.specs.Ordering.{int_eq}
use Rattle.std.proofs.lemmas.Int.{ints}
use Rattle.std.proofs.lemmas.Nat.{or_lt, xor_lt, and_le_l, pow_pos, le-div, shr-shr}
use Rattle.std.proofs.Math.Nat.{mul-le-mul_right, div-mul-le_self, div-le_self}
use Rattle.std.proofs.Math.IntN.{*ℤ_comm}
use borrow.Author.Differences.{up, down}
use Rattle.std.proofs.lemmas.Bool.{cases_lt, cases_Bool, and_parts, le-leb, lt-leb, lt-ltb, le-ltb}
use Rattle.vg_base.specs.Trap.{◌>>=◌}
use Rattle.vg_base.specs.Width.{bits_of}
use Rattle.vg_base.specs.declared.width.Width.{Width}
use Rattle.vg_base.specs.Number.{residue, floor_shift, magnitude, least_signed, greatest_signed}
use Rattle.vg_base.specs.Bits.{signed_at}
use Rattle.vg_base.specs.declared.width.Width.TheVariants.{W8, W16, W32, W64}
use Rattle.vg_terms.specs.Known.{digits}
use Rattle.vg_terms.proofs.Soundness.{digits-below}
use Rattle.vg_base.proofs.LowBits.{below_wider, pow-le}
use Rattle.vg_base.proofs.Signed.{signed-within, residue_below}
use Rattle.vg_terms.proofs.Shifts.{floor_shift-capped}
use Rattle.vg_pseudo.specs.declared.operators.UnaryOp.{UnaryOp}
use Rattle.vg_pseudo.specs.declared.operators.UnaryOp.TheVariants.{Not, Negate, Absolute, Signed, SignExtend, ZeroExtend, Saturate, SaturateUnsigned, Truncate}
use Rattle.vg_pseudo.specs.declared.operators.BinaryOp.{BinaryOp}
use Rattle.vg_pseudo.specs.declared.operators.BinaryOp.TheVariants.{Or, Xor, And, Equal, NotEqual, Less, LessOrEqual, Greater, GreaterOrEqual, ShiftLeft, ShiftRight, Add, Subtract, Multiply, Minimum, Maximum}
use Rattle.vg_pseudo.specs.Whole.{natural, negative, complement, lesser, greater, clamped, both_bits, either_bits, unequal_bits, truth, shifted_left, unary_result, binary_result}
use Rattle.vg_interval.specs.declared.span.Span.{Span}
use Rattle.vg_interval.specs.Interval.{between, is_small, fit, fitting, hull, signed_span, unsigned_span, absolute_span, unary_span, bits_needed, bits_span, products_with, products, shifted_left_span, left_span, floor_by, right_span, binary_span}

-- a number lies in an interval
pub record In (i : Span) (z : ℤ) : Type 0 where
  pub above : i.least ≤ℤ z
  pub below : z ≤ℤ i.greatest

-- a number of 128 signed bits
pub record Fits (z : ℤ) : Type 0 where
  pub small : magnitude z < 2 ^ 127

pub record EndsFit (i : Span) : Type 0 where
  pub first : Fits i.least
  pub last : Fits i.greatest

pub le_trans : (a b c : ℤ) → a ≤ℤ b → b ≤ℤ c → a ≤ℤ c
le_trans a b c p q = omega (arith, ints)

pub le_self : (a : ℤ) → a ≤ℤ a
le_self a = omega (arith, ints)

pub le_add : (a b x y : ℤ) → a ≤ℤ x → b ≤ℤ y → (a +ℤ b) ≤ℤ (x +ℤ y)
le_add a b x y p q = omega (arith, ints)

pub le_negative : (a b : ℤ) → a ≤ℤ b → negative b ≤ℤ negative a
le_negative a b p = omega (arith, ints)

le_from : (a b : ℤ) → int_le a b ≡ true → a ≤ℤ b
le_from a b e = grind (arith, ints)

le_other : (a b : ℤ) → int_le a b ≡ false → b ≤ℤ a
le_other a b e = grind (arith, ints)

not_lt : (a b : ℤ) → int_lt a b ≡ false → b ≤ℤ a
not_lt a b e = grind (arith, ints)

pub lesser-left : (a y x : ℤ) → a ≤ℤ x → lesser a y ≤ℤ x
lesser-left a y x p = grind (arith, ints)

pub lesser-right : (a y x : ℤ) → y ≤ℤ x → lesser a y ≤ℤ x
lesser-right a y x p = grind (arith, ints)

pub greater-left : (a y x : ℤ) → x ≤ℤ a → x ≤ℤ greater a y
greater-left a y x p = grind (arith, ints)

pub greater-right : (a y x : ℤ) → x ≤ℤ y → x ≤ℤ greater a y
greater-right a y x p = grind (arith, ints)

lesser-both : (a b x y : ℤ) → a ≤ℤ x → b ≤ℤ y → lesser a b ≤ℤ lesser x y
lesser-both a b x y p q = grind (arith, ints)

greater-both : (a b x y : ℤ) → a ≤ℤ x → b ≤ℤ y → greater a b ≤ℤ greater x y
greater-both a b x y p q = grind (arith, ints)

-- ---- ends that fit

magnitude_small : (z : ℤ) → least_signed 128 ≤ℤ z → z ≤ℤ greatest_signed 128 → magnitude z < 2 ^ 127
magnitude_small (pos n) p q = omega (arith, ints)
magnitude_small (negsuc n) p q = omega (arith, ints)

pub small-fits : (z : ℤ) → is_small z ≡ true → Fits z
small-fits z t =
    let p = and_parts (int_le (least_signed 128) z) (int_le z (greatest_signed 128)) t in
    record { small = magnitude_small z (le_from _ _ p.0) (le_from _ _ p.1) }

pub fits-between : (a b z : ℤ) → Fits a → Fits b → a ≤ℤ z → z ≤ℤ b → Fits z
fits-between (pos a) (pos b) (pos z) f g p q = record { small = omega (arith, ints, g.small) }
fits-between (pos a) (pos b) (negsuc z) f g p q = absurd (omega (arith, ints))
fits-between (pos a) (negsuc b) z f g p q = absurd (omega (arith, ints))
fits-between (negsuc a) (pos b) (pos z) f g p q = record { small = omega (arith, ints, g.small) }
fits-between (negsuc a) (pos b) (negsuc z) f g p q = record { small = omega (arith, ints, f.small) }
fits-between (negsuc a) (negsuc b) (pos z) f g p q = absurd (omega (arith, ints))
fits-between (negsuc a) (negsuc b) (negsuc z) f g p q = record { small = omega (arith, ints, f.small) }

pub fits-in : (i : Span) (z : ℤ) → EndsFit i → In i z → Fits z
fits-in i z e h = fits-between i.least i.greatest z e.first e.last h.above h.below

-- what fits is itself
pub fit-some : (z y : ℤ) → fit z ≡ Some y → (y ≡ z) × Fits z
unfolding fit
fit-some z y e = elim (cases_Bool (is_small z)) [
  | inl t ↦ (let q : Some z ≡ Some y = subst (λ b. (if b then Some z else None) ≡ Some y) t e in cc, small-fits z t)
  | inr t ↦ absurd (let q : None ≡ Some y = subst (λ b. (if b then Some z else None) ≡ Some y) t e in cc)
]

pub some-bound : {A B : Type 0} (x : Option A) (f : A → Option B) (y : B) → (x >>= f) ≡ Some y → (a : A) × (x ≡ Some a) × (f a ≡ Some y)
some-bound (Some a) f y e = (a, refl, e)
some-bound None f y e = absurd (cc)

pub same_some : {A : Type 0} (x y : A) → Some x ≡ Some y → x ≡ y
same_some x y e = cc

pub fitting-some : (a b : ℤ) (i : Span) → fitting a b ≡ Some i → (i ≡ between a b) × EndsFit i
fitting-some a b i e =
    let p = some-bound (fit a) _ i e in
    let q = some-bound (fit b) _ i p.2 in
    let x = fit-some a p.0 p.1 in
    let y = fit-some b q.0 q.1 in
    let s : between p.0 q.0 ≡ i = same_some _ _ q.2 in
    let t : between a b ≡ i = subst (λ v. between v b ≡ i) x.0 (subst (λ v. between p.0 v ≡ i) y.0 s) in
    (sym t, subst EndsFit t (record { first = x.1; last = y.1 }))

-- ---- products

pub mul-pos : (a x : ℤ) (n : ℕ) → a ≤ℤ x → (a *ℤ pos n) ≤ℤ (x *ℤ pos n)
mul-pos a x n p =
    let h : up a + down x ≤ up x + down a = omega (arith, ints) in
    omega (arith, ints, mul-le-mul_right n h)

mul-negsuc : (a x : ℤ) (n : ℕ) → a ≤ℤ x → (x *ℤ negsuc n) ≤ℤ (a *ℤ negsuc n)
mul-negsuc a x n p =
    let h : up a + down x ≤ up x + down a = omega (arith, ints) in
    omega (arith, ints, mul-le-mul_right (suc n) h)

-- a product lies between those of the ends
line : (a b x y : ℤ) → a ≤ℤ x → x ≤ℤ b → In (between (lesser (a *ℤ y) (b *ℤ y)) (greater (a *ℤ y) (b *ℤ y))) (x *ℤ y)
line a b x (pos n) p q = record {
  above = lesser-left _ _ _ (mul-pos a x n p);
  below = greater-right _ _ _ (mul-pos x b n q);
}
line a b x (negsuc n) p q = record {
  above = lesser-right _ _ _ (mul-negsuc x b n q);
  below = greater-left _ _ _ (mul-negsuc a x n p);
}

column : (c d a y : ℤ) → c ≤ℤ y → y ≤ℤ d → In (between (lesser (a *ℤ c) (a *ℤ d)) (greater (a *ℤ c) (a *ℤ d))) (a *ℤ y)
column c d a y p q =
    subst (λ v. In (between (lesser v (a *ℤ d)) (greater v (a *ℤ d))) (a *ℤ y)) (*ℤ_comm c a)
    (subst (λ v. In (between (lesser (c *ℤ a) v) (greater (c *ℤ a) v)) (a *ℤ y)) (*ℤ_comm d a)
    (subst (λ v. In (between (lesser (c *ℤ a) (d *ℤ a)) (greater (c *ℤ a) (d *ℤ a))) v) (*ℤ_comm y a) (line c d y a p q)))

-- the four products of the ends
abbrev corners : Span → Span → Span
corners i j =
    hull (between (lesser (i.least *ℤ j.least) (i.least *ℤ j.greatest)) (greater (i.least *ℤ j.least) (i.least *ℤ j.greatest)))
    (between (lesser (i.greatest *ℤ j.least) (i.greatest *ℤ j.greatest)) (greater (i.greatest *ℤ j.least) (i.greatest *ℤ j.greatest)))

corners-in : (i j : Span) (x y : ℤ) → In i x → In j y → In (corners i j) (x *ℤ y)
corners-in i j x y h k =
    let across = line i.least i.greatest x y h.above h.below in
    let first = column j.least j.greatest i.least y k.above k.below in
    let last = column j.least j.greatest i.greatest y k.above k.below in
    record {
      above = le_trans _ _ _ (lesser-both _ _ _ _ first.above last.above) across.above;
      below = le_trans _ _ _ across.below (greater-both _ _ _ _ first.below last.below);
    }

pub lesser-fits : (a b : ℤ) → Fits a → Fits b → Fits (lesser a b)
lesser-fits a b f g = elim (cases_Bool (int_lt a b)) [ inl t ↦ rw t f | inr t ↦ rw t g ]

pub greater-fits : (a b : ℤ) → Fits a → Fits b → Fits (greater a b)
greater-fits a b f g = elim (cases_Bool (int_lt a b)) [ inl t ↦ rw t g | inr t ↦ rw t f ]

products_with-some : (x : ℤ) (j i : Span) → products_with x j ≡ Some i
    → (i ≡ between (lesser (x *ℤ j.least) (x *ℤ j.greatest)) (greater (x *ℤ j.least) (x *ℤ j.greatest))) × EndsFit i
products_with-some x j i e =
    let p = some-bound (fit (x *ℤ j.least)) _ i e in
    let q = some-bound (fit (x *ℤ j.greatest)) _ i p.2 in
    let a = fit-some (x *ℤ j.least) p.0 p.1 in
    let b = fit-some (x *ℤ j.greatest) q.0 q.1 in
    let s : between (lesser p.0 q.0) (greater p.0 q.0) ≡ i = same_some _ _ q.2 in
    let t : between (lesser (x *ℤ j.least) (x *ℤ j.greatest)) (greater (x *ℤ j.least) (x *ℤ j.greatest)) ≡ i =
    subst (λ v. between (lesser v (x *ℤ j.greatest)) (greater v (x *ℤ j.greatest)) ≡ i) a.0
    (subst (λ v. between (lesser p.0 v) (greater p.0 v) ≡ i) b.0 s) in
    (sym t, subst EndsFit t (record { first = lesser-fits _ _ a.1 b.1; last = greater-fits _ _ a.1 b.1 }))

pub hull-fits : (i j : Span) → EndsFit i → EndsFit j → EndsFit (hull i j)
hull-fits i j e f = record { first = lesser-fits _ _ e.first f.first; last = greater-fits _ _ e.last f.last }

pub products-some : (i j k : Span) → products i j ≡ Some k → (k ≡ corners i j) × EndsFit k
products-some i j k e =
    let p = some-bound (products_with i.least j) _ k e in
    let q = some-bound (products_with i.greatest j) _ k p.2 in
    let a = products_with-some i.least j p.0 p.1 in
    let b = products_with-some i.greatest j q.0 q.1 in
    let s : hull p.0 q.0 ≡ k = same_some _ _ q.2 in
    (sym s ∙ ap (λ v. hull v q.0) a.0 ∙ ap (hull _) b.0, subst EndsFit s (hull-fits p.0 q.0 a.1 b.1))

-- ---- hulls

pub hull-left : (i j : Span) (z : ℤ) → In i z → In (hull i j) z
hull-left i j z h = record { above = lesser-left _ _ _ h.above; below = greater-left _ _ _ h.below }

pub hull-right : (i j : Span) (z : ℤ) → In j z → In (hull i j) z
hull-right i j z h = record { above = lesser-right _ _ _ h.above; below = greater-right _ _ _ h.below }

pub hull_fits : (i j : Span) → EndsFit i → EndsFit j → EndsFit (hull i j)
hull_fits i j e f = hull-fits i j e f

-- ---- numbers of so many bits

pub below-pow : (w n : ℕ) → n < 2 ^ w → In (unsigned_span w) (pos n)
below-pow w n h = record { above = omega (arith, ints); below = omega (arith, ints) }

pub signed-range : (k : ℕ) (z : ℤ) → magnitude z < 2 ^ k → In (signed_span (1 + k)) z
signed-range k (pos n) h =
    let e : 1 + k - 1 ≡ k = omega arith in
    subst (λ v. In (between (negsuc (2 ^ v - 1)) (pos (2 ^ v - 1))) (pos n)) (sym e)
    (record { above = omega (arith, ints); below = omega (arith, ints) })
signed-range k (negsuc n) h =
    let e : 1 + k - 1 ≡ k = omega arith in
    subst (λ v. In (between (negsuc (2 ^ v - 1)) (pos (2 ^ v - 1))) (negsuc n)) (sym e)
    (record { above = omega (arith, ints); below = omega (arith, ints) })

-- ---- shifts

quotients : (a x k : ℕ) → a ≤ x → a / 2 ^ k ≤ x / 2 ^ k
quotients a x k h = le-div (a / 2 ^ k) x (2 ^ k) (pow_pos k) (omega (arith, div-mul-le_self a (2 ^ k)))

pub floor_shift-le : (a x : ℤ) (k : ℕ) → a ≤ℤ x → floor_shift a k ≤ℤ floor_shift x k
floor_shift-le (pos a) (pos x) k p =
    let h : a ≤ x = omega (arith, ints) in
    omega (arith, ints, quotients a x k h)
floor_shift-le (pos a) (negsuc x) k p = absurd (omega (arith, ints))
floor_shift-le (negsuc a) (pos x) k p = omega (arith, ints)
floor_shift-le (negsuc a) (negsuc x) k p =
    let h : x ≤ a = omega (arith, ints) in
    omega (arith, ints, quotients x a k h)

-- ---- bits

magnitude_between : (a b z : ℤ) → a ≤ℤ z → z ≤ℤ b → magnitude z ≤ max (magnitude a) (magnitude b)
magnitude_between (pos a) (pos b) (pos z) p q = omega (arith, ints)
magnitude_between (pos a) (pos b) (negsuc z) p q = absurd (omega (arith, ints))
magnitude_between (pos a) (negsuc b) z p q = absurd (omega (arith, ints))
magnitude_between (negsuc a) (pos b) (pos z) p q = omega (arith, ints)
magnitude_between (negsuc a) (pos b) (negsuc z) p q = omega (arith, ints)
magnitude_between (negsuc a) (negsuc b) (pos z) p q = absurd (omega (arith, ints))
magnitude_between (negsuc a) (negsuc b) (negsuc z) p q = omega (arith, ints)

digits_of : (z : ℤ) → Fits z → magnitude z < 2 ^ digits (magnitude z)
digits_of z f = digits-below (magnitude z) (omega (arith, f.small))

needed-left : (i j : Span) (z : ℤ) → EndsFit i → In i z → magnitude z < 2 ^ bits_needed i j
needed-left i j z e h =
    let m = magnitude_between i.least i.greatest z h.above h.below in
    let a = below_wider (magnitude i.least) (digits (magnitude i.least)) (bits_needed i j) (digits_of i.least e.first) (omega arith) in
    let b = below_wider (magnitude i.greatest) (digits (magnitude i.greatest)) (bits_needed i j) (digits_of i.greatest e.last) (omega arith) in
    omega arith

needed-right : (i j : Span) (z : ℤ) → EndsFit j → In j z → magnitude z < 2 ^ bits_needed i j
needed-right i j z e h =
    let m = magnitude_between j.least j.greatest z h.above h.below in
    let a = below_wider (magnitude j.least) (digits (magnitude j.least)) (bits_needed i j) (digits_of j.least e.first) (omega arith) in
    let b = below_wider (magnitude j.greatest) (digits (magnitude j.greatest)) (bits_needed i j) (digits_of j.greatest e.last) (omega arith) in
    omega arith

and-small : (a b k : ℕ) → a < 2 ^ k → bit_and a b < 2 ^ k
and-small a b k p = omega (arith, and_le_l a b)

pub either-magnitude : (a b : ℤ) (k : ℕ) → magnitude a < 2 ^ k → magnitude b < 2 ^ k → magnitude (either_bits a b) < 2 ^ k
either-magnitude (pos a) (pos b) k p q = or_lt k a b p q
either-magnitude (pos a) (negsuc b) k p q = omega arith
either-magnitude (negsuc a) (pos b) k p q = omega arith
either-magnitude (negsuc a) (negsuc b) k p q = and-small a b k p

pub both-magnitude : (a b : ℤ) (k : ℕ) → magnitude a < 2 ^ k → magnitude b < 2 ^ k → magnitude (both_bits a b) < 2 ^ k
both-magnitude (pos a) (pos b) k p q = and-small a b k p
both-magnitude (pos a) (negsuc b) k p q = omega arith
both-magnitude (negsuc a) (pos b) k p q = omega arith
both-magnitude (negsuc a) (negsuc b) k p q = or_lt k a b p q

pub unequal-magnitude : (a b : ℤ) (k : ℕ) → magnitude a < 2 ^ k → magnitude b < 2 ^ k → magnitude (unequal_bits a b) < 2 ^ k
unequal-magnitude (pos a) (pos b) k p q = xor_lt k a b p q
unequal-magnitude (pos a) (negsuc b) k p q = xor_lt k a b p q
unequal-magnitude (negsuc a) (pos b) k p q = xor_lt k a b p q
unequal-magnitude (negsuc a) (negsuc b) k p q = xor_lt k a b p q

-- the operators on bits keep magnitudes and make no negative number of two that are not
record OnBits (f : ℤ → ℤ → ℤ) : Type 0 where
  pub small : (a b : ℤ) (k : ℕ) → magnitude a < 2 ^ k → magnitude b < 2 ^ k → magnitude (f a b) < 2 ^ k
  pub natural : (a b : ℕ) → (c : ℕ) × (f (pos a) (pos b) ≡ pos c)

of_either : OnBits either_bits
of_either = record { small = either-magnitude; natural = λ a b. (bit_or a b, refl) }

of_both : OnBits both_bits
of_both = record { small = both-magnitude; natural = λ a b. (bit_and a b, refl) }

of_unequal : OnBits unequal_bits
of_unequal = record { small = unequal-magnitude; natural = λ a b. (bit_xor a b, refl) }

bits-unsigned : (f : ℤ → ℤ → ℤ) → OnBits f → (k : ℕ) (x y : ℤ) → pos 0 ≤ℤ x → pos 0 ≤ℤ y
    → magnitude x < 2 ^ k → magnitude y < 2 ^ k → In (unsigned_span k) (f x y)
bits-unsigned f o k (pos a) (pos b) p q m n =
    let c = o.natural a b in
    let s : c.0 < 2 ^ k = subst (λ v. magnitude v < 2 ^ k) c.1 (o.small (pos a) (pos b) k m n) in
    rw c.1 (below-pow k c.0 s)
bits-unsigned f o k (pos a) (negsuc b) p q m n = absurd (omega (arith, ints))
bits-unsigned f o k (negsuc a) y p q m n = absurd (omega (arith, ints))

not_below : (z : ℤ) → int_lt z (pos 0) ≡ false → pos 0 ≤ℤ z
not_below z e = not_lt z (pos 0) e

neither : (a b : Bool) → (a || b) ≡ false → (a ≡ false) × (b ≡ false)
neither true b e = absurd (cc)
neither false b e = (refl, e)

bits-in : (f : ℤ → ℤ → ℤ) → OnBits f → (i j : Span) (x y : ℤ) → EndsFit i → EndsFit j → In i x → In j y → In (bits_span i j) (f x y)
bits-in f o i j x y e g h k =
    let m = needed-left i j x e h in
    let n = needed-right i j y g k in
    elim (cases_Bool (int_lt i.least (pos 0) || int_lt j.least (pos 0))) [
      | inl t ↦ rw t (signed-range (bits_needed i j) (f x y) (o.small x y (bits_needed i j) m n))
      | inr t ↦
          let both = neither (int_lt i.least (pos 0)) (int_lt j.least (pos 0)) t in
          rw t (bits-unsigned f o (bits_needed i j) x y
          (le_trans _ _ _ (not_below i.least both.0) h.above) (le_trans _ _ _ (not_below j.least both.1) k.above) m n)
    ]

-- ---- operators of one operand

complement-le : (a b : ℤ) → a ≤ℤ b → complement b ≤ℤ complement a
complement-le (pos a) (pos b) p = omega (arith, ints)
complement-le (pos a) (negsuc b) p = absurd (omega (arith, ints))
complement-le (negsuc a) (pos b) p = omega (arith, ints)
complement-le (negsuc a) (negsuc b) p = omega (arith, ints)

clamped-le : (l g a x : ℤ) → a ≤ℤ x → clamped l g a ≤ℤ clamped l g x
clamped-le l g a x p = lesser-both _ _ _ _ (greater-both _ _ _ _ p (le_self l)) (le_self g)

-- what is computed is in an interval, since that is equal to one which holds it
in_same : (i j : Span) (z : ℤ) → i ≡ j → In j z → In i z
in_same i j z e h = rw e h

absolute-in : (i j : Span) (z : ℤ) → In i z → absolute_span i ≡ Some j
    → In j (if int_lt z (pos 0) then negative z else z)
absolute-in i j z h e = elim (cases_Bool (int_le (pos 0) i.least)) [
  | inl t ↦
      let s : i ≡ j = same_some i j (subst (λ b. (if b then Some i else if int_le i.greatest (pos 0) then fitting (negative i.greatest) (negative i.least) else fitting (pos 0) (greater (negative i.least) i.greatest)) ≡ Some j) t e) in
      let l = le_from _ _ t in
      subst (λ k. In k (if int_lt z (pos 0) then negative z else z)) s (stays l)
  | inr t ↦
      let e' = subst (λ b. (if b then Some i else if int_le i.greatest (pos 0) then fitting (negative i.greatest) (negative i.least) else fitting (pos 0) (greater (negative i.least) i.greatest)) ≡ Some j) t e in
      elim (cases_Bool (int_le i.greatest (pos 0))) [
        | inl u ↦
            let f = fitting-some (negative i.greatest) (negative i.least) j (subst (λ b. (if b then fitting (negative i.greatest) (negative i.least) else fitting (pos 0) (greater (negative i.least) i.greatest)) ≡ Some j) u e') in
            in_same _ _ _ f.0 (turned (le_from _ _ u))
        | inr u ↦
            let f = fitting-some (pos 0) (greater (negative i.least) i.greatest) j (subst (λ b. (if b then fitting (negative i.greatest) (negative i.least) else fitting (pos 0) (greater (negative i.least) i.greatest)) ≡ Some j) u e') in
            in_same _ _ _ f.0 mixed
      ]
]
  where
    stays : pos 0 ≤ℤ i.least → In i (if int_lt z (pos 0) then negative z else z)
    stays l = record { above = grind (arith, ints); below = grind (arith, ints) }

    turned : i.greatest ≤ℤ pos 0 → In (between (negative i.greatest) (negative i.least)) (if int_lt z (pos 0) then negative z else z)
    turned g = record { above = grind (arith, ints); below = grind (arith, ints) }

    mixed : In (between (pos 0) (greater (negative i.least) i.greatest)) (if int_lt z (pos 0) then negative z else z)
    mixed = record { above = grind (arith, ints); below = grind (arith, ints) }

residue-in : (w : ℕ) (z : ℤ) → In (unsigned_span w) (pos (residue w z))
residue-in w z = below-pow w (residue w z) (residue_below w z)

pub signed-in : (w n : ℕ) → 0 < w → n < 2 ^ w → In (signed_span w) (signed_at w n)
signed-in w n some h =
    subst (λ v. In (between (least_signed v) (greatest_signed v)) (signed_at w n)) (omega arith)
    (signed-range (w - 1) (signed_at w n) (signed-within w n some h))

width_some : (w : Width) → 0 < bits_of w
width_some W8 = lit< tt
width_some W16 = lit< tt
width_some W32 = lit< tt
width_some W64 = lit< tt

pub unary-in : (op : UnaryOp) (i j : Span) (z : ℤ) → In i z → unary_span op i ≡ Some j → In j (unary_result op z)
unary-in Not i j z h e =
    in_same _ _ _ (fitting-some (complement i.greatest) (complement i.least) j e).0
    (record { above = complement-le _ _ h.below; below = complement-le _ _ h.above })
unary-in Negate i j z h e =
    in_same _ _ _ (fitting-some (negative i.greatest) (negative i.least) j e).0
    (record { above = le_negative _ _ h.below; below = le_negative _ _ h.above })
unary-in Absolute i j z h e = absolute-in i j z h e
unary-in Signed i j z h e = subst (λ k. In k z) (same_some i j e) h
unary-in (SignExtend w) i j z h e =
    subst (λ k. In k (signed_at (bits_of w) (residue (bits_of w) z))) (same_some _ _ e)
    (signed-in (bits_of w) (residue (bits_of w) z) (width_some w) (residue_below (bits_of w) z))
unary-in (ZeroExtend w) i j z h e = subst (λ k. In k (pos (residue (bits_of w) z))) (same_some _ _ e) (residue-in (bits_of w) z)
unary-in (Saturate w) i j z h e =
    subst (λ k. In k (unary_result (Saturate w) z)) (same_some _ _ e)
    (record { above = clamped-le _ _ _ _ h.above; below = clamped-le _ _ _ _ h.below })
unary-in (SaturateUnsigned w) i j z h e =
    subst (λ k. In k (unary_result (SaturateUnsigned w) z)) (same_some _ _ e)
    (record { above = clamped-le _ _ _ _ h.above; below = clamped-le _ _ _ _ h.below })
unary-in (Truncate w) i j z h e = subst (λ k. In k (pos (residue (bits_of w) z))) (same_some _ _ e) (residue-in (bits_of w) z)

-- ---- operators of two operands

truth-in : (b : Bool) → In (unsigned_span 1) (truth b)
truth-in true = record { above = omega (arith, ints); below = omega (arith, ints) }
truth-in false = record { above = omega (arith, ints); below = omega (arith, ints) }

truth-some : (b : Bool) (k : Span) → Some (unsigned_span 1) ≡ Some k → In k (truth b)
truth-some b k e = subst (λ s. In s (truth b)) (same_some _ _ e) (truth-in b)

abbrev pub IsNatural : ℤ → Type 0
IsNatural z = pos 0 ≤ℤ z

natural-le : (a b : ℤ) → IsNatural a → a ≤ℤ b → natural a ≤ natural b
natural-le (pos a) (pos b) p q = omega (arith, ints)
natural-le (pos a) (negsuc b) p q = absurd (omega (arith, ints))
natural-le (negsuc a) b p q = absurd (omega (arith, ints))

-- more places bring a quotient nearer to 0
quotients-more : (x m n : ℕ) → m ≤ n → x / 2 ^ n ≤ x / 2 ^ m
quotients-more x m n h =
    let e : m + (n - m) ≡ n = omega arith in
    let f : x / 2 ^ m / 2 ^ (n - m) ≡ x / 2 ^ n = shr-shr x m (n - m) ∙ ap (λ v. x / 2 ^ v) e in
    subst (λ v. v ≤ x / 2 ^ m) f (div-le_self (x / 2 ^ m) (2 ^ (n - m)))

-- between two numbers of places a shift gives what lies between the two shifts
shift-least : (x : ℤ) (a n b : ℕ) → a ≤ n → n ≤ b → lesser (floor_shift x a) (floor_shift x b) ≤ℤ floor_shift x n
shift-least (pos x) a n b p q =
    let h : pos (x / 2 ^ b) ≤ℤ pos (x / 2 ^ n) = omega (arith, ints, quotients-more x n b q) in
    lesser-right (pos (x / 2 ^ a)) (pos (x / 2 ^ b)) (pos (x / 2 ^ n)) h
shift-least (negsuc x) a n b p q =
    let h : negsuc (x / 2 ^ a) ≤ℤ negsuc (x / 2 ^ n) = omega (arith, ints, quotients-more x a n p) in
    lesser-left (negsuc (x / 2 ^ a)) (negsuc (x / 2 ^ b)) (negsuc (x / 2 ^ n)) h

shift-greatest : (x : ℤ) (a n b : ℕ) → a ≤ n → n ≤ b → floor_shift x n ≤ℤ greater (floor_shift x a) (floor_shift x b)
shift-greatest (pos x) a n b p q =
    let h : pos (x / 2 ^ n) ≤ℤ pos (x / 2 ^ a) = omega (arith, ints, quotients-more x a n p) in
    greater-left (pos (x / 2 ^ a)) (pos (x / 2 ^ b)) (pos (x / 2 ^ n)) h
shift-greatest (negsuc x) a n b p q =
    let h : negsuc (x / 2 ^ n) ≤ℤ negsuc (x / 2 ^ b) = omega (arith, ints, quotients-more x n b q) in
    greater-right (negsuc (x / 2 ^ a)) (negsuc (x / 2 ^ b)) (negsuc (x / 2 ^ n)) h

capped : (z y : ℤ) → Fits z → floor_shift z (natural y) ≡ floor_by z y
capped z y f = floor_shift-capped z 127 (natural y) f.small

pub right-in : (i j : Span) (x y : ℤ) → EndsFit i → IsNatural j.least → In i x → In j y → In (right_span i j) (floor_shift x (natural y))
right-in i j x y e m h k =
    let a = natural-le j.least y m k.above in
    let b = natural-le y j.greatest (le_trans _ _ _ m k.above) k.below in
    let low = shift-least i.least (natural j.least) (natural y) (natural j.greatest) a b in
    let high = shift-greatest i.greatest (natural j.least) (natural y) (natural j.greatest) a b in
    let low' = subst (λ v. lesser v (floor_shift i.least (natural j.greatest)) ≤ℤ floor_shift i.least (natural y)) (capped i.least j.least e.first) low in
    let low'' = subst (λ v. lesser (floor_by i.least j.least) v ≤ℤ floor_shift i.least (natural y)) (capped i.least j.greatest e.first) low' in
    let high' = subst (λ v. floor_shift i.greatest (natural y) ≤ℤ greater v (floor_shift i.greatest (natural j.greatest))) (capped i.greatest j.least e.last) high in
    let high'' = subst (λ v. floor_shift i.greatest (natural y) ≤ℤ greater (floor_by i.greatest j.least) v) (capped i.greatest j.greatest e.last) high' in
    record {
      above = le_trans _ _ _ low'' (floor_shift-le i.least x (natural y) h.above);
      below = le_trans _ _ _ (floor_shift-le x i.greatest (natural y) h.below) high'';
    }

-- ---- left shifts

powers : (a b : ℕ) → a ≤ b → 2 ^ a ≤ 2 ^ b
powers a b h = pow-le a b h

powers-in : (j : Span) (y : ℤ) → IsNatural j.least → In j y → In (between (pos (2 ^ natural j.least)) (pos (2 ^ natural j.greatest))) (pos (2 ^ natural y))
powers-in j y m k =
    let a = powers _ _ (natural-le j.least y m k.above) in
    let b = powers _ _ (natural-le y j.greatest (le_trans _ _ _ m k.above) k.below) in
    record { above = omega (arith, ints); below = omega (arith, ints) }

pub shifted-in : (i j k : Span) (x y : ℤ) → IsNatural j.least → In i x → In j y → shifted_left_span i j ≡ Some k → In k (x *ℤ pos (2 ^ natural y))
shifted-in i j k x y m h l e =
    let p = products-some i (between (pos (2 ^ natural j.least)) (pos (2 ^ natural j.greatest))) k e in
    in_same _ _ _ p.0 (corners-in i _ x (pos (2 ^ natural y)) h (powers-in j y m l))

zero-in : In (between (pos 0) (pos 0)) (pos 0)
zero-in = record { above = le_self _; below = le_self _ }

pub within-127 : (x : ℤ) (n : ℕ) → n ≤ 127 → shifted_left x n ≡ x *ℤ pos (2 ^ n)
within-127 x n h = rw (le-leb n 127 h) refl

pub past-127 : (x : ℤ) (n : ℕ) → 127 < n → shifted_left x n ≡ pos 0
past-127 x n h = rw (lt-leb n 127 h) refl

below-127 : (z : ℤ) → natural z ≤ 127 → z ≤ℤ pos 127
below-127 (pos n) v = omega (arith, ints)
below-127 (negsuc n) v = omega (arith, ints)

left-in : (i j k : Span) (x y : ℤ) → IsNatural j.least → In i x → In j y → left_span i j ≡ Some k → In k (shifted_left x (natural y))
left-in i j k x y m h l e = elim (cases_lt 127 (natural j.least)) [
  | inl t ↦ past t
  | inr t ↦ elim (cases_lt 127 (natural j.greatest)) [
    | inl u ↦ both t u
    | inr u ↦ only t u
  ]
]
  where
    a : natural j.least ≤ natural y
    a = natural-le j.least y m l.above

    b : natural y ≤ natural j.greatest
    b = natural-le y j.greatest (le_trans _ _ _ m l.above) l.below

    past : 127 < natural j.least → In k (shifted_left x (natural y))
    past t =
        let s : Some (between (pos 0) (pos 0)) ≡ Some k = subst (λ c. (if c then Some (between (pos 0) (pos 0)) else if nat_lt 127 (natural j.greatest) then (shifted_left_span i (between j.least (pos 127)) >>= λ k. Some (hull k (between (pos 0) (pos 0)))) else shifted_left_span i j) ≡ Some k) (lt-ltb 127 (natural j.least) t) e in
        rw (past-127 x (natural y) (omega (arith, a))) (in_same _ _ _ (sym (same_some _ _ s)) zero-in)

    open_two : (natural j.least ≤ 127) → (if nat_lt 127 (natural j.greatest) then (shifted_left_span i (between j.least (pos 127)) >>= λ k. Some (hull k (between (pos 0) (pos 0)))) else shifted_left_span i j) ≡ Some k
    open_two t = subst (λ c. (if c then Some (between (pos 0) (pos 0)) else if nat_lt 127 (natural j.greatest) then (shifted_left_span i (between j.least (pos 127)) >>= λ k. Some (hull k (between (pos 0) (pos 0)))) else shifted_left_span i j) ≡ Some k) (le-ltb 127 (natural j.least) t) e

    both : natural j.least ≤ 127 → 127 < natural j.greatest → In k (shifted_left x (natural y))
    both t u =
        let s : (shifted_left_span i (between j.least (pos 127)) >>= λ k. Some (hull k (between (pos 0) (pos 0)))) ≡ Some k = subst (λ c. (if c then (shifted_left_span i (between j.least (pos 127)) >>= λ k. Some (hull k (between (pos 0) (pos 0)))) else shifted_left_span i j) ≡ Some k) (lt-ltb 127 (natural j.greatest) u) (open_two t) in
        let p = some-bound (shifted_left_span i (between j.least (pos 127))) _ k s in
        let q : hull p.0 (between (pos 0) (pos 0)) ≡ k = same_some _ _ p.2 in
        elim (cases_lt 127 (natural y)) [
          | inl v ↦ rw (past-127 x (natural y) v) (in_same _ _ _ (sym q) (hull-right p.0 (between (pos 0) (pos 0)) (pos 0) zero-in))
          | inr v ↦
              let c = shifted-in i (between j.least (pos 127)) p.0 x y m h (record { above = l.above; below = below-127 y v }) p.1 in
              rw (within-127 x (natural y) v) (in_same _ _ _ (sym q) (hull-left p.0 (between (pos 0) (pos 0)) _ c))
        ]

    only : natural j.least ≤ 127 → natural j.greatest ≤ 127 → In k (shifted_left x (natural y))
    only t u =
        let s : shifted_left_span i j ≡ Some k = subst (λ c. (if c then (shifted_left_span i (between j.least (pos 127)) >>= λ k. Some (hull k (between (pos 0) (pos 0)))) else shifted_left_span i j) ≡ Some k) (le-ltb 127 (natural j.greatest) u) (open_two t) in
        rw (within-127 x (natural y) (omega (arith, b))) (shifted-in i j k x y m h l s)

in_some : (i k : Span) (z : ℤ) → Some i ≡ Some k → In i z → In k z
in_some i k z e h = subst (λ v. In v z) (same_some i k e) h

-- an amount of a shift is not negative
abbrev pub IsAmount : BinaryOp → Span → Type 0
IsAmount ShiftLeft j = IsNatural j.least
IsAmount ShiftRight j = IsNatural j.least
IsAmount op j = Unit {0}

pub binary-in : (op : BinaryOp) (i j k : Span) (x y : ℤ) → EndsFit i → EndsFit j → IsAmount op j → In i x → In j y
    → binary_span op i j ≡ Some k → In k (binary_result op x y)
binary-in Or i j k x y e f m h l s = in_some _ _ _ s (bits-in either_bits of_either i j x y e f h l)
binary-in Xor i j k x y e f m h l s = in_some _ _ _ s (bits-in unequal_bits of_unequal i j x y e f h l)
binary-in And i j k x y e f m h l s = in_some _ _ _ s (bits-in both_bits of_both i j x y e f h l)
binary-in Equal i j k x y e f m h l s = truth-some (int_eq x y) k s
binary-in NotEqual i j k x y e f m h l s = truth-some (not (int_eq x y)) k s
binary-in Less i j k x y e f m h l s = truth-some (int_lt x y) k s
binary-in LessOrEqual i j k x y e f m h l s = truth-some (not (int_lt y x)) k s
binary-in Greater i j k x y e f m h l s = truth-some (int_lt y x) k s
binary-in GreaterOrEqual i j k x y e f m h l s = truth-some (not (int_lt x y)) k s
binary-in ShiftLeft i j k x y e f m h l s = left-in i j k x y m h l s
binary-in ShiftRight i j k x y e f m h l s = in_some _ _ _ s (right-in i j x y e m h l)
binary-in Add i j k x y e f m h l s =
    in_same _ _ _ (fitting-some (i.least +ℤ j.least) (i.greatest +ℤ j.greatest) k s).0
    (record { above = le_add _ _ _ _ h.above l.above; below = le_add _ _ _ _ h.below l.below })
binary-in Subtract i j k x y e f m h l s =
    in_same _ _ _ (fitting-some (i.least +ℤ negative j.greatest) (i.greatest +ℤ negative j.least) k s).0
    (record {
      above = le_add _ _ _ _ h.above (le_negative _ _ l.below);
      below = le_add _ _ _ _ h.below (le_negative _ _ l.above);
    })
binary-in Multiply i j k x y e f m h l s = in_same _ _ _ (products-some i j k s).0 (corners-in i j x y h l)
binary-in Minimum i j k x y e f m h l s =
    in_some _ _ _ s
    (record { above = lesser-both _ _ _ _ h.above l.above; below = lesser-both _ _ _ _ h.below l.below })
binary-in Maximum i j k x y e f m h l s =
    in_some _ _ _ s
    (record { above = greater-both _ _ _ _ h.above l.above; below = greater-both _ _ _ _ h.below l.below })
