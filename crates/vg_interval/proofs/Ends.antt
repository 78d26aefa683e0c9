-- The ends of each operator's interval fit.
use Rattle.std.proofs.Common.{◌≡◌, ℕ, suc, ◌+◌, ◌-◌, ◌*◌, ◌^◌, ◌<◌, ◌≤◌, subst, arith, inl, inr, lit<, pow-suc}
use Rattle.std.specs.Prelude.{ℤ, pos, negsuc, ◌||◌, int_lt, int_le, nat_lt, if◌then◌else◌, Some}
use Rattle.std.proofs.lemmas.Bool.{cases_lt, cases_Bool}
use Rattle.std.proofs.lemmas.Nat.{pow_pos}
use Rattle.std.proofs.Math.Nat.{div-le_self}
use Rattle.std.specs.Prelude.{◌/◌}
use lib.Count.{leading_length}
use Rattle.vg_base.proofs.LowBits.{pow-le, below_wider}
use Rattle.vg_base.specs.Trap.{◌>>=◌}
use Rattle.vg_base.specs.Width.{bits_of}
use Rattle.vg_base.specs.declared.width.Width.{Width}
use Rattle.vg_base.specs.declared.width.Width.TheVariants.{W8, W16, W32, W64}
use Rattle.vg_base.specs.Number.{floor_shift, magnitude}
use Rattle.vg_terms.specs.Known.{digits}
use Rattle.vg_pseudo.specs.declared.operators.UnaryOp.{UnaryOp}
use Rattle.vg_pseudo.specs.declared.operators.UnaryOp.TheVariants.{Not, Negate, Absolute, Signed, SignExtend, ZeroExtend, Saturate, SaturateUnsigned, Truncate}
use Rattle.vg_pseudo.specs.declared.operators.BinaryOp.{BinaryOp}
use Rattle.vg_pseudo.specs.declared.operators.BinaryOp.TheVariants.{Or, Xor, And, Equal, NotEqual, Less, LessOrEqual, Greater, GreaterOrEqual, ShiftLeft, ShiftRight, Add, Subtract, Multiply, Minimum, Maximum}
use Rattle.vg_pseudo.specs.Whole.{natural, negative, complement, greater, clamped}
use Rattle.vg_interval.specs.declared.span.Span.{Span}
use Rattle.vg_interval.specs.Interval.{between, fitting, hull, signed_span, unsigned_span, absolute_span, unary_span, bits_needed, bits_span, shifted_left_span, left_span, right_span, binary_span}
use Rattle.vg_interval.proofs.Intervals.{Fits, EndsFit, fitting-some, same_some, some-bound, lesser-fits, greater-fits, hull-fits, products-some}

pub fits_signed : (w : ℕ) → w ≤ 128 → EndsFit (signed_span w)
fits_signed w h =
    let p : 2 ^ (w - 1) ≤ 2 ^ 127 = pow-le (w - 1) 127 (omega arith) in
    record { first = record { small = omega (arith, pow_pos (w - 1)) }; last = record { small = omega (arith, pow_pos (w - 1)) } }

pub fits_unsigned : (w : ℕ) → w ≤ 127 → EndsFit (unsigned_span w)
fits_unsigned w h =
    let p : 2 ^ w ≤ 2 ^ 127 = pow-le w 127 h in
    record { first = record { small = lit< tt }; last = record { small = omega (arith, pow_pos w) } }

-- a number needs no more digits than any power of two above it
pub digits-least : (n k : ℕ) → n < 2 ^ k → k ≤ 128 → digits n ≤ k
digits-least n k h most =
    let l = leading_length 128 n (below_wider n k 128 h most) in
    let e : l.0 ≡ digits n = omega (arith, l.1) in
    elim (cases_lt k (digits n)) [
      | inl t ↦
          let p : 2 ^ suc k ≤ 2 ^ digits n = pow-le (suc k) (digits n) (omega arith) in
          let q : 2 ^ digits n ≤ 2 * n + 1 = subst (λ v. 2 ^ v ≤ 2 * n + 1) e (l.3) in
          absurd (omega (arith, pow-suc 2 k))
      | inr t ↦ t
    ]

needed_small : (i j : Span) → EndsFit i → EndsFit j → bits_needed i j ≤ 127
needed_small i j e f =
    omega (
      arith,
      digits-least (magnitude i.least) 127 e.first.small (omega arith),
      digits-least (magnitude i.greatest) 127 e.last.small (omega arith),
      digits-least (magnitude j.least) 127 f.first.small (omega arith),
      digits-least (magnitude j.greatest) 127 f.last.small (omega arith),
    )

bits-fit : (i j : Span) → EndsFit i → EndsFit j → EndsFit (bits_span i j)
bits-fit i j e f = elim (cases_Bool (int_lt i.least (pos 0) || int_lt j.least (pos 0))) [
  | inl t ↦ rw t (fits_signed (1 + bits_needed i j) (omega (arith, needed_small i j e f)))
  | inr t ↦ rw t (fits_unsigned (bits_needed i j) (needed_small i j e f))
]

clamped-fits : (l g z : ℤ) → Fits l → Fits g → Fits z → Fits (clamped l g z)
clamped-fits l g z a b f = lesser-fits _ _ (greater-fits _ _ f a) b

width_most : (w : Width) → bits_of w ≤ 64
width_most W8 = omega arith
width_most W16 = omega arith
width_most W32 = omega arith
width_most W64 = omega arith

absolute-fits : (i j : Span) → EndsFit i → absolute_span i ≡ Some j → EndsFit j
absolute-fits i j f e = elim (cases_Bool (int_le (pos 0) i.least)) [
  | inl t ↦ subst EndsFit (same_some i j (subst (λ b. (if b then Some i else if int_le i.greatest (pos 0) then fitting (negative i.greatest) (negative i.least) else fitting (pos 0) (greater (negative i.least) i.greatest)) ≡ Some j) t e)) f
  | inr t ↦
      let e' = subst (λ b. (if b then Some i else if int_le i.greatest (pos 0) then fitting (negative i.greatest) (negative i.least) else fitting (pos 0) (greater (negative i.least) i.greatest)) ≡ Some j) t e in
      elim (cases_Bool (int_le i.greatest (pos 0))) [
        | inl u ↦ (fitting-some (negative i.greatest) (negative i.least) j (subst (λ b. (if b then fitting (negative i.greatest) (negative i.least) else fitting (pos 0) (greater (negative i.least) i.greatest)) ≡ Some j) u e')).1
        | inr u ↦ (fitting-some (pos 0) (greater (negative i.least) i.greatest) j (subst (λ b. (if b then fitting (negative i.greatest) (negative i.least) else fitting (pos 0) (greater (negative i.least) i.greatest)) ≡ Some j) u e')).1
      ]
]

some-fits : (i j : Span) → Some i ≡ Some j → EndsFit i → EndsFit j
some-fits i j e f = subst EndsFit (same_some i j e) f

pub unary-fits : (op : UnaryOp) (i j : Span) → EndsFit i → unary_span op i ≡ Some j → EndsFit j
unary-fits Not i j f e = (fitting-some (complement i.greatest) (complement i.least) j e).1
unary-fits Negate i j f e = (fitting-some (negative i.greatest) (negative i.least) j e).1
unary-fits Absolute i j f e = absolute-fits i j f e
unary-fits Signed i j f e = some-fits _ _ e f
unary-fits (SignExtend w) i j f e = some-fits _ _ e (fits_signed (bits_of w) (omega (arith, width_most w)))
unary-fits (ZeroExtend w) i j f e = some-fits _ _ e (fits_unsigned (bits_of w) (omega (arith, width_most w)))
unary-fits (Saturate w) i j f e =
    let s = fits_signed (bits_of w) (omega (arith, width_most w)) in
    some-fits _ _ e (record { first = clamped-fits _ _ _ s.first s.last f.first; last = clamped-fits _ _ _ s.first s.last f.last })
unary-fits (SaturateUnsigned w) i j f e =
    let s = fits_unsigned (bits_of w) (omega (arith, width_most w)) in
    some-fits _ _ e (record { first = clamped-fits _ _ _ s.first s.last f.first; last = clamped-fits _ _ _ s.first s.last f.last })
unary-fits (Truncate w) i j f e = some-fits _ _ e (fits_unsigned (bits_of w) (omega (arith, width_most w)))

-- ---- two operands

quotient-small : (x k n : ℕ) → x < n → x / 2 ^ k < n
quotient-small x k n h = omega (arith, div-le_self x (2 ^ k))

floor-fits : (x : ℤ) (k : ℕ) → Fits x → Fits (floor_shift x k)
floor-fits (pos x) k f = record { small = quotient-small x k (2 ^ 127) f.small }
floor-fits (negsuc x) k f = record { small = quotient-small x k (2 ^ 127) f.small }

pub right-fits : (i j : Span) → EndsFit i → EndsFit (right_span i j)
right-fits i j e = record {
  first = lesser-fits _ _ (floor-fits i.least _ e.first) (floor-fits i.least _ e.first);
  last = greater-fits _ _ (floor-fits i.greatest _ e.last) (floor-fits i.greatest _ e.last);
}

zero-fits : EndsFit (between (pos 0) (pos 0))
zero-fits = record { first = record { small = lit< tt }; last = record { small = lit< tt } }

pub shifted-fits : (i j k : Span) → shifted_left_span i j ≡ Some k → EndsFit k
shifted-fits i j k e = (products-some i (between (pos (2 ^ natural j.least)) (pos (2 ^ natural j.greatest))) k e).1

hulled-fits : (i j k : Span) → (shifted_left_span i j >>= λ l. Some (hull l (between (pos 0) (pos 0)))) ≡ Some k → EndsFit k
hulled-fits i j k e =
    let p = some-bound (shifted_left_span i j) _ k e in
    some-fits _ _ p.2 (hull-fits p.0 _ (shifted-fits i j p.0 p.1) zero-fits)

left-fits : (i j k : Span) → left_span i j ≡ Some k → EndsFit k
left-fits i j k e = elim (cases_Bool (nat_lt 127 (natural j.least))) [
  | inl t ↦ some-fits _ _ (subst (λ c. (if c then Some (between (pos 0) (pos 0)) else if nat_lt 127 (natural j.greatest) then (shifted_left_span i (between j.least (pos 127)) >>= λ k. Some (hull k (between (pos 0) (pos 0)))) else shifted_left_span i j) ≡ Some k) t e) zero-fits
  | inr t ↦
      let e' = subst (λ c. (if c then Some (between (pos 0) (pos 0)) else if nat_lt 127 (natural j.greatest) then (shifted_left_span i (between j.least (pos 127)) >>= λ k. Some (hull k (between (pos 0) (pos 0)))) else shifted_left_span i j) ≡ Some k) t e in
      elim (cases_Bool (nat_lt 127 (natural j.greatest))) [
        | inl u ↦ hulled-fits i (between j.least (pos 127)) k (subst (λ c. (if c then (shifted_left_span i (between j.least (pos 127)) >>= λ k. Some (hull k (between (pos 0) (pos 0)))) else shifted_left_span i j) ≡ Some k) u e')
        | inr u ↦ shifted-fits i j k (subst (λ c. (if c then (shifted_left_span i (between j.least (pos 127)) >>= λ k. Some (hull k (between (pos 0) (pos 0)))) else shifted_left_span i j) ≡ Some k) u e')
      ]
]

pub binary-fits : (op : BinaryOp) (i j k : Span) → EndsFit i → EndsFit j → binary_span op i j ≡ Some k → EndsFit k
binary-fits Or i j k e f s = some-fits _ _ s (bits-fit i j e f)
binary-fits Xor i j k e f s = some-fits _ _ s (bits-fit i j e f)
binary-fits And i j k e f s = some-fits _ _ s (bits-fit i j e f)
binary-fits Equal i j k e f s = some-fits _ _ s (fits_unsigned 1 (omega arith))
binary-fits NotEqual i j k e f s = some-fits _ _ s (fits_unsigned 1 (omega arith))
binary-fits Less i j k e f s = some-fits _ _ s (fits_unsigned 1 (omega arith))
binary-fits LessOrEqual i j k e f s = some-fits _ _ s (fits_unsigned 1 (omega arith))
binary-fits Greater i j k e f s = some-fits _ _ s (fits_unsigned 1 (omega arith))
binary-fits GreaterOrEqual i j k e f s = some-fits _ _ s (fits_unsigned 1 (omega arith))
binary-fits ShiftLeft i j k e f s = left-fits i j k s
binary-fits ShiftRight i j k e f s = some-fits _ _ s (right-fits i j e)
binary-fits Add i j k e f s = (fitting-some _ _ k s).1
binary-fits Subtract i j k e f s = (fitting-some _ _ k s).1
binary-fits Multiply i j k e f s = (products-some i j k s).1
binary-fits Minimum i j k e f s = some-fits _ _ s (record { first = lesser-fits _ _ e.first f.first; last = lesser-fits _ _ e.last f.last })
binary-fits Maximum i j k e f s = some-fits _ _ s (record { first = greater-fits _ _ e.first f.first; last = greater-fits _ _ e.last f.last })
