-- Each end of an interval is made of some operands.
use Rattle.std.proofs.Common.{◌≡◌, ℕ, ◌+◌, ◌-◌, ◌^◌, ◌<◌, ◌≤◌, refl, sym, ap, ◌∙◌, subst, arith, inl, inr, true, false}
use Rattle.std.specs.Prelude.{ℤ, pos, negsuc, ◌+ℤ◌, ◌*ℤ◌, ◌≤ℤ◌, ◌⊎◌, ◌||◌, int_lt, int_le, nat_lt, if◌then◌else◌, Option, Some}
use Rattle.std.specs.Int.Bits.{and_self, and_zero_r, or_zero_r, xor_zero_r}
use Rattle.std.proofs.lemmas.Int.{ints}
use Rattle.std.proofs.lemmas.Bool.{cases_lt, cases_Bool, lt-ltb, le-ltb}
use Rattle.vg_base.specs.Trap.{◌>>=◌}
use Rattle.vg_base.specs.Width.{bits_of}
use Rattle.vg_base.specs.declared.width.Width.{Width}
use Rattle.vg_base.specs.declared.width.Width.TheVariants.{W8, W16, W32, W64}
use Rattle.vg_base.specs.Number.{floor_shift}
use Rattle.vg_terms.proofs.Shifts.{floor_shift-capped}
use Rattle.vg_pseudo.specs.declared.operators.UnaryOp.{UnaryOp}
use Rattle.vg_pseudo.specs.declared.operators.UnaryOp.TheVariants.{Not, Negate, Absolute, Signed, SignExtend, ZeroExtend, Saturate, SaturateUnsigned, Truncate}
use Rattle.vg_pseudo.specs.declared.operators.BinaryOp.{BinaryOp}
use Rattle.vg_pseudo.specs.declared.operators.BinaryOp.TheVariants.{Or, Xor, And, Equal, NotEqual, Less, LessOrEqual, Greater, GreaterOrEqual, ShiftLeft, ShiftRight, Add, Subtract, Multiply, Minimum, Maximum}
use Rattle.vg_pseudo.specs.Whole.{natural, negative, lesser, greater, complement, shifted_left}
use Rattle.vg_interval.specs.declared.span.Span.{Span}
use Rattle.vg_interval.specs.Interval.{between, fitting, hull, signed_span, unsigned_span, absolute_span, unary_span, bits_needed, bits_span, products, shifted_left_span, left_span, floor_by, right_span, binary_span}
use Rattle.vg_interval.proofs.Intervals.{Fits, fitting-some, le_self, products-some, same_some, small-fits, some-bound, past-127, within-127}
use Rattle.vg_interval_laws.specs.Made.{BinaryEnds, EndsAreMade, IsSpan, Lies, MadeOfTwo, one_from, two_from, UnaryEnds}

-- ---- ends

first-lies : (i : Span) → IsSpan i → Lies i i.least
first-lies i h = (le_self i.least, h.some)

last-lies : (i : Span) → IsSpan i → Lies i i.greatest
last-lies i h = (h.some, le_self i.greatest)

-- one of two numbers
abbrev OneOf : ℤ → ℤ → ℤ → Type 0
OneOf a b x = (x ≡ a) ⊎ (x ≡ b)

lesser-one : (a b : ℤ) → OneOf a b (lesser a b)
lesser-one a b = elim (cases_Bool (int_lt a b)) [ inl t ↦ rw t (inl refl) | inr t ↦ rw t (inr refl) ]

greater-one : (a b : ℤ) → OneOf a b (greater a b)
greater-one a b = elim (cases_Bool (int_lt a b)) [ inl t ↦ rw t (inr refl) | inr t ↦ rw t (inl refl) ]

end-lies : (i : Span) (x : ℤ) → IsSpan i → OneOf i.least i.greatest x → Lies i x
end-lies i x h o = elim o [
  | inl e ↦ subst (Lies i) (sym e) (first-lies i h)
  | inr e ↦ subst (Lies i) (sym e) (last-lies i h)
]

lt_from : (a b : ℤ) → int_lt a b ≡ true → (a +ℤ pos 1) ≤ℤ b
lt_from a b e = grind (arith, ints)

not_lt : (a b : ℤ) → int_lt a b ≡ false → b ≤ℤ a
not_lt a b e = grind (arith, ints)

le_from : (a b : ℤ) → int_le a b ≡ true → a ≤ℤ b
le_from a b e = grind (arith, ints)

le_other : (a b : ℤ) → int_le a b ≡ false → b ≤ℤ a
le_other a b e = grind (arith, ints)

-- ---- products

abbrev corners : Span → Span → Span
corners i j =
    hull (between (lesser (i.least *ℤ j.least) (i.least *ℤ j.greatest)) (greater (i.least *ℤ j.least) (i.least *ℤ j.greatest)))
    (between (lesser (i.greatest *ℤ j.least) (i.greatest *ℤ j.greatest)) (greater (i.greatest *ℤ j.least) (i.greatest *ℤ j.greatest)))

-- the product of an end of each of two intervals
abbrev IsCorner : Span → Span → ℤ → Type 0
IsCorner i j z = (x : ℤ) × (y : ℤ) × OneOf i.least i.greatest x × OneOf j.least j.greatest y × (x *ℤ y ≡ z)

corner-least : (i j : Span) → IsCorner i j (corners i j).least
corner-least i j = elim (lesser-one (lesser (i.least *ℤ j.least) (i.least *ℤ j.greatest)) (lesser (i.greatest *ℤ j.least) (i.greatest *ℤ j.greatest))) [
  | inl e ↦ elim (lesser-one (i.least *ℤ j.least) (i.least *ℤ j.greatest)) [
    | inl f ↦ (i.least, j.least, inl refl, inl refl, sym (e ∙ f))
    | inr f ↦ (i.least, j.greatest, inl refl, inr refl, sym (e ∙ f))
  ]
  | inr e ↦ elim (lesser-one (i.greatest *ℤ j.least) (i.greatest *ℤ j.greatest)) [
    | inl f ↦ (i.greatest, j.least, inr refl, inl refl, sym (e ∙ f))
    | inr f ↦ (i.greatest, j.greatest, inr refl, inr refl, sym (e ∙ f))
  ]
]

corner-greatest : (i j : Span) → IsCorner i j (corners i j).greatest
corner-greatest i j = elim (greater-one (greater (i.least *ℤ j.least) (i.least *ℤ j.greatest)) (greater (i.greatest *ℤ j.least) (i.greatest *ℤ j.greatest))) [
  | inl e ↦ elim (greater-one (i.least *ℤ j.least) (i.least *ℤ j.greatest)) [
    | inl f ↦ (i.least, j.least, inl refl, inl refl, sym (e ∙ f))
    | inr f ↦ (i.least, j.greatest, inl refl, inr refl, sym (e ∙ f))
  ]
  | inr e ↦ elim (greater-one (i.greatest *ℤ j.least) (i.greatest *ℤ j.greatest)) [
    | inl f ↦ (i.greatest, j.least, inr refl, inl refl, sym (e ∙ f))
    | inr f ↦ (i.greatest, j.greatest, inr refl, inr refl, sym (e ∙ f))
  ]
]

product-made : (i j : Span) (z : ℤ) → IsSpan i → IsSpan j → IsCorner i j z → MadeOfTwo (λ x y. x *ℤ y) i j z
product-made i j z h g c = (c.0, c.1, end-lies i c.0 h c.2, end-lies j c.1 g c.3, c.4)

products-ends : (i j k : Span) → IsSpan i → IsSpan j → products i j ≡ Some k → BinaryEnds Multiply i j k
products-ends i j k h g e =
    let s = (products-some i j k e).0 in
    record {
      least = product-made i j k.least h g (subst (IsCorner i j) (sym (ap (λ v. v.least) s)) (corner-least i j));
      greatest = product-made i j k.greatest h g (subst (IsCorner i j) (sym (ap (λ v. v.greatest) s)) (corner-greatest i j));
    }

-- ---- shifts

-- a shift to the left of an end by one of two numbers of places
abbrev IsShifted : Span → ℤ → ℤ → ℤ → Type 0
IsShifted i a b z = (x : ℤ) × (y : ℤ) × OneOf i.least i.greatest x × OneOf a b y × (shifted_left x (natural y) ≡ z)

corner-shifted : (i : Span) (a b z : ℤ) → natural a ≤ 127 → natural b ≤ 127
    → IsCorner i (between (pos (2 ^ natural a)) (pos (2 ^ natural b))) z → IsShifted i a b z
corner-shifted i a b z p q c = elim c.3 [
  | inl e ↦ (c.0, a, c.2, inl refl, within-127 c.0 (natural a) p ∙ ap (λ v. c.0 *ℤ v) (sym e) ∙ c.4)
  | inr e ↦ (c.0, b, c.2, inr refl, within-127 c.0 (natural b) q ∙ ap (λ v. c.0 *ℤ v) (sym e) ∙ c.4)
]

-- both ends of the interval of a shift by at most 127 places
pub record ShiftedEnds (i : Span) (a b : ℤ) (k : Span) : Type 0 where
  pub least : IsShifted i a b k.least
  pub greatest : IsShifted i a b k.greatest

shifted-ends : (i : Span) (a b : ℤ) (k : Span) → natural a ≤ 127 → natural b ≤ 127 → shifted_left_span i (between a b) ≡ Some k → ShiftedEnds i a b k
shifted-ends i a b k p q e =
    let j = between (pos (2 ^ natural a)) (pos (2 ^ natural b)) in
    let s = (products-some i j k e).0 in
    record {
      least = corner-shifted i a b k.least p q (subst (IsCorner i j) (sym (ap (λ v. v.least) s)) (corner-least i j));
      greatest = corner-shifted i a b k.greatest p q (subst (IsCorner i j) (sym (ap (λ v. v.greatest) s)) (corner-greatest i j));
    }

shifted-made : (i j : Span) (a b z : ℤ) → IsSpan i → Lies j a → Lies j b → IsShifted i a b z → MadeOfTwo (λ x y. shifted_left x (natural y)) i j z
shifted-made i j a b z h p q s = (
  s.0,
  s.1,
  end-lies i s.0 h s.2,
  elim s.3 [
    | inl e ↦ subst (Lies j) (sym e) p
    | inr e ↦ subst (Lies j) (sym e) q
  ],
  s.4,
)

below-127 : (z : ℤ) → natural z ≤ 127 → z ≤ℤ pos 127
below-127 (pos n) v = omega (arith, ints)
below-127 (negsuc n) v = omega (arith, ints)

past-is : (z : ℤ) → 127 < natural z → pos 127 ≤ℤ z
past-is (pos n) v = omega (arith, ints)
past-is (negsuc n) v = absurd (omega (arith, v))

abbrev nothing_left : Span
nothing_left = between (pos 0) (pos 0)

-- where some amount is at most 127
abbrev some_left : Span → Span → Option Span
some_left i j =
    if nat_lt 127 (natural j.greatest)
    then (shifted_left_span i (between j.least (pos 127)) >>= λ k. Some (hull k nothing_left))
    else shifted_left_span i j

left-ends : (i j k : Span) → IsSpan i → IsSpan j → left_span i j ≡ Some k → BinaryEnds ShiftLeft i j k
left-ends i j k h g e = elim (cases_lt 127 (natural j.least)) [
  | inl t ↦ past t
  | inr t ↦ elim (cases_lt 127 (natural j.greatest)) [
    | inl u ↦ both t u
    | inr u ↦ only t u
  ]
]
  where
    opened : natural j.least ≤ 127 → some_left i j ≡ Some k
    opened t = subst (λ c. (if c then Some nothing_left else some_left i j) ≡ Some k) (le-ltb 127 (natural j.least) t) e

    past : 127 < natural j.least → BinaryEnds ShiftLeft i j k
    past t =
        let s : nothing_left ≡ k = same_some _ _ (subst (λ c. (if c then Some nothing_left else some_left i j) ≡ Some k) (lt-ltb 127 (natural j.least) t) e) in
        record {
          least = (i.least, j.least, first-lies i h, first-lies j g, past-127 i.least (natural j.least) t ∙ ap (λ v. v.least) s);
          greatest = (i.least, j.least, first-lies i h, first-lies j g, past-127 i.least (natural j.least) t ∙ ap (λ v. v.greatest) s);
        }

    -- what is shifted by more than 127 places
    none : (z : ℤ) → 127 < natural j.greatest → pos 0 ≡ z → MadeOfTwo (λ x y. shifted_left x (natural y)) i j z
    none z u s = (i.least, j.greatest, first-lies i h, last-lies j g, past-127 i.least (natural j.greatest) u ∙ s)

    both : natural j.least ≤ 127 → 127 < natural j.greatest → BinaryEnds ShiftLeft i j k
    both t u =
        let s : (shifted_left_span i (between j.least (pos 127)) >>= λ k. Some (hull k nothing_left)) ≡ Some k =
        subst (λ c. (if c then (shifted_left_span i (between j.least (pos 127)) >>= λ k. Some (hull k nothing_left)) else shifted_left_span i j) ≡ Some k) (lt-ltb 127 (natural j.greatest) u) (opened t) in
        let p = some-bound (shifted_left_span i (between j.least (pos 127))) _ k s in
        let q : hull p.0 nothing_left ≡ k = same_some _ _ p.2 in
        let ends = shifted-ends i j.least (pos 127) p.0 t (omega arith) p.1 in
        let last : Lies j (pos 127) = (below-127 j.least t, past-is j.greatest u) in
        record {
          least = elim (lesser-one p.0.least (pos 0)) [
            | inl f ↦ shifted-made i j j.least (pos 127) k.least h (first-lies j g) last (subst (IsShifted i j.least (pos 127)) (sym f ∙ ap (λ v. v.least) q) ends.least)
            | inr f ↦ none k.least u (sym f ∙ ap (λ v. v.least) q)
          ];
          greatest = elim (greater-one p.0.greatest (pos 0)) [
            | inl f ↦ shifted-made i j j.least (pos 127) k.greatest h (first-lies j g) last (subst (IsShifted i j.least (pos 127)) (sym f ∙ ap (λ v. v.greatest) q) ends.greatest)
            | inr f ↦ none k.greatest u (sym f ∙ ap (λ v. v.greatest) q)
          ];
        }

    only : natural j.least ≤ 127 → natural j.greatest ≤ 127 → BinaryEnds ShiftLeft i j k
    only t u =
        let s : shifted_left_span i j ≡ Some k =
        subst (λ c. (if c then (shifted_left_span i (between j.least (pos 127)) >>= λ k. Some (hull k nothing_left)) else shifted_left_span i j) ≡ Some k) (le-ltb 127 (natural j.greatest) u) (opened t) in
        let ends = shifted-ends i j.least j.greatest k t u s in
        record {
          least = shifted-made i j j.least j.greatest k.least h (first-lies j g) (last-lies j g) ends.least;
          greatest = shifted-made i j j.least j.greatest k.greatest h (first-lies j g) (last-lies j g) ends.greatest;
        }

capped : (z y : ℤ) → Fits z → floor_shift z (natural y) ≡ floor_by z y
capped z y f = floor_shift-capped z 127 (natural y) f.small

right-made : (i j : Span) (x z : ℤ) → IsSpan j → Lies i x → Fits x → OneOf (floor_by x j.least) (floor_by x j.greatest) z
    → MadeOfTwo (λ x y. floor_shift x (natural y)) i j z
right-made i j x z g l f o = elim o [
  | inl e ↦ (x, j.least, l, first-lies j g, capped x j.least f ∙ sym e)
  | inr e ↦ (x, j.greatest, l, last-lies j g, capped x j.greatest f ∙ sym e)
]

right-ends : (i j k : Span) → IsSpan i → IsSpan j → Some (right_span i j) ≡ Some k → BinaryEnds ShiftRight i j k
right-ends i j k h g e =
    subst (BinaryEnds ShiftRight i j) (same_some (right_span i j) k e) (record {
      least = right-made i j i.least _ g (first-lies i h) (small-fits i.least h.first) (lesser-one _ _);
      greatest = right-made i j i.greatest _ g (last-lies i h) (small-fits i.greatest h.last) (greater-one _ _);
    })

-- ---- bits

all-signed : (n : ℕ) → (signed_span (1 + n)).least ≤ℤ (signed_span (1 + n)).greatest
all-signed n = omega (arith, ints)

zero-signed : (n : ℕ) → Lies (signed_span (1 + n)) (pos 0)
zero-signed n = (omega (arith, ints), omega (arith, ints))

ones-signed : (n : ℕ) → Lies (signed_span (1 + n)) (negsuc 0)
ones-signed n = (omega (arith, ints), omega (arith, ints))

least-signed : (n : ℕ) → Lies (signed_span (1 + n)) (signed_span (1 + n)).least
least-signed n = (le_self _, all-signed n)

greatest-signed : (n : ℕ) → Lies (signed_span (1 + n)) (signed_span (1 + n)).greatest
greatest-signed n = (all-signed n, le_self _)

zero-unsigned : (n : ℕ) → Lies (unsigned_span n) (pos 0)
zero-unsigned n = (le_self _, omega (arith, ints))

greatest-unsigned : (n : ℕ) → Lies (unsigned_span n) (unsigned_span n).greatest
greatest-unsigned n = (omega (arith, ints), le_self _)

less-none : (a : ℕ) → a - 0 ≡ a
less-none a = omega arith

-- AND, OR and XOR
abbrev OfBits : BinaryOp → Type 0
OfBits op =
    (n : ℕ) → BinaryEnds op (signed_span (1 + n)) (signed_span (1 + n)) (signed_span (1 + n))
    × BinaryEnds op (unsigned_span n) (unsigned_span n) (unsigned_span n)

or-bits : OfBits Or
or-bits n =
    let a = 2 ^ ((1 + n) - 1) - 1 in
    let m = 2 ^ n - 1 in (
      record {
        least = (negsuc a, pos 0, least-signed n, zero-signed n, ap (λ v. negsuc (a - v)) (and_zero_r a) ∙ ap negsuc (less-none a));
        greatest = (pos a, pos 0, greatest-signed n, zero-signed n, ap pos (or_zero_r a));
      },
      record {
        least = (pos 0, pos 0, zero-unsigned n, zero-unsigned n, refl);
        greatest = (pos m, pos 0, greatest-unsigned n, zero-unsigned n, ap pos (or_zero_r m));
      },
    )

xor-bits : OfBits Xor
xor-bits n =
    let a = 2 ^ ((1 + n) - 1) - 1 in
    let m = 2 ^ n - 1 in (
      record {
        least = (negsuc a, pos 0, least-signed n, zero-signed n, ap negsuc (xor_zero_r a));
        greatest = (pos a, pos 0, greatest-signed n, zero-signed n, ap pos (xor_zero_r a));
      },
      record {
        least = (pos 0, pos 0, zero-unsigned n, zero-unsigned n, refl);
        greatest = (pos m, pos 0, greatest-unsigned n, zero-unsigned n, ap pos (xor_zero_r m));
      },
    )

and-bits : OfBits And
and-bits n =
    let a = 2 ^ ((1 + n) - 1) - 1 in
    let m = 2 ^ n - 1 in (
      record {
        least = (negsuc a, negsuc 0, least-signed n, ones-signed n, ap negsuc (or_zero_r a));
        greatest = (pos a, negsuc 0, greatest-signed n, ones-signed n, ap (λ v. pos (a - v)) (and_zero_r a) ∙ ap pos (less-none a));
      },
      record {
        least = (pos 0, pos 0, zero-unsigned n, zero-unsigned n, refl);
        greatest = (pos m, pos m, greatest-unsigned n, greatest-unsigned n, ap pos (and_self m));
      },
    )

bits-ends : (op : BinaryOp) (i j k : Span) → OfBits op → Some (bits_span i j) ≡ Some k → BinaryEnds op k k k
bits-ends op i j k all e =
    subst (λ v. BinaryEnds op v v v) (same_some (bits_span i j) k e)
    (elim (cases_Bool (int_lt i.least (pos 0) || int_lt j.least (pos 0))) [
      | inl t ↦ rw t (all (bits_needed i j)).0
      | inr t ↦ rw t (all (bits_needed i j)).1
    ])

-- ---- comparisons

zero-in : Lies (unsigned_span 1) (pos 0)
zero-in = zero-unsigned 1

one-in : Lies (unsigned_span 1) (pos 1)
one-in = (omega (arith, ints), omega (arith, ints))

truth-ends : (op : BinaryOp) (k : Span) → BinaryEnds op (unsigned_span 1) (unsigned_span 1) (unsigned_span 1)
    → Some (unsigned_span 1) ≡ Some k → BinaryEnds op k k k
truth-ends op k b e = subst (λ v. BinaryEnds op v v v) (same_some (unsigned_span 1) k e) b

-- ---- operators of two operands

pub binary-ends : (op : BinaryOp) (i j k : Span) → IsSpan i → IsSpan j → binary_span op i j ≡ Some k
    → BinaryEnds op (two_from op i k) (two_from op j k) k
binary-ends Or i j k h g e = bits-ends Or i j k or-bits e
binary-ends Xor i j k h g e = bits-ends Xor i j k xor-bits e
binary-ends And i j k h g e = bits-ends And i j k and-bits e
binary-ends Equal i j k h g e = truth-ends Equal k (record { least = (pos 0, pos 1, zero-in, one-in, refl); greatest = (pos 0, pos 0, zero-in, zero-in, refl) }) e
binary-ends NotEqual i j k h g e = truth-ends NotEqual k (record { least = (pos 0, pos 0, zero-in, zero-in, refl); greatest = (pos 0, pos 1, zero-in, one-in, refl) }) e
binary-ends Less i j k h g e = truth-ends Less k (record { least = (pos 0, pos 0, zero-in, zero-in, refl); greatest = (pos 0, pos 1, zero-in, one-in, refl) }) e
binary-ends LessOrEqual i j k h g e = truth-ends LessOrEqual k (record { least = (pos 1, pos 0, one-in, zero-in, refl); greatest = (pos 0, pos 0, zero-in, zero-in, refl) }) e
binary-ends Greater i j k h g e = truth-ends Greater k (record { least = (pos 0, pos 0, zero-in, zero-in, refl); greatest = (pos 1, pos 0, one-in, zero-in, refl) }) e
binary-ends GreaterOrEqual i j k h g e = truth-ends GreaterOrEqual k (record { least = (pos 0, pos 1, zero-in, one-in, refl); greatest = (pos 0, pos 0, zero-in, zero-in, refl) }) e
binary-ends ShiftLeft i j k h g e = left-ends i j k h g e
binary-ends ShiftRight i j k h g e = right-ends i j k h g e
binary-ends Add i j k h g e =
    subst (BinaryEnds Add i j) (sym (fitting-some (i.least +ℤ j.least) (i.greatest +ℤ j.greatest) k e).0) (record {
      least = (i.least, j.least, first-lies i h, first-lies j g, refl);
      greatest = (i.greatest, j.greatest, last-lies i h, last-lies j g, refl);
    })
binary-ends Subtract i j k h g e =
    subst (BinaryEnds Subtract i j) (sym (fitting-some (i.least +ℤ negative j.greatest) (i.greatest +ℤ negative j.least) k e).0) (record {
      least = (i.least, j.greatest, first-lies i h, last-lies j g, refl);
      greatest = (i.greatest, j.least, last-lies i h, first-lies j g, refl);
    })
binary-ends Multiply i j k h g e = products-ends i j k h g e
binary-ends Minimum i j k h g e =
    subst (BinaryEnds Minimum i j) (same_some (between (lesser i.least j.least) (lesser i.greatest j.greatest)) k e) (record {
      least = (i.least, j.least, first-lies i h, first-lies j g, refl);
      greatest = (i.greatest, j.greatest, last-lies i h, last-lies j g, refl);
    })
binary-ends Maximum i j k h g e =
    subst (BinaryEnds Maximum i j) (same_some (between (greater i.least j.least) (greater i.greatest j.greatest)) k e) (record {
      least = (i.least, j.least, first-lies i h, first-lies j g, refl);
      greatest = (i.greatest, j.greatest, last-lies i h, last-lies j g, refl);
    })

-- ---- functions of one operand

abbrev size_of : ℤ → ℤ
size_of z = if int_lt z (pos 0) then negative z else z

size-above : (z : ℤ) → pos 0 ≤ℤ z → size_of z ≡ z
size-above z h = elim (cases_Bool (int_lt z (pos 0))) [
  | inl t ↦ absurd (let p = lt_from z (pos 0) t in omega (arith, ints))
  | inr t ↦ rw t refl
]

size-below : (z : ℤ) → z ≤ℤ pos 0 → size_of z ≡ negative z
size-below z h = elim (cases_Bool (int_lt z (pos 0))) [
  | inl t ↦ rw t refl
  | inr t ↦ rw t (let p = not_lt z (pos 0) t in omega (arith, ints))
]

-- where an interval holds 0, and where its numbers are not all positive
abbrev across : Span → Option Span
across i = fitting (pos 0) (greater (negative i.least) i.greatest)

abbrev others : Span → Option Span
others i = if int_le i.greatest (pos 0) then fitting (negative i.greatest) (negative i.least) else across i

absolute-ends : (i k : Span) → IsSpan i → absolute_span i ≡ Some k → UnaryEnds Absolute i k
absolute-ends i k h e = elim (cases_Bool (int_le (pos 0) i.least)) [
  | inl t ↦
      let s : i ≡ k = same_some i k (subst (λ b. (if b then Some i else others i) ≡ Some k) t e) in
      let p = le_from (pos 0) i.least t in
      let q : pos 0 ≤ℤ i.greatest = (let r = h.some in omega (arith, ints)) in
      subst (UnaryEnds Absolute i) s (record {
        least = (i.least, first-lies i h, size-above i.least p);
        greatest = (i.greatest, last-lies i h, size-above i.greatest q);
      })
  | inr t ↦ rest (le_other (pos 0) i.least t) (subst (λ b. (if b then Some i else others i) ≡ Some k) t e)
]
  where
    rest : i.least ≤ℤ pos 0 → others i ≡ Some k → UnaryEnds Absolute i k
    rest p f = elim (cases_Bool (int_le i.greatest (pos 0))) [
      | inl u ↦
          let s = fitting-some (negative i.greatest) (negative i.least) k (subst (λ b. (if b then fitting (negative i.greatest) (negative i.least) else across i) ≡ Some k) u f) in
          subst (UnaryEnds Absolute i) (sym s.0) (record {
            least = (i.greatest, last-lies i h, size-below i.greatest (le_from i.greatest (pos 0) u));
            greatest = (i.least, first-lies i h, size-below i.least p);
          })
      | inr u ↦
          let s = fitting-some (pos 0) (greater (negative i.least) i.greatest) k (subst (λ b. (if b then fitting (negative i.greatest) (negative i.least) else across i) ≡ Some k) u f) in
          let q = le_other i.greatest (pos 0) u in
          subst (UnaryEnds Absolute i) (sym s.0) (record {
            least = (pos 0, (p, q), refl);
            greatest = elim (greater-one (negative i.least) i.greatest) [
              | inl c ↦ (i.least, first-lies i h, size-below i.least p ∙ sym c)
              | inr c ↦ (i.greatest, last-lies i h, size-above i.greatest q ∙ sym c)
            ];
          })
    ]

-- numbers of a signed or unsigned width are made of themselves
sign_extended : (w : Width) → UnaryEnds (SignExtend w) (signed_span (bits_of w)) (signed_span (bits_of w))
sign_extended W8 = record { least = (negsuc (2 ^ 7 - 1), least-signed 7, refl); greatest = (pos (2 ^ 7 - 1), greatest-signed 7, refl) }
sign_extended W16 = record { least = (negsuc (2 ^ 15 - 1), least-signed 15, refl); greatest = (pos (2 ^ 15 - 1), greatest-signed 15, refl) }
sign_extended W32 = record { least = (negsuc (2 ^ 31 - 1), least-signed 31, refl); greatest = (pos (2 ^ 31 - 1), greatest-signed 31, refl) }
sign_extended W64 = record { least = (negsuc (2 ^ 63 - 1), least-signed 63, refl); greatest = (pos (2 ^ 63 - 1), greatest-signed 63, refl) }

zero_extended : (w : Width) → UnaryEnds (ZeroExtend w) (unsigned_span (bits_of w)) (unsigned_span (bits_of w))
zero_extended W8 = record { least = (pos 0, zero-unsigned 8, refl); greatest = (pos (2 ^ 8 - 1), greatest-unsigned 8, refl) }
zero_extended W16 = record { least = (pos 0, zero-unsigned 16, refl); greatest = (pos (2 ^ 16 - 1), greatest-unsigned 16, refl) }
zero_extended W32 = record { least = (pos 0, zero-unsigned 32, refl); greatest = (pos (2 ^ 32 - 1), greatest-unsigned 32, refl) }
zero_extended W64 = record { least = (pos 0, zero-unsigned 64, refl); greatest = (pos (2 ^ 64 - 1), greatest-unsigned 64, refl) }

truncated : (w : Width) → UnaryEnds (Truncate w) (unsigned_span (bits_of w)) (unsigned_span (bits_of w))
truncated w = record { least = (zero_extended w).least; greatest = (zero_extended w).greatest }

pub unary-ends : (op : UnaryOp) (i k : Span) → IsSpan i → unary_span op i ≡ Some k → UnaryEnds op (one_from op i k) k
unary-ends Not i k h e =
    subst (UnaryEnds Not i) (sym (fitting-some (complement i.greatest) (complement i.least) k e).0) (record {
      least = (i.greatest, last-lies i h, refl);
      greatest = (i.least, first-lies i h, refl);
    })
unary-ends Negate i k h e =
    subst (UnaryEnds Negate i) (sym (fitting-some (negative i.greatest) (negative i.least) k e).0) (record {
      least = (i.greatest, last-lies i h, refl);
      greatest = (i.least, first-lies i h, refl);
    })
unary-ends Absolute i k h e = absolute-ends i k h e
unary-ends Signed i k h e =
    subst (UnaryEnds Signed i) (same_some i k e) (record {
      least = (i.least, first-lies i h, refl);
      greatest = (i.greatest, last-lies i h, refl);
    })
unary-ends (SignExtend w) i k h e = subst (λ v. UnaryEnds (SignExtend w) v v) (same_some (signed_span (bits_of w)) k e) (sign_extended w)
unary-ends (ZeroExtend w) i k h e = subst (λ v. UnaryEnds (ZeroExtend w) v v) (same_some (unsigned_span (bits_of w)) k e) (zero_extended w)
unary-ends (Saturate w) i k h e =
    subst (UnaryEnds (Saturate w) i) (same_some _ k e) (record {
      least = (i.least, first-lies i h, refl);
      greatest = (i.greatest, last-lies i h, refl);
    })
unary-ends (SaturateUnsigned w) i k h e =
    subst (UnaryEnds (SaturateUnsigned w) i) (same_some _ k e) (record {
      least = (i.least, first-lies i h, refl);
      greatest = (i.greatest, last-lies i h, refl);
    })
unary-ends (Truncate w) i k h e = subst (λ v. UnaryEnds (Truncate w) v v) (same_some (unsigned_span (bits_of w)) k e) (truncated w)

pub ends-are-made : EndsAreMade
ends-are-made = (unary-ends, λ op i j k h g m e. binary-ends op i j k h g e)
