-- The spans of operations on bits.
use Rattle.std.proofs.Common.{◌≡◌, ℕ, ◌+◌, ◌-◌, ◌%◌, ◌^◌, ◌<◌, ◌≤◌, Bool, true, false, refl, sym, subst, arith, inl, inr}
use Rattle.std.specs.Prelude.{ℤ, pos, negsuc, ◌≤ℤ◌, bit_and, bit_or, bit_xor, max, ◌||◌, int_lt}
use Rattle.std.specs.Int.{int_min}
use Rattle.std.proofs.lemmas.Bool.{cases_Bool, cond-true, cond-false}
use Rattle.std.proofs.lemmas.Int.{clamps, ints}
use Rattle.std.proofs.lemmas.Nat.{and_le_l, and_le_r, or_lt, xor_lt}
use Rattle.std.proofs.Math.Nat.{mod-le}
use Rattle.vg_base.specs.Bits.{signed_at}
use Rattle.vg_base.specs.Number.{magnitude, residue}
use Rattle.vg_base.proofs.LowBits.{below_wider, low-below}
use Rattle.vg_base.proofs.Signed.{residue-signed, residue-within}
use Rattle.vg_spans.specs.declared.operand_spans.OperandSpans.{OperandSpans}
use Rattle.vg_spans.specs.declared.span.Span.{Span}
use Rattle.vg_spans.specs.Span.{bits_needed, IsIn, is_signed, is_unsigned, readable, signed_span, span, unsigned_span}
use Rattle.vg_spans.specs.Spans.{bits_span}
use Rattle.vg_spans.proofs.Holding.{either, Holds, in-wider, le-self, le-trans, magnitude-signed, readable-holds, signed-magnitude, unsigned-in, unsigned-natural}
use Rattle.vg_spans.proofs.Reading.{ReadsAs}
use Rattle.vg_terms.specs.Known.{digits}
use Rattle.vg_terms.proofs.Bounds.{bits-within, IsBitwise, or_bitwise, xor_bitwise}
use Rattle.vg_terms.proofs.Soundness.{digits-below}

-- and: no more than either number
pub and-holds : (w a b : ℕ) (x y : OperandSpans) → ReadsAs w x a → ReadsAs w y b → Holds w (readable w (span (pos 0) (int_min x.unsigned.high y.unsigned.high))) (bit_and a b)
and-holds w a b x y h k =
    let l = and_le_l a b in
    let r = and_le_r a b in
    let same : w ≤ w = omega arith in
    let small : bit_and a b < 2 ^ w = (let p = h.below in omega arith) in
    let p = h.unsigned.below in
    let q = k.unsigned.below in
    readable-holds w (bit_and a b) (span (pos 0) (int_min x.unsigned.high y.unsigned.high)) (pos (bit_and a b)) h.some
    (record { above = omega (arith, ints); below = omega (arith, ints, clamps) })
    (low-below (bit_and a b) w w small same)

-- ---- or, xor

-- the ends of a span of w bits are small
end-small : (w : ℕ) (s : Span) (z : ℤ) → w ≤ 64 → (is_signed w s || is_unsigned w s) ≡ true → IsIn s z → magnitude z < 2 ^ 128
end-small w s z most read h = elim (cases_Bool (is_signed w s)) [
  | inl t ↦ below_wider (magnitude z) (w - 1) 128 (signed-magnitude w z (in-wider s (signed_span w) z t h)) (omega arith)
  | inr f ↦
      let n = unsigned-natural w z (in-wider s (unsigned_span w) z (either (is_signed w s) (is_unsigned w s) read f) h) in
      subst (λ y. magnitude y < 2 ^ 128) (sym n.1) (below_wider n.0 w 128 n.2 (omega arith))
]

between-magnitude : (a b z : ℤ) → a ≤ℤ z → z ≤ℤ b → magnitude z ≤ max (magnitude a) (magnitude b)
between-magnitude (pos a) (pos b) (pos z) p q = omega (arith, ints)
between-magnitude (pos a) (pos b) (negsuc z) p q = absurd (omega (arith, ints))
between-magnitude (pos a) (negsuc b) z p q = absurd (omega (arith, ints))
between-magnitude (negsuc a) (pos b) (pos z) p q = omega (arith, ints)
between-magnitude (negsuc a) (pos b) (negsuc z) p q = omega (arith, ints)
between-magnitude (negsuc a) (negsuc b) (pos z) p q = absurd (omega (arith, ints))
between-magnitude (negsuc a) (negsuc b) (negsuc z) p q = omega (arith, ints)

-- a number in a span needs no more bits than its ends
pub bits-enough : (w : ℕ) (s : Span) (z : ℤ) → w ≤ 64 → (is_signed w s || is_unsigned w s) ≡ true → IsIn s z → magnitude z < 2 ^ max (digits (magnitude s.low)) (digits (magnitude s.high))
bits-enough w s z most read h =
    let d = max (digits (magnitude s.low)) (digits (magnitude s.high)) in
    let first : IsIn s s.low = record { above = le-self s.low; below = le-trans s.low z s.high h.above h.below } in
    let last : IsIn s s.high = record { above = le-trans s.low z s.high h.above h.below; below = le-self s.high } in
    let a = below_wider (magnitude s.low) (digits (magnitude s.low)) d (digits-below (magnitude s.low) (end-small w s s.low most read first)) (omega arith) in
    let b = below_wider (magnitude s.high) (digits (magnitude s.high)) d (digits-below (magnitude s.high) (end-small w s s.high most read last)) (omega arith) in
    let m = between-magnitude s.low s.high z h.above h.below in
    omega arith

-- an operation bit by bit that makes no more bits
pub record IsOnBits (f : ℕ → ℕ → ℕ) : Type 0 where
  pub bitwise : IsBitwise f
  pub small : (k a b : ℕ) → a < 2 ^ k → b < 2 ^ k → f a b < 2 ^ k

pub or-on_bits : IsOnBits bit_or
or-on_bits = record { bitwise = or_bitwise; small = or_lt }

pub xor-on_bits : IsOnBits bit_xor
xor-on_bits = record { bitwise = xor_bitwise; small = xor_lt }

not-below : (z : ℤ) → int_lt z (pos 0) ≡ false → pos 0 ≤ℤ z
not-below z e = grind (arith, ints)

neither : (a b : Bool) → (a || b) ≡ false → (a ≡ false) × (b ≡ false)
neither true b e = absurd (cc)
neither false b e = (refl, e)

-- the low bits of a whole number that is not negative are no more than it
natural-low : (w k a : ℕ) (z : ℤ) → pos 0 ≤ℤ z → magnitude z < 2 ^ k → residue w z ≡ a → a < 2 ^ k
natural-low w k a (pos n) p m e = let l : n % 2 ^ w ≤ n = mod-le n (2 ^ w) in omega arith
natural-low w k a (negsuc n) p m e = absurd (omega (arith, ints))

pub bits-hold : (f : ℕ → ℕ → ℕ) (w a b : ℕ) (x y : OperandSpans) → IsOnBits f → w ≤ 64 → ReadsAs w x a → ReadsAs w y b → Holds w (readable w (bits_span x.plain y.plain)) (f a b)
bits-hold f w a b x y o most h k =
    let n = bits_needed x.plain y.plain in
    let s = x.plain in
    let t = y.plain in
    let p = below_wider (magnitude h.whole) (max (digits (magnitude s.low)) (digits (magnitude s.high))) n (bits-enough w s h.whole most h.readable h.plain) (omega arith) in
    let q = below_wider (magnitude k.whole) (max (digits (magnitude t.low)) (digits (magnitude t.high))) n (bits-enough w t k.whole most k.readable k.plain) (omega arith) in
    let small = o.small w a b h.below k.below in
    let test = int_lt s.low (pos 0) || int_lt t.low (pos 0) in
    let even : n + 1 - 1 ≡ n = omega arith in
    elim (cases_Bool test) [
      | inl c ↦
          let ma : magnitude (signed_at w a) < 2 ^ (n + 1 - 1) = subst (λ v. magnitude (signed_at w v) < 2 ^ (n + 1 - 1)) h.residue (residue-within w (n + 1) h.whole h.some (subst (λ v. magnitude h.whole < 2 ^ v) (sym even) p)) in
          let mb : magnitude (signed_at w b) < 2 ^ (n + 1 - 1) = subst (λ v. magnitude (signed_at w v) < 2 ^ (n + 1 - 1)) k.residue (residue-within w (n + 1) k.whole h.some (subst (λ v. magnitude k.whole < 2 ^ v) (sym even) q)) in
          let within = bits-within f w a b (n + 1) o.bitwise h.some (omega arith) h.below k.below small ma mb in
          subst (λ u. Holds w (readable w u) (f a b)) (sym (cond-true test (signed_span (n + 1)) (unsigned_span n) c))
          (readable-holds w (f a b) (signed_span (n + 1)) (signed_at w (f a b)) h.some (magnitude-signed (n + 1) (signed_at w (f a b)) within) (residue-signed w (f a b) small))
      | inr c ↦
          let none = neither (int_lt s.low (pos 0)) (int_lt t.low (pos 0)) c in
          let la = natural-low w n a h.whole (le-trans (pos 0) s.low h.whole (not-below s.low none.0) h.plain.above) p h.residue in
          let lb = natural-low w n b k.whole (le-trans (pos 0) t.low k.whole (not-below t.low none.1) k.plain.above) q k.residue in
          let same : w ≤ w = omega arith in
          subst (λ u. Holds w (readable w u) (f a b)) (sym (cond-false test (signed_span (n + 1)) (unsigned_span n) c))
          (readable-holds w (f a b) (unsigned_span n) (pos (f a b)) h.some (unsigned-in n (f a b) (o.small n a b la lb)) (low-below (f a b) w w small same))
    ]
