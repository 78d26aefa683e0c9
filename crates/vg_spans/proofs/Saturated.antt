-- Ends that stop at 128 signed bits are read as the ends themselves.
use Rattle.std.proofs.Common.{◌≡◌, ℕ, ◌-◌, ◌^◌, ◌<◌, ◌≤◌, Bool, true, false, refl, ◌∙◌, arith}
use Rattle.std.specs.Prelude.{ℤ, pos, negsuc, ◌&&◌, ◌||◌, int_le, ◌≤ℤ◌, if◌then◌else◌}
use Rattle.std.specs.Int.{int_min, int_max, saturate_to_bits}
use Rattle.std.proofs.lemmas.Int.{clamps, ints}
use Rattle.std.proofs.lemmas.Bool.{and_parts}
use Rattle.vg_base.proofs.LowBits.{pow-le}
use Rattle.vg_spans.specs.declared.span.Span.{Span}
use Rattle.vg_spans.specs.Span.{between_ends, is_signed, is_unsigned, readable, signed_span, span}

abbrev saturated : ℤ → ℤ
saturated z = saturate_to_bits 127 z

-- the lesser and the greater of two
saturated-min : (a b : ℤ) → int_min (saturated a) (saturated b) ≡ saturated (int_min a b)
saturated-min (pos a) (pos b) = grind arith
saturated-min (pos a) (negsuc b) = refl
saturated-min (negsuc a) (pos b) = refl
saturated-min (negsuc a) (negsuc b) = grind arith

saturated-max : (a b : ℤ) → int_max (saturated a) (saturated b) ≡ saturated (int_max a b)
saturated-max (pos a) (pos b) = grind arith
saturated-max (pos a) (negsuc b) = refl
saturated-max (negsuc a) (pos b) = refl
saturated-max (negsuc a) (negsuc b) = grind arith

-- ends within a span of small ends are the same
abbrev Small : ℕ → Type 0
Small n = n < 2 ^ 127 - 1

least-test : (m : ℕ) (z : ℤ) → Small m → int_le (negsuc m) (saturated z) ≡ int_le (negsuc m) z
least-test m (pos n) h = refl
least-test m (negsuc n) h = grind arith

zero-test : (z : ℤ) → int_le (pos 0) (saturated z) ≡ int_le (pos 0) z
zero-test (pos n) = grind arith
zero-test (negsuc n) = refl

most-test : (m : ℕ) (z : ℤ) → Small m → int_le (saturated z) (pos m) ≡ int_le z (pos m)
most-test m (pos n) h = grind arith
most-test m (negsuc n) h = refl

within-both : (w : ℕ) → w ≤ 64 → (a b : ℤ) → is_signed w (span (saturated a) (saturated b)) ≡ is_signed w (span a b)
within-both w h a b =
    let p : 2 ^ (w - 1) ≤ 2 ^ 64 = pow-le (w - 1) 64 (omega arith) in
    let s : Small (2 ^ (w - 1) - 1) = omega arith in
    λ i. least-test (2 ^ (w - 1) - 1) a s i && most-test (2 ^ (w - 1) - 1) b s i

unsigned-both : (w : ℕ) → w ≤ 64 → (a b : ℤ) → is_unsigned w (span (saturated a) (saturated b)) ≡ is_unsigned w (span a b)
unsigned-both w h a b =
    let p : 2 ^ w ≤ 2 ^ 64 = pow-le w 64 h in
    let s : Small (2 ^ w - 1) = omega arith in
    λ i. zero-test a i && most-test (2 ^ w - 1) b s i

-- an end that is read is itself
saturated-same : (z : ℤ) (m n : ℕ) → Small m → Small n → int_le (negsuc m) z ≡ true → int_le z (pos n) ≡ true → saturated z ≡ z
saturated-same (pos k) m n h g p q = grind arith
saturated-same (negsuc k) m n h g p q = grind arith

-- the reading of a span by what the tests on it say
either-read : (u v : Bool) (s t all : Span) → (u ≡ true → s ≡ t) → (v ≡ true → s ≡ t) → (if u || v then s else all) ≡ (if u || v then t else all)
either-read true v s t all f g = f refl
either-read false true s t all f g = g refl
either-read false false s t all f g = refl

-- where both ends are in a span of small ends, both are the same
same-ends : (m n : ℕ) (p q : ℤ) → Small m → Small n → p ≤ℤ q → int_le (negsuc m) p && int_le q (pos n) ≡ true → span (saturated p) (saturated q) ≡ span p q
same-ends m n p q s t l h =
    let both = and_parts (int_le (negsuc m) p) (int_le q (pos n)) h in
    let above : int_le (negsuc m) q ≡ true = grind (arith, ints, both) in
    let below : int_le p (pos n) ≡ true = grind (arith, ints, both) in
    λ i. span (saturated-same p m n s t both.0 below i) (saturated-same q m n s t above both.1 i)

same-natural : (n : ℕ) (p q : ℤ) → Small n → p ≤ℤ q → int_le (pos 0) p && int_le q (pos n) ≡ true → span (saturated p) (saturated q) ≡ span p q
same-natural n p q t l h =
    let both = and_parts (int_le (pos 0) p) (int_le q (pos n)) h in
    let wide : int_le (negsuc 0) p ≡ true = grind (arith, ints, both) in
    same-ends 0 n p q (omega arith) t l (and-both wide both.1)
  where
    and-both : {a b : Bool} → a ≡ true → b ≡ true → a && b ≡ true
    and-both e f = λ i. e i && f i

saturated-span : (w : ℕ) → 1 ≤ w → w ≤ 64 → (p q : ℤ) → p ≤ℤ q → readable w (span (saturated p) (saturated q)) ≡ readable w (span p q)
saturated-span w l h p q o =
    let k : 2 ^ (w - 1) ≤ 2 ^ 64 = pow-le (w - 1) 64 (omega arith) in
    let j : 2 ^ w ≤ 2 ^ 64 = pow-le w 64 h in
    (λ i. if within-both w h p q i || unsigned-both w h p q i then span (saturated p) (saturated q) else signed_span w)
    ∙ either-read (is_signed w (span p q)) (is_unsigned w (span p q)) (span (saturated p) (saturated q)) (span p q) (signed_span w)
    (same-ends (2 ^ (w - 1) - 1) (2 ^ (w - 1) - 1) p q (omega arith) (omega arith) o)
    (same-natural (2 ^ w - 1) p q (omega arith) o)

ordered : (p q r s : ℤ) → int_min (int_min p q) (int_min r s) ≤ℤ int_max (int_max p q) (int_max r s)
ordered p q r s = omega (arith, ints, clamps)

pub saturated-ends : (f : ℤ → ℤ → ℤ) (w : ℕ) → 1 ≤ w → w ≤ 64 → (x y : Span) → readable w (between_ends (λ a b. saturated (f a b)) x y) ≡ readable w (between_ends f x y)
saturated-ends f w l h x y =
    let p = f x.low y.low in
    let q = f x.low y.high in
    let r = f x.high y.low in
    let s = f x.high y.high in
    let low = (λ i. int_min (saturated-min p q i) (saturated-min r s i)) ∙ saturated-min (int_min p q) (int_min r s) in
    let high = (λ i. int_max (saturated-max p q i) (saturated-max r s i)) ∙ saturated-max (int_max p q) (int_max r s) in
    (λ i. readable w (span (low i) (high i))) ∙ saturated-span w l h (int_min (int_min p q) (int_min r s)) (int_max (int_max p q) (int_max r s)) (ordered p q r s)
