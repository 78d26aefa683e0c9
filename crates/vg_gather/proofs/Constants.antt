-- The bits of a register of constants: each slot has its constant.
use Rattle.std.proofs.Common.{◌≡◌, ℕ, ◌+◌, ◌-◌, ◌*◌, ◌/◌, ◌%◌, ◌^◌, ◌<◌, ◌≤◌, List, [], ◌∷◌, refl, ap, ◌∙◌, arith}
use Rattle.std.specs.List.{AllByRecursion}
use Rattle.std.proofs.Math.Nat.{pow-le-pow_right}
use Rattle.std.proofs.lemmas.Nat.{mod_low, mul-add-lt, pow-add, pow_pos, shr_high}
use Rattle.vg_shapes.specs.declared.operand.Slot.{Slot}
use Rattle.vg_shapes.specs.declared.ssa.Ssa.{Ssa}
use Rattle.vg_shapes.specs.declared.wanted.Wanted.{Wanted}
use Rattle.vg_shapes.specs.declared.wanted.Wanted.TheVariants.{Value, Constant, Nothing}
use Rattle.vg_shapes.specs.Operands.{AreSlots, MayBeWanted}
use Rattle.vg_emission.specs.Emission.{constant_of, constants_of}

-- the constant that is wanted, 0 where none is
abbrev pub digit_of : Wanted → ℕ
digit_of (Value v) = 0
digit_of (Constant w n) = n
digit_of Nothing = 0

-- a number is the constant that is wanted, where one is
abbrev pub IsStill : Wanted → ℕ → Type 0
IsStill (Value v) n = Unit {0}
IsStill (Constant w c) n = n ≡ c
IsStill Nothing n = Unit {0}

constant-digit : (s : Slot) (x : Wanted) → constant_of s x ≡ digit_of x * 2 ^ s.low
constant-digit s (Value v) = omega arith
constant-digit s (Constant w n) = refl
constant-digit s Nothing = omega arith

digit-below : (ssa : Ssa) (w : ℕ) (x : Wanted) → MayBeWanted ssa w x → digit_of x < 2 ^ w
digit-below ssa w (Value v) may = pow_pos w
digit-below ssa w (Constant m n) may = may.1
digit-below ssa w Nothing may = pow_pos w

still : (x : Wanted) (n : ℕ) → n ≡ digit_of x → IsStill x n
still (Value v) n e = tt
still (Constant w c) n e = e
still Nothing n e = tt

regroup : (a n k p q : ℕ) → a + (n * p + k * (p * q)) ≡ (k * q + n) * p + a
regroup a n k p q = grind arith

-- a digit of a number, with what stands below and above it
digit : (a n k l w : ℕ) → a < 2 ^ l → n < 2 ^ w
    → (a + (n * 2 ^ l + k * 2 ^ (l + w))) / 2 ^ l % 2 ^ w ≡ n
digit a n k l w below fits =
    ap (λ m. (a + (n * 2 ^ l + k * m)) / 2 ^ l % 2 ^ w) (pow-add 2 l w)
    ∙ ap (λ m. m / 2 ^ l % 2 ^ w) (regroup a n k (2 ^ l) (2 ^ w))
    ∙ ap (λ m. m % 2 ^ w) (shr_high (k * 2 ^ w + n) l a below)
    ∙ mod_low k w n fits

-- the constants of slots from a bit on are a multiple of 2 to that bit
high : (ssa : Ssa) (n low : ℕ) (ss : List Slot) → AreSlots ssa n low ss
    → (k : ℕ) × (constants_of ss ≡ k * 2 ^ low)
high ssa n low [] all = (0, omega arith)
high ssa n low (s ∷ ss) all =
    let rest = high ssa n (s.low + s.width) ss all.2 in
    let between = s.low - low in
    let here : s.low ≡ between + low = (let h = all.0 in omega arith) in
    let there : s.low + s.width ≡ between + s.width + low = (let h = all.0 in omega arith) in
    let c = digit_of s.wanted in (
      c * 2 ^ between + rest.0 * 2 ^ (between + s.width),
      (λ i. constant-digit s s.wanted i + rest.1 i)
          ∙ (λ i. c * 2 ^ here i + rest.0 * 2 ^ there i)
          ∙ (λ i. c * pow-add 2 between low i + rest.0 * pow-add 2 (between + s.width) low i)
          ∙ two_parts c rest.0 (2 ^ between) (2 ^ (between + s.width)) (2 ^ low),
    )
  where
    two_parts : (c k p q l : ℕ) → c * (p * l) + k * (q * l) ≡ (c * p + k * q) * l
    two_parts c k p q l = grind arith

-- each slot of constants has its own, whatever stands below the first
pub constants-still : (ssa : Ssa) (n low a whole : ℕ) (ss : List Slot) → AreSlots ssa n low ss
    → a < 2 ^ low → whole ≡ a + constants_of ss
    → AllByRecursion (λ s. IsStill s.wanted (whole / 2 ^ s.low % 2 ^ s.width)) ss
constants-still ssa n low a whole [] all below e = tt
constants-still ssa n low a whole (s ∷ ss) all below e =
    let l = s.low in
    let w = s.width in
    let c = digit_of s.wanted in
    let rest = high ssa n (l + w) ss all.2 in
    let wide : 2 ^ low ≤ 2 ^ l = pow-le-pow_right {n = 2} (omega arith) all.0 in
    let fits : c < 2 ^ w = digit-below ssa w s.wanted (all.1).wanted in
    let under : a < 2 ^ l = omega arith in
    let split : whole ≡ a + (c * 2 ^ l + constants_of ss) =
    e ∙ ap (λ m. a + (m + constants_of ss)) (constant-digit s s.wanted) in
    let parts : whole ≡ a + (c * 2 ^ l + rest.0 * 2 ^ (l + w)) =
    split ∙ ap (λ m. a + (c * 2 ^ l + m)) rest.1 in
    let joined : whole ≡ c * 2 ^ l + a + constants_of ss = omega arith in
    let next : c * 2 ^ l + a < 2 ^ (l + w) =
    let k = mul-add-lt c (2 ^ l) a (2 ^ w) fits under in
    let m = pow-add 2 l w in
    omega arith
    in (
      still s.wanted _ (ap (λ m. m / 2 ^ l % 2 ^ w) parts ∙ digit a c rest.0 l w under fits),
      constants-still ssa n (l + w) (c * 2 ^ l + a) whole ss all.2 next joined,
    )
