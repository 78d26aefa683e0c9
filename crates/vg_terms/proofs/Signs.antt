-- Comparing numbers by their signed readings.
use Rattle.std.proofs.Common.{◌≡◌, ℕ, ◌+◌, ◌-◌, ◌^◌, ◌<◌, ◌≤◌, sym, ap, ◌∙◌, arith, inl, inr}
use Rattle.std.specs.Prelude.{pos, negsuc, int_lt, nat_lt, if◌then◌else◌, min, max}
use Rattle.std.proofs.lemmas.Bool.{cases_lt, lt-ltb, le-ltb, cond-true, cond-false}
use Rattle.vg_base.specs.Bits.{signed_at}
use Rattle.vg_base.proofs.LowBits.{pow-half, signed-low, signed-high}

-- the signed reading keeps the order of this number
abbrev pub lifted : ℕ → ℕ → ℕ
lifted w v = if nat_lt v (2 ^ (w - 1)) then v + 2 ^ (w - 1) else v - 2 ^ (w - 1)

pub lifted-low : (w v : ℕ) → v < 2 ^ (w - 1) → lifted w v ≡ v + 2 ^ (w - 1)
lifted-low w v h = cond-true _ _ _ (lt-ltb _ _ h)

pub lifted-high : (w v : ℕ) → 2 ^ (w - 1) ≤ v → lifted w v ≡ v - 2 ^ (w - 1)
lifted-high w v h = cond-false _ _ _ (le-ltb _ _ h)

same_test : (a b c d : ℕ) → (a < b → c < d) → (b ≤ a → d ≤ c) → nat_lt a b ≡ nat_lt c d
same_test a b c d h g =
    elim (cases_lt a b) [ inl l ↦ lt-ltb a b l ∙ sym (lt-ltb c d (h l)) | inr k ↦ le-ltb a b k ∙ sym (le-ltb c d (g k)) ]

-- two numbers below half are compared as they are
pub signed_less-low : (w a b : ℕ) → a < 2 ^ (w - 1) → b < 2 ^ (w - 1) → int_lt (signed_at w a) (signed_at w b) ≡ nat_lt a b
signed_less-low w a b p q = ap (λ z. int_lt z (signed_at w b)) (signed-low w a p) ∙ ap (int_lt (pos a)) (signed-low w b q)

pub signed_less : (w a b : ℕ) → 0 < w → a < 2 ^ w → b < 2 ^ w → int_lt (signed_at w a) (signed_at w b) ≡ nat_lt (lifted w a) (lifted w b)
signed_less w a b h p q =
    let half = pow-half w h in
    let H = 2 ^ (w - 1) in
    elim (cases_lt a H) [
      | inl la ↦ elim (cases_lt b H) [
        | inl lb ↦ signed_less-low w a b la lb ∙ same_test a b (a + H) (b + H) (λ l. omega arith) (λ l. omega arith) ∙ sym (ap (λ n. nat_lt n (lifted w b)) (lifted-low w a la) ∙ ap (nat_lt (a + H)) (lifted-low w b lb))
        | inr gb ↦ (let less : b - H ≤ a + H = omega arith in ap (λ z. int_lt z (signed_at w b)) (signed-low w a la) ∙ ap (int_lt (pos a)) (signed-high w b gb) ∙ sym (ap (λ n. nat_lt n (lifted w b)) (lifted-low w a la) ∙ ap (nat_lt (a + H)) (lifted-high w b gb) ∙ le-ltb (a + H) (b - H) less))
      ]
      | inr ga ↦ elim (cases_lt b H) [
        | inl lb ↦ (let less : a - H < b + H = omega arith in ap (λ z. int_lt z (signed_at w b)) (signed-high w a ga) ∙ ap (int_lt (negsuc (2 ^ w - 1 - a))) (signed-low w b lb) ∙ sym (ap (λ n. nat_lt n (lifted w b)) (lifted-high w a ga) ∙ ap (nat_lt (a - H)) (lifted-low w b lb) ∙ lt-ltb (a - H) (b + H) less))
        | inr gb ↦ ap (λ z. int_lt z (signed_at w b)) (signed-high w a ga) ∙ ap (int_lt (negsuc (2 ^ w - 1 - a))) (signed-high w b gb) ∙ same_test (2 ^ w - 1 - b) (2 ^ w - 1 - a) (a - H) (b - H) (λ l. omega arith) (λ l. omega arith) ∙ sym (ap (λ n. nat_lt n (lifted w b)) (lifted-high w a ga) ∙ ap (nat_lt (a - H)) (lifted-high w b gb))
      ]
    ]

pub lifted-same : (w a b : ℕ) → 0 < w → a < 2 ^ w → b < 2 ^ w → lifted w a ≡ lifted w b → a ≡ b
lifted-same w a b h p q e =
    let half = pow-half w h in
    let H = 2 ^ (w - 1) in
    elim (cases_lt a H) [
      | inl la ↦ elim (cases_lt b H) [ inl lb ↦ omega (arith, lifted-low w a la, lifted-low w b lb) | inr gb ↦ absurd (omega (arith, lifted-low w a la, lifted-high w b gb)) ]
      | inr ga ↦ elim (cases_lt b H) [ inl lb ↦ absurd (omega (arith, lifted-high w a ga, lifted-low w b lb)) | inr gb ↦ omega (arith, lifted-high w a ga, lifted-high w b gb) ]
    ]

-- the lesser and the greater of two numbers by a test
pub lesser_of : (a b : ℕ) → min a b ≡ (if nat_lt a b then a else b)
lesser_of a b = elim (cases_lt a b) [ inl l ↦ omega arith ∙ sym (cond-true _ _ _ (lt-ltb a b l)) | inr g ↦ omega arith ∙ sym (cond-false _ _ _ (le-ltb a b g)) ]

pub greater_of : (a b : ℕ) → max a b ≡ (if nat_lt a b then b else a)
greater_of a b = elim (cases_lt a b) [ inl l ↦ omega arith ∙ sym (cond-true _ _ _ (lt-ltb a b l)) | inr g ↦ omega arith ∙ sym (cond-false _ _ _ (le-ltb a b g)) ]

-- below half a signed least is an unsigned least
pub least-low : (w a b : ℕ) → a < 2 ^ (w - 1) → b < 2 ^ (w - 1) → (if int_lt (signed_at w a) (signed_at w b) then a else b) ≡ min a b
least-low w a b p q = ap (λ t. if t then a else b) (signed_less-low w a b p q) ∙ sym (lesser_of a b)

pub greatest-low : (w a b : ℕ) → a < 2 ^ (w - 1) → b < 2 ^ (w - 1) → (if int_lt (signed_at w a) (signed_at w b) then b else a) ≡ max a b
greatest-low w a b p q = ap (λ t. if t then b else a) (signed_less-low w a b p q) ∙ sym (greater_of a b)
