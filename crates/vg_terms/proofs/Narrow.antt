-- Operations at a lesser width: on the low bits they give the low bits, and a number that fits is extended back.
use Rattle.std.proofs.Common.{◌≡◌, ℕ, ◌+◌, ◌-◌, ◌*◌, ◌%◌, ◌^◌, ◌<◌, ◌≤◌, Bool, true, false, sym, ap, ◌∙◌, arith, inl, inr}
use Rattle.std.specs.Prelude.{int_lt, nat_lt, nat_eq, if◌then◌else◌, min, max}
use Rattle.std.proofs.lemmas.Bool.{cases_Bool, eqb-true, eq-eqb}
use Rattle.std.proofs.lemmas.Nat.{mul-mod, and_mod, or_mod, xor_mod}
use Rattle.std.proofs.Math.Nat.{add-mod-mod, mod-add-mod}
use Rattle.vg_base.specs.Bits.{signed_at}
use Rattle.vg_terms.specs.declared.term.TwoOp.{TwoOp}
use Rattle.vg_terms.specs.declared.term.TwoOp.TheVariants.{Add, Mul, And, Or, Xor, Smin, Smax, Umin, Umax, Eq, Slt, Ult, Cat}
use Rattle.vg_base.specs.Number.{residue, magnitude}
use Rattle.vg_terms.specs.Value.{two_value}
use Rattle.vg_base.proofs.LowBits.{low-low, low-below}
use Rattle.vg_base.proofs.Signed.{residue-low, residue-signed, signed-residue}
use Rattle.vg_terms.specs.Resize.{keeps_low}

pub low-add : (w n a b : ℕ) → n ≤ w → (a + b) % 2 ^ w % 2 ^ n ≡ (a % 2 ^ n + b % 2 ^ n) % 2 ^ n
low-add w n a b h = low-low (a + b) w n h ∙ sym (mod-add-mod a (2 ^ n) b) ∙ sym (add-mod-mod (a % 2 ^ n) b (2 ^ n))

pub low-mul : (w n a b : ℕ) → n ≤ w → (a * b) % 2 ^ w % 2 ^ n ≡ (a % 2 ^ n * (b % 2 ^ n)) % 2 ^ n
low-mul w n a b h = low-low (a * b) w n h ∙ mul-mod a b (2 ^ n)

pub low-two : (op : TwoOp) (w n a b : ℕ) → keeps_low op ≡ true → n ≤ w → two_value op w w a b % 2 ^ n ≡ two_value op n n (a % 2 ^ n) (b % 2 ^ n)
low-two Add w n a b t h = low-add w n a b h
low-two Mul w n a b t h = low-mul w n a b h
low-two And w n a b t h = and_mod a b n
low-two Or w n a b t h = or_mod a b n
low-two Xor w n a b t h = xor_mod a b n
low-two Smin w n a b t h = absurd (cc)
low-two Smax w n a b t h = absurd (cc)
low-two Umin w n a b t h = absurd (cc)
low-two Umax w n a b t h = absurd (cc)
low-two Eq w n a b t h = absurd (cc)
low-two Slt w n a b t h = absurd (cc)
low-two Ult w n a b t h = absurd (cc)
low-two Cat w n a b t h = absurd (cc)

-- the low n bits of a number that fits n signed bits have its signed reading
pub signed-low_bits : (w n v : ℕ) → 0 < n → n ≤ w → v < 2 ^ w → magnitude (signed_at w v) < 2 ^ (n - 1) → signed_at n (v % 2 ^ n) ≡ signed_at w v
signed-low_bits w n v h l b m =
    ap (λ x. signed_at n (x % 2 ^ n)) (sym (residue-signed w v b)) ∙ ap (signed_at n) (residue-low w n (signed_at w v) l) ∙ signed-residue n (signed_at w v) h m

-- and extended by their sign they give it back
pub extended-low_bits : (w n v : ℕ) → 0 < n → n ≤ w → v < 2 ^ w → magnitude (signed_at w v) < 2 ^ (n - 1) → residue w (signed_at n (v % 2 ^ n)) ≡ v
extended-low_bits w n v h l b m = ap (residue w) (signed-low_bits w n v h l b m) ∙ residue-signed w v b

-- a result below 2 ^ n is that of the operation at n
pub narrow-unsigned : (op : TwoOp) (w n a b : ℕ) → keeps_low op ≡ true → n ≤ w → two_value op w w a b < 2 ^ n → two_value op n n (a % 2 ^ n) (b % 2 ^ n) ≡ two_value op w w a b
narrow-unsigned op w n a b t l h =
    let same : n ≤ n = omega arith in
    sym (low-two op w n a b t l) ∙ low-below (two_value op w w a b) n n h same

-- a result that fits n signed bits has the signed reading of the operation at n
pub narrow-signed : (op : TwoOp) (w n a b : ℕ) → keeps_low op ≡ true → 0 < n → n ≤ w → two_value op w w a b < 2 ^ w → magnitude (signed_at w (two_value op w w a b)) < 2 ^ (n - 1) → signed_at n (two_value op n n (a % 2 ^ n) (b % 2 ^ n)) ≡ signed_at w (two_value op w w a b)
narrow-signed op w n a b t h l p m =
    ap (signed_at n) (sym (low-two op w n a b t l)) ∙ signed-low_bits w n (two_value op w w a b) h l p m

-- an unsigned comparison, least or greatest of numbers below 2 ^ n
pub narrow-ult : (n a b : ℕ) → a < 2 ^ n → b < 2 ^ n → nat_lt (a % 2 ^ n) (b % 2 ^ n) ≡ nat_lt a b
narrow-ult n a b p q =
    let same : n ≤ n = omega arith in
    ap (λ v. nat_lt v (b % 2 ^ n)) (low-below a n n p same) ∙ ap (nat_lt a) (low-below b n n q same)

pub narrow-eq : (n a b : ℕ) → a < 2 ^ n → b < 2 ^ n → nat_eq (a % 2 ^ n) (b % 2 ^ n) ≡ nat_eq a b
narrow-eq n a b p q =
    let same : n ≤ n = omega arith in
    ap (λ v. nat_eq v (b % 2 ^ n)) (low-below a n n p same) ∙ ap (nat_eq a) (low-below b n n q same)

pub narrow-umin : (n a b : ℕ) → a < 2 ^ n → b < 2 ^ n → min (a % 2 ^ n) (b % 2 ^ n) ≡ min a b
narrow-umin n a b p q =
    let same : n ≤ n = omega arith in
    ap (λ v. min v (b % 2 ^ n)) (low-below a n n p same) ∙ ap (min a) (low-below b n n q same)

pub narrow-umax : (n a b : ℕ) → a < 2 ^ n → b < 2 ^ n → max (a % 2 ^ n) (b % 2 ^ n) ≡ max a b
narrow-umax n a b p q =
    let same : n ≤ n = omega arith in
    ap (λ v. max v (b % 2 ^ n)) (low-below a n n p same) ∙ ap (max a) (low-below b n n q same)

-- a signed comparison, least or greatest of numbers that fit n signed bits
pub record FitsSigned (w n v : ℕ) : Type 0 where
  pub some : 0 < n
  pub narrower : n ≤ w
  pub number : v < 2 ^ w
  pub within : magnitude (signed_at w v) < 2 ^ (n - 1)

reads : (w n v : ℕ) → FitsSigned w n v → signed_at n (v % 2 ^ n) ≡ signed_at w v
reads w n v f = signed-low_bits w n v f.some f.narrower f.number f.within

gives_back : (w n v : ℕ) → FitsSigned w n v → residue w (signed_at n (v % 2 ^ n)) ≡ v
gives_back w n v f = extended-low_bits w n v f.some f.narrower f.number f.within

pub narrow-slt : (w n a b : ℕ) → FitsSigned w n a → FitsSigned w n b → int_lt (signed_at n (a % 2 ^ n)) (signed_at n (b % 2 ^ n)) ≡ int_lt (signed_at w a) (signed_at w b)
narrow-slt w n a b f g = ap (λ z. int_lt z (signed_at n (b % 2 ^ n))) (reads w n a f) ∙ ap (int_lt (signed_at w a)) (reads w n b g)

pub narrow-eq_signed : (w n a b : ℕ) → FitsSigned w n a → FitsSigned w n b → nat_eq (a % 2 ^ n) (b % 2 ^ n) ≡ nat_eq a b
narrow-eq_signed w n a b f g =
    elim (cases_Bool (nat_eq (a % 2 ^ n) (b % 2 ^ n))) [
      | inl t ↦ (let e = sym (gives_back w n a f) ∙ ap (λ v. residue w (signed_at n v)) (eqb-true _ _ t) ∙ gives_back w n b g in t ∙ sym (eq-eqb a b e))
      | inr d ↦ elim (cases_Bool (nat_eq a b)) [
        | inl t ↦ absurd (let k = eq-eqb (a % 2 ^ n) (b % 2 ^ n) (ap (λ v. v % 2 ^ n) (eqb-true a b t)) in cc)
        | inr e ↦ d ∙ sym e
      ]
    ]

through_if : (t s : Bool) (g : ℕ → ℕ) (p q a b : ℕ) → t ≡ s → g p ≡ a → g q ≡ b → g (if t then p else q) ≡ (if s then a else b)
through_if true s g p q a b e h k = h ∙ ap (λ c. if c then a else b) e
through_if false s g p q a b e h k = k ∙ ap (λ c. if c then a else b) e

pub narrow-smin : (w n a b : ℕ) → FitsSigned w n a → FitsSigned w n b → residue w (signed_at n (two_value Smin n n (a % 2 ^ n) (b % 2 ^ n))) ≡ two_value Smin w w a b
narrow-smin w n a b f g =
    through_if _ _ (λ v. residue w (signed_at n v)) (a % 2 ^ n) (b % 2 ^ n) a b (narrow-slt w n a b f g) (gives_back w n a f) (gives_back w n b g)

pub narrow-smax : (w n a b : ℕ) → FitsSigned w n a → FitsSigned w n b → residue w (signed_at n (two_value Smax n n (a % 2 ^ n) (b % 2 ^ n))) ≡ two_value Smax w w a b
narrow-smax w n a b f g =
    through_if _ _ (λ v. residue w (signed_at n v)) (b % 2 ^ n) (a % 2 ^ n) b a (narrow-slt w n a b f g) (gives_back w n b g) (gives_back w n a f)
