-- Signed readings: residues of whole numbers add and multiply, and a number that fits is read back.
use Rattle.std.proofs.Common.{◌≡◌, ℕ, zero, suc, ◌+◌, ◌-◌, ◌*◌, ◌/◌, ◌%◌, ◌^◌, ◌<◌, ◌≤◌, refl, sym, ap, ◌∙◌, subst, arith, inl, inr}
use Rattle.std.specs.Prelude.{ltb, ℤ, pos, negsuc, ◌+ℤ◌, ◌*ℤ◌}
use Rattle.std.proofs.lemmas.Bool.{cases_lt, ltb-true, ltb-false, cond_both}
use Rattle.std.proofs.lemmas.Nat.{pow_pos, mod_below, mod-mul-add, div-add-mod', mul-mod, mul-le, shr_below, pow-add}
use Rattle.std.proofs.Math.Nat.{mul-le-mul_left, mod-one, add-mul-mod_self_right, add-mod-mod, mod-add-mod}
use Rattle.std.proofs.Math.IntN.{sub_ℕ, neg_ℤ}
use Rattle.vg_base.specs.Bits.{signed_at}
use Rattle.vg_base.specs.Number.{residue, magnitude}
use Rattle.vg_base.proofs.LowBits.{pow-half, below_wider, low-low, low-below, signed-low, signed-high}

-- a natural number that is z modulo p
abbrev rep : ℕ → ℤ → ℕ
rep p (pos n) = n
rep p (negsuc n) = suc n * (p - 1)

-- numbers that differ by a multiple of p
mod_same : (p m n k : ℕ) → m ≡ n + k * p → m % p ≡ n % p
mod_same p m n k e = ap (λ v. v % p) e ∙ add-mul-mod_self_right n k p

flat : (d q m r : ℕ) → d ≡ q * m + r → r ≤ m → (d + q + 1) * m ≡ d * (m + 1) + (m - r)
flat d q m r e h = omega arith

negative_rep : (p n : ℕ) → 0 < p → p - 1 - n % p ≡ (suc n * (p - 1)) % p
negative_rep p n h =
    let split : n / p * p + n % p ≡ n = div-add-mod' n p in
    let below : n % p < p = mod_below n p h in
    let less : n / p * 1 ≤ n / p * p = mul-le-mul_left (n / p) h in
    let whole : (n - n / p) + n / p + 1 ≡ suc n = omega arith in
    let one : (p - 1) + 1 ≡ p = omega arith in
    let split' : n / p * ((p - 1) + 1) + n % p ≡ n = subst (λ v. n / p * v + n % p ≡ n) (sym one) split in
    let rest : n - n / p ≡ n / p * (p - 1) + n % p = omega arith in
    let small : n % p ≤ p - 1 = omega arith in
    let e : ((n - n / p) + n / p + 1) * (p - 1) ≡ (n - n / p) * ((p - 1) + 1) + ((p - 1) - n % p) = flat (n - n / p) (n / p) (p - 1) (n % p) rest small in
    let f : suc n * (p - 1) ≡ (n - n / p) * p + ((p - 1) - n % p) = ap (λ v. v * (p - 1)) (sym whole) ∙ e ∙ ap (λ v. (n - n / p) * v + ((p - 1) - n % p)) one in
    let fits : (p - 1) - n % p < p = omega arith in
    sym (ap (λ v. v % p) f ∙ mod-mul-add (n - n / p) p ((p - 1) - n % p) fits)

pub residue-rep : (w : ℕ) (z : ℤ) → residue w z ≡ rep (2 ^ w) z % 2 ^ w
residue-rep w (pos n) = refl
residue-rep w (negsuc n) = negative_rep (2 ^ w) n (pow_pos w)

-- sums and products of representatives
below_zero : (m a k : ℕ) → a + (a + k) * m ≡ k * m + a * (m + 1)
below_zero m a k = omega arith

above_zero : (m d b : ℕ) → (d + b) + b * m ≡ d + b * (m + 1)
above_zero m d b = omega arith

rep-sub : (p a b : ℕ) → 0 < p → rep p (sub_ℕ a (suc b)) % p ≡ (a + suc b * (p - 1)) % p
rep-sub p a b h =
    let one : (p - 1) + 1 ≡ p = omega arith in
    cond_both (ltb a (suc b)) (negsuc (suc b - suc a)) (pos (a - suc b)) (λ z. rep p z % p ≡ (a + suc b * (p - 1)) % p)
    (λ t. let l = ltb-true a (suc b) t in
    let k = suc (suc b - suc a) in
    let e : a + k ≡ suc b = omega arith in
    sym (mod_same p (a + suc b * (p - 1)) (k * (p - 1)) a (ap (λ v. a + v * (p - 1)) (sym e) ∙ below_zero (p - 1) a k ∙ ap (λ v. k * (p - 1) + a * v) one)))
    (λ t. let l = ltb-false a (suc b) t in
    let d = a - suc b in
    let e : d + suc b ≡ a = omega arith in
    sym (mod_same p (a + suc b * (p - 1)) d (suc b) (ap (λ v. v + suc b * (p - 1)) (sym e) ∙ above_zero (p - 1) d (suc b) ∙ ap (λ v. d + suc b * v) one)))

rep-add : (p : ℕ) (x y : ℤ) → 0 < p → rep p (x +ℤ y) % p ≡ (rep p x + rep p y) % p
rep-add p (pos a) (pos b) h = refl
rep-add p (pos a) (negsuc b) h = rep-sub p a b h
rep-add p (negsuc a) (pos b) h = rep-sub p b a h ∙ ap (λ v. v % p) (omega arith)
rep-add p (negsuc a) (negsuc b) h = ap (λ v. v % p) (omega arith)

rep-neg : (p n : ℕ) → rep p (neg_ℤ (pos n)) ≡ n * (p - 1)
rep-neg p zero = omega arith
rep-neg p (suc n) = refl

squares : (m a b : ℕ) → 0 < m → (a * m) * (b * m) ≡ a * b + (a * b * (m - 1)) * (m + 1)
squares m a b h =
    let e : (m - 1) + 1 ≡ m = omega arith in
    let f : (a * ((m - 1) + 1)) * (b * ((m - 1) + 1)) ≡ a * b + (a * b * (m - 1)) * (((m - 1) + 1) + 1) = omega arith in
    subst (λ v. (a * v) * (b * v) ≡ a * b + (a * b * (m - 1)) * (v + 1)) e f

two_negatives : (p a b : ℕ) → 0 < p → (a * b) % p ≡ ((a * (p - 1)) * (b * (p - 1))) % p
two_negatives p a b h =
    elim (cases_lt 1 p) [ inl l ↦ (let m : 0 < p - 1 = omega arith in let one : (p - 1) + 1 ≡ p = omega arith in sym (mod_same p _ (a * b) (a * b * (p - 1 - 1)) (squares (p - 1) a b m ∙ ap (λ v. a * b + (a * b * (p - 1 - 1)) * v) one))) | inr g ↦ (let e : p ≡ 1 = omega arith in subst (λ v. (a * b) % v ≡ ((a * (v - 1)) * (b * (v - 1))) % v) (sym e) (mod-one (a * b) ∙ sym (mod-one ((a * (1 - 1)) * (b * (1 - 1)))))) ]

rep-mul : (p : ℕ) (x y : ℤ) → 0 < p → rep p (x *ℤ y) % p ≡ (rep p x * rep p y) % p
rep-mul p (pos a) (pos b) h = refl
rep-mul p (pos a) (negsuc b) h = ap (λ v. v % p) (rep-neg p (a * suc b) ∙ omega arith)
rep-mul p (negsuc a) (pos b) h = ap (λ v. v % p) (rep-neg p (suc a * b) ∙ omega arith)
rep-mul p (negsuc a) (negsuc b) h = two_negatives p (suc a) (suc b) h

pub residue-add : (w : ℕ) (x y : ℤ) → residue w (x +ℤ y) ≡ (residue w x + residue w y) % 2 ^ w
residue-add w x y =
    residue-rep w (x +ℤ y) ∙ rep-add (2 ^ w) x y (pow_pos w)
    ∙ sym (mod-add-mod (rep (2 ^ w) x) (2 ^ w) (rep (2 ^ w) y)) ∙ sym (add-mod-mod (rep (2 ^ w) x % 2 ^ w) (rep (2 ^ w) y) (2 ^ w))
    ∙ sym (ap (λ v. (v + residue w y) % 2 ^ w) (residue-rep w x) ∙ ap (λ v. (rep (2 ^ w) x % 2 ^ w + v) % 2 ^ w) (residue-rep w y))

pub residue-mul : (w : ℕ) (x y : ℤ) → residue w (x *ℤ y) ≡ (residue w x * residue w y) % 2 ^ w
residue-mul w x y =
    residue-rep w (x *ℤ y) ∙ rep-mul (2 ^ w) x y (pow_pos w)
    ∙ mul-mod (rep (2 ^ w) x) (rep (2 ^ w) y) (2 ^ w)
    ∙ sym (ap (λ v. (v * residue w y) % 2 ^ w) (residue-rep w x) ∙ ap (λ v. (rep (2 ^ w) x % 2 ^ w * v) % 2 ^ w) (residue-rep w y))

-- the low bits of a residue are a residue
pub low_of_negative : (w n a : ℕ) → n ≤ w → (2 ^ w - 1 - a % 2 ^ w) % 2 ^ n ≡ 2 ^ n - 1 - a % 2 ^ n
low_of_negative w n a h =
    let e : (w - n) + n ≡ w = omega arith in
    let s = a % 2 ^ w in
    let low : s % 2 ^ n < 2 ^ n = mod_below s (2 ^ n) (pow_pos n) in
    let split : s / 2 ^ n * 2 ^ n + s % 2 ^ n ≡ s = div-add-mod' s (2 ^ n) in
    let top : 2 ^ (w - n) * 2 ^ n ≡ 2 ^ w = subst (λ m. 2 ^ (w - n) * 2 ^ n ≡ 2 ^ m) e (sym (pow-add 2 (w - n) n)) in
    let small : s < 2 ^ w = mod_below a (2 ^ w) (pow_pos w) in
    let row : s / 2 ^ n < 2 ^ (w - n) = shr_below s (w - n) n (subst (λ m. s < 2 ^ m) (sym e) small) in
    let k = 2 ^ (w - n) - 1 - s / 2 ^ n in
    let rows : k + 1 + s / 2 ^ n ≡ 2 ^ (w - n) = omega arith in
    let whole : (k + 1 + s / 2 ^ n) * 2 ^ n ≡ 2 ^ w = ap (λ v. v * 2 ^ n) rows ∙ top in
    let flat : 2 ^ w - 1 - s ≡ k * 2 ^ n + (2 ^ n - 1 - s % 2 ^ n) = omega arith in
    let fits : 2 ^ n - 1 - s % 2 ^ n < 2 ^ n = omega arith in
    ap (λ v. v % 2 ^ n) flat ∙ mod-mul-add k (2 ^ n) (2 ^ n - 1 - s % 2 ^ n) fits ∙ ap (λ v. 2 ^ n - 1 - v) (low-low a w n h)

pub residue-low : (w n : ℕ) (z : ℤ) → n ≤ w → residue w z % 2 ^ n ≡ residue n z
residue-low w n (pos a) h = low-low a w n h
residue-low w n (negsuc a) h = low_of_negative w n a h

-- a number of w bits is the residue of its signed reading
pub residue-signed : (w v : ℕ) → v < 2 ^ w → residue w (signed_at w v) ≡ v
residue-signed w v h =
    let same : w ≤ w = omega arith in
    elim (cases_lt v (2 ^ (w - 1))) [ inl l ↦ ap (residue w) (signed-low w v l) ∙ low-below v w w h same | inr g ↦ (let s : 2 ^ w - 1 - v < 2 ^ w = omega (arith, pow_pos w) in ap (residue w) (signed-high w v g) ∙ ap (λ n. 2 ^ w - 1 - n) (low-below (2 ^ w - 1 - v) w w s same) ∙ omega arith) ]

-- a whole number that fits w signed bits is the signed reading of its residue
pub signed-residue : (w : ℕ) (z : ℤ) → 0 < w → magnitude z < 2 ^ (w - 1) → signed_at w (residue w z) ≡ z
signed-residue w (pos n) h l =
    let k : w - 1 ≤ w = omega arith in
    ap (signed_at w) (low-below n (w - 1) w l k) ∙ signed-low w n l
signed-residue w (negsuc n) h l =
    let k : w - 1 ≤ w = omega arith in
    let half = pow-half w h in
    let g : 2 ^ (w - 1) ≤ 2 ^ w - 1 - n = omega arith in
    let back : 2 ^ w - 1 - (2 ^ w - 1 - n) ≡ n = omega arith in
    ap (λ v. signed_at w (2 ^ w - 1 - v)) (low-below n (w - 1) w l k) ∙ signed-high w (2 ^ w - 1 - n) g ∙ ap negsuc back

-- a number of w bits is within w signed bits
pub signed-within : (w v : ℕ) → 0 < w → v < 2 ^ w → magnitude (signed_at w v) < 2 ^ (w - 1)
signed-within w v h b =
    let half = pow-half w h in
    elim (cases_lt v (2 ^ (w - 1))) [ inl l ↦ subst (λ z. magnitude z < 2 ^ (w - 1)) (sym (signed-low w v l)) l | inr g ↦ (let l : 2 ^ w - 1 - v < 2 ^ (w - 1) = omega arith in subst (λ z. magnitude z < 2 ^ (w - 1)) (sym (signed-high w v g)) l) ]

pub residue_below : (w : ℕ) (z : ℤ) → residue w z < 2 ^ w
residue_below w (pos n) = mod_below n (2 ^ w) (pow_pos w)
residue_below w (negsuc n) = omega (arith, pow_pos w)

-- a residue needs no more signed bits than the whole number
pub residue-within : (w s : ℕ) (z : ℤ) → 0 < w → magnitude z < 2 ^ (s - 1) → magnitude (signed_at w (residue w z)) < 2 ^ (s - 1)
residue-within w s z h l =
    elim (cases_lt w s) [ inl g ↦ (let k : w - 1 ≤ s - 1 = omega arith in below_wider _ (w - 1) (s - 1) (signed-within w (residue w z) h (residue_below w z)) k) | inr g ↦ (let k : s - 1 ≤ w - 1 = omega arith in subst (λ y. magnitude y < 2 ^ (s - 1)) (sym (signed-residue w z h (below_wider (magnitude z) (s - 1) (w - 1) l k))) l) ]

magnitude-sub : (a b n : ℕ) → a < n → b ≤ n → 0 < n → magnitude (sub_ℕ a b) < n
magnitude-sub a b n p q z =
    cond_both (ltb a b) (negsuc (b - suc a)) (pos (a - b)) (λ y. magnitude y < n) (λ t. omega (arith, ltb-true a b t)) (λ t. omega arith)

-- the magnitude of a sum and of a product
pub magnitude-add : (x y : ℤ) (n : ℕ) → magnitude x < n → magnitude y < n → magnitude (x +ℤ y) < n + n
magnitude-add (pos a) (pos b) n p q = omega arith
magnitude-add (pos a) (negsuc b) n p q = magnitude-sub a (suc b) (n + n) (omega arith) (omega arith) (omega arith)
magnitude-add (negsuc a) (pos b) n p q = magnitude-sub b (suc a) (n + n) (omega arith) (omega arith) (omega arith)
magnitude-add (negsuc a) (negsuc b) n p q = omega arith

-- the distance from 0
abbrev distance : ℤ → ℕ
distance (pos n) = n
distance (negsuc n) = suc n

magnitude-le : (z : ℤ) → magnitude z ≤ distance z
magnitude-le (pos n) = omega arith
magnitude-le (negsuc n) = omega arith

distance-le : (z : ℤ) → distance z ≤ magnitude z + 1
distance-le (pos n) = omega arith
distance-le (negsuc n) = omega arith

distance-neg : (n : ℕ) → distance (neg_ℤ (pos n)) ≡ n
distance-neg zero = refl
distance-neg (suc n) = refl

distance-mul : (x y : ℤ) → distance (x *ℤ y) ≡ distance x * distance y
distance-mul (pos a) (pos b) = refl
distance-mul (pos a) (negsuc b) = distance-neg (a * suc b)
distance-mul (negsuc a) (pos b) = distance-neg (suc a * b)
distance-mul (negsuc a) (negsuc b) = refl

-- a product of distances at most m and n, where m * n is below the bound
pub magnitude-mul : (x y : ℤ) (m n b : ℕ) → magnitude x < m → magnitude y < n → m * n < b → magnitude (x *ℤ y) < b
magnitude-mul x y m n b p q l =
    let dx : distance x ≤ m = omega (arith, distance-le x) in
    let dy : distance y ≤ n = omega (arith, distance-le y) in
    omega (arith, magnitude-le (x *ℤ y), distance-mul x y, mul-le (distance x) (distance y) m n dx dy)

-- the same, where the second number is not negative
pub magnitude-mul_pos : (x : ℤ) (v m n : ℕ) → magnitude x < m → v < n → magnitude (x *ℤ pos v) < m * n
magnitude-mul_pos x v m n p q =
    let dx : distance x ≤ m = omega (arith, distance-le x) in
    let dv : v ≤ n - 1 = omega arith in
    let some : 0 < m = omega arith in
    let e : (n - 1) + 1 ≡ n = omega arith in
    let whole : m * ((n - 1) + 1) ≡ m * n = ap (λ k. m * k) e in
    let less : m * (n - 1) < m * n = omega arith in
    omega (arith, magnitude-le (x *ℤ pos v), distance-mul x (pos v), mul-le (distance x) v m (n - 1) dx dv)

-- an extension by the sign of one by the sign
pub extend-extend : (w m n v : ℕ) → 0 < n → n < m → v < 2 ^ n → residue w (signed_at m (residue m (signed_at n v))) ≡ residue w (signed_at n v)
extend-extend w m n v h l b =
    let some : 0 < m = omega arith in
    let less : n - 1 ≤ m - 1 = omega arith in
    ap (residue w) (signed-residue m (signed_at n v) some (below_wider (magnitude (signed_at n v)) (n - 1) (m - 1) (signed-within n v h b) less))
