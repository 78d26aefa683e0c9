-- The values of shifted sums, and of sums read unsigned or signed.
use Rattle.std.proofs.Common.{◌≡◌, ℕ, ◌+◌, ◌-◌, ◌*◌, ◌/◌, ◌%◌, ◌^◌, ◌<◌, ◌≤◌, refl, sym, ap, ◌∙◌, subst, arith, inl, inr, true, false}
use Rattle.std.specs.Prelude.{ℤ, pos, negsuc, ◌+ℤ◌, ◌*ℤ◌, ◌≤ℤ◌, nat_eq, nat_lt, Option, Some, None, IfSome, if◌then◌else◌}
use Rattle.std.specs.Ordering.{int_eq}
use Rattle.std.proofs.lemmas.Int.{ints, by_lt_z}
use Rattle.std.proofs.lemmas.Bool.{cases_lt, cond_both, eqb-true}
use Rattle.std.proofs.lemmas.Nat.{mod_below, pow_pos}
use Rattle.std.proofs.Math.IntN.{*ℤ_comm}
use Rattle.std.proofs.Math.Nat.{mod-eq_of_lt, add-mul-mod_self_right}
use Rattle.vg_base.specs.Trap.{◌>>=◌}
use Rattle.vg_base.specs.Bits.{signed_at}
use Rattle.vg_base.specs.Number.{floor_shift, residue}
use Rattle.vg_base.proofs.LowBits.{pow-half, signed-high, signed-low}
use Rattle.vg_base.proofs.Signed.{residue-add, residue-mul, residue-signed, residue_below}
use Rattle.vg_terms.specs.declared.value.Env.{Env}
use Rattle.vg_sums.specs.declared.span.Span.{Span}
use Rattle.vg_sums.specs.Arithmetic.{add, add_number, quotient, remainder, scale}
use Rattle.vg_sums.specs.Readings.{balanced, common_floor, floor_by, floored, less_multiple, reading_balanced, reading_by, reading_of, shown_floor, signed, unsigned}
use Rattle.vg_sums.specs.Spans.{In, span}
use Rattle.vg_sums.specs.Sums.{Polynomial, number, plus, sum_value}
use Rattle.vg_sums.proofs.Spans.{mul-pos, span-value}
use Rattle.vg_sums.proofs.Values.{Makes, add-value, add_number-value, atom_at, joined-value, parts-value, scale-value, sum_times}
use Rattle.vg_sums.proofs.Whole.{floor-shown, floor-split, then_some}

-- ---- floors

one_times : (n : ℕ) → pos 1 *ℤ pos n ≡ pos n
one_times n = omega (arith, ints)

-- a lesser number of multiples leaves the sum less
less_multiples : (f g : ℤ) (a b n : ℕ) → a < n → (f +ℤ pos 1) ≤ℤ g → f *ℤ pos n +ℤ pos a ≡ g *ℤ pos n +ℤ pos b → ⊥
less_multiples f g a b n h l e =
    let step : (f +ℤ pos 1) *ℤ pos n ≡ f *ℤ pos n +ℤ pos n = sum_times f (pos 1) (pos n) ∙ ap (λ v. f *ℤ pos n +ℤ v) (one_times n) in
    let up : (f *ℤ pos n +ℤ pos n) ≤ℤ (g *ℤ pos n) = subst (λ v. v ≤ℤ (g *ℤ pos n)) step (mul-pos (f +ℤ pos 1) g n l) in
    unequal (f *ℤ pos n) (g *ℤ pos n) up e
  where
    unequal : (x y : ℤ) → (x +ℤ pos n) ≤ℤ y → x +ℤ pos a ≡ y +ℤ pos b → ⊥
    unequal x y p q = omega (arith, ints)

-- multiples with less than one more are told apart
multiples-same : (f g : ℤ) (a b n : ℕ) → a < n → b < n → f *ℤ pos n +ℤ pos a ≡ g *ℤ pos n +ℤ pos b → f ≡ g
multiples-same f g a b n h k e =
    by_lt_z f g
    (λ l. absurd (less_multiples f g a b n h (omega (arith, ints)) e))
    (λ l. by_lt_z g f
    (λ m. absurd (less_multiples g f b a n k (omega (arith, ints)) (sym e)))
    (λ m. omega (arith, ints)))

-- whole multiples come out of a floor
pub floor-multiples : (q r : ℤ) (k : ℕ) → q +ℤ floor_shift r k ≡ floor_shift (q *ℤ pos (2 ^ k) +ℤ r) k
floor-multiples q r k =
    let n = 2 ^ k in
    let z = q *ℤ pos n +ℤ r in
    let flat : (q +ℤ floor_shift r k) *ℤ pos n +ℤ pos (residue k r) ≡ z =
    ap (λ v. v +ℤ pos (residue k r)) (sum_times q (floor_shift r k) (pos n)) ∙ regroup (q *ℤ pos n) (floor_shift r k *ℤ pos n) (pos (residue k r)) ∙ ap (λ v. q *ℤ pos n +ℤ v) (floor-split r k) in
    multiples-same (q +ℤ floor_shift r k) (floor_shift z k) (residue k r) (residue k z) n (residue_below k r) (residue_below k z) (flat ∙ sym (floor-split z k))
  where
    regroup : (x y t : ℤ) → (x +ℤ y) +ℤ t ≡ x +ℤ (y +ℤ t)
    regroup x y t = omega (arith, ints)

floor_zero : (z : ℤ) → z ≡ floor_shift z 0
floor_zero (pos n) = ap pos (omega arith)
floor_zero (negsuc n) = ap negsuc (omega arith)

shown_floor-value : (env : Env) (k : ℕ) (p : Polynomial) → IfSome (shown_floor k p) (λ z. z ≡ floor_shift (sum_value env p) k)
shown_floor-value env k p =
    then_some (λ s. In s (sum_value env p)) (λ z. z ≡ floor_shift (sum_value env p) k) (span p) (common_floor k) (span-value env p)
    (λ s h. cond_both (int_eq (floor_shift s.least k) (floor_shift s.greatest k)) _ _ (λ m. IfSome m (λ z. z ≡ floor_shift (sum_value env p) k))
    (λ t. floor-shown s.least s.greatest (sum_value env p) k h.above h.below t) (λ t. tt))

floor_by-value : (env : Env) (m : Option ℤ) (k : ℕ) (p : Polynomial) → IfSome m (λ z. z ≡ floor_shift (sum_value env p) k) → sum_value env (floor_by m k p) ≡ floor_shift (sum_value env p) k
floor_by-value env (Some z) k p h = h
floor_by-value env None k p h = itself (floor_shift (sum_value env p) k)
  where
    itself : (z : ℤ) → z *ℤ pos 1 +ℤ pos 0 ≡ z
    itself z = omega (arith, ints)

pub floored-value : (env : Env) (k : ℕ) (p : Polynomial) → Makes env (floored k p) (floor_shift (sum_value env p) k)
floored-value env k p =
    let rest = remainder k p in
    let floor = floor_by (shown_floor k rest) k rest in
    let e : sum_value env (quotient k p) +ℤ sum_value env floor ≡ floor_shift (sum_value env p) k =
    ap (λ v. sum_value env (quotient k p) +ℤ v) (floor_by-value env (shown_floor k rest) k rest (shown_floor-value env k rest))
    ∙ floor-multiples (sum_value env (quotient k p)) (sum_value env rest) k ∙ ap (λ v. floor_shift v k) (parts-value env k p) in
    cond_both (nat_lt 126 k) _ _ (λ m. Makes env m (floor_shift (sum_value env p) k)) (λ t. tt)
    (λ t. cond_both (nat_eq k 0) _ _ (λ m. Makes env m (floor_shift (sum_value env p) k))
    (λ u. subst (λ n. sum_value env p ≡ floor_shift (sum_value env p) n) (sym (eqb-true k 0 u)) (floor_zero (sum_value env p)))
    (λ u. subst (λ v. Makes env (add (quotient k p) floor) v) e (add-value env (quotient k p) floor)))

-- ---- multiples taken off

negative_times : (n : ℕ) (f : ℤ) → 0 < n → negsuc (n - 1) *ℤ f +ℤ f *ℤ pos n ≡ pos 0
negative_times n f h =
    let e : negsuc (n - 1) +ℤ pos n ≡ pos 0 = omega (arith, ints) in
    ap (λ v. negsuc (n - 1) *ℤ f +ℤ v) (*ℤ_comm f (pos n)) ∙ sym (sum_times (negsuc (n - 1)) (pos n) f) ∙ ap (λ v. v *ℤ f) e ∙ none f
  where
    none : (z : ℤ) → pos 0 *ℤ z ≡ pos 0
    none z = omega (arith, ints)

-- a number less the multiple below it
floor-off : (w : ℕ) (z : ℤ) → z +ℤ negsuc (2 ^ w - 1) *ℤ floor_shift z w ≡ pos (residue w z)
floor-off w z =
    off (negsuc (2 ^ w - 1) *ℤ floor_shift z w) (floor_shift z w *ℤ pos (2 ^ w)) (pos (residue w z)) z (negative_times (2 ^ w) (floor_shift z w) (pow_pos w)) (floor-split z w)
  where
    off : (m f r z : ℤ) → m +ℤ f ≡ pos 0 → f +ℤ r ≡ z → z +ℤ m ≡ r
    off m f r z d e = omega (arith, ints)

less_multiple-value : (env : Env) (w : ℕ) (m p : Polynomial) → sum_value env m ≡ floor_shift (sum_value env p) w → Makes env (less_multiple w m p) (pos (residue w (sum_value env p)))
less_multiple-value env w m p h =
    then_some (λ x. sum_value env x ≡ negsuc (2 ^ w - 1) *ℤ sum_value env m) (λ r. sum_value env r ≡ pos (residue w (sum_value env p))) (scale (negsuc (2 ^ w - 1)) m) _ (scale-value env (negsuc (2 ^ w - 1)) m)
    (λ x e. subst (λ v. Makes env (add p x) v)
    (ap (λ v. sum_value env p +ℤ v) (e ∙ ap (λ v. negsuc (2 ^ w - 1) *ℤ v) h) ∙ floor-off w (sum_value env p))
    (add-value env p x))

-- ---- readings

reading_by-value : (env : Env) (m : Option ℤ) (w : ℕ) (p : Polynomial) → IfSome m (λ z. z ≡ floor_shift (sum_value env p) w) → Makes env (reading_by m w p) (pos (residue w (sum_value env p)))
reading_by-value env (Some z) w p h = less_multiple-value env w (number z) p h
reading_by-value env None w p h =
    then_some (λ m. sum_value env m ≡ floor_shift (sum_value env p) w) (λ r. sum_value env r ≡ pos (residue w (sum_value env p))) (floored w p) _ (floored-value env w p)
    (λ m e. less_multiple-value env w m p e)

-- a sum of congruent numbers
pub congruent : (w : ℕ) (a f g r s : ℤ) → residue w f ≡ residue w g → residue w r ≡ residue w s → residue w (a *ℤ f +ℤ r) ≡ residue w (a *ℤ g +ℤ s)
congruent w a f g r s h k =
    residue-add w (a *ℤ f) r ∙ ap (λ v. (v + residue w r) % 2 ^ w) (residue-mul w a f ∙ ap (λ v. (residue w a * v) % 2 ^ w) h ∙ sym (residue-mul w a g))
    ∙ ap (λ v. (residue w (a *ℤ g) + v) % 2 ^ w) k ∙ sym (residue-add w (a *ℤ g) s)

balanced-value : (env : Env) (w : ℕ) (p : Polynomial) → residue w (sum_value env (balanced w p)) ≡ residue w (sum_value env p)
balanced-value env w (number z) = residue-signed w (residue w z) (residue_below w z)
balanced-value env w (plus k i f r) =
    ap (residue w) (joined-value env k i (balanced w f) (balanced w r))
    ∙ congruent w (atom_at env k i) (sum_value env (balanced w f)) (sum_value env f) (sum_value env (balanced w r)) (sum_value env r) (balanced-value env w f) (balanced-value env w r)

reading_of-value : (env : Env) (m : Option ℤ) (w : ℕ) (p : Polynomial) → IfSome m (λ z. z ≡ floor_shift (sum_value env p) w) → Makes env (reading_of m w p) (pos (residue w (sum_value env p)))
reading_of-value env (Some z) w p h = less_multiple-value env w (number z) p h
reading_of-value env None w p h =
    let q = balanced w p in
    subst (λ v. Makes env (reading_balanced w q) (pos v)) (balanced-value env w p) (reading_by-value env (shown_floor w q) w q (shown_floor-value env w q))

pub unsigned-value : (env : Env) (w : ℕ) (p : Polynomial) → Makes env (unsigned w p) (pos (residue w (sum_value env p)))
unsigned-value env w p =
    cond_both (nat_lt 126 w) _ _ (λ m. Makes env m (pos (residue w (sum_value env p)))) (λ t. tt)
    (λ t. reading_of-value env (shown_floor w p) w p (shown_floor-value env w p))

-- moved by half the numbers of w bits, and back
moved : (h v : ℕ) → 0 < h → v < h + h → negsuc (h - 1) +ℤ pos ((h + v) % (h + h)) ≡ (if nat_lt v h then pos v else negsuc (h + h - 1 - v))
moved h v p l =
    cond_both (nat_lt v h) (pos v) (negsuc (h + h - 1 - v)) (λ z. negsuc (h - 1) +ℤ pos ((h + v) % (h + h)) ≡ z)
    (λ t. let b : v < h = grind (arith, t) in
    let c : h + v < h + h = omega arith in
    let e : (h + v) % (h + h) ≡ h + v = mod-eq_of_lt c in
    omega (arith, ints, e))
    (λ t. let b : h ≤ v = grind (arith, t) in
    let c : v - h < h + h = omega arith in
    let d : h + v ≡ (v - h) + 1 * (h + h) = omega arith in
    let e : (h + v) % (h + h) ≡ v - h = ap (λ n. n % (h + h)) d ∙ add-mul-mod_self_right (v - h) 1 (h + h) ∙ mod-eq_of_lt c in
    omega (arith, ints, e))

signed-moved : (w : ℕ) (z : ℤ) → 0 < w → negsuc (2 ^ (w - 1) - 1) +ℤ pos (residue w (pos (2 ^ (w - 1)) +ℤ z)) ≡ signed_at w (residue w z)
signed-moved w z h =
    let half = 2 ^ (w - 1) in
    let v = residue w z in
    let twice : half + half ≡ 2 ^ w = pow-half w h in
    let some : 0 < half = pow_pos (w - 1) in
    let low : half % 2 ^ w ≡ half = mod-eq_of_lt (omega arith) in
    let below : v < half + half = subst (λ n. v < n) (sym twice) (residue_below w z) in
    let e : residue w (pos half +ℤ z) ≡ (half + v) % (half + half) =
    residue-add w (pos half) z ∙ ap (λ n. (n + v) % 2 ^ w) low ∙ ap (λ n. (half + v) % n) (sym twice) in
    ap (λ n. negsuc (half - 1) +ℤ pos n) e ∙ moved half v some below ∙ ap (λ n. if nat_lt v half then pos v else negsuc (n - 1 - v)) twice

pub signed-value : (env : Env) (w : ℕ) (p : Polynomial) → 0 < w → Makes env (signed w p) (signed_at w (residue w (sum_value env p)))
signed-value env w p h =
    let half = 2 ^ (w - 1) in
    let z = signed_at w (residue w (sum_value env p)) in
    cond_both (nat_lt 126 w) _ _ (λ m. Makes env m z) (λ t. tt)
    (λ t. then_some (λ a. sum_value env a ≡ pos half +ℤ sum_value env p) (λ r. sum_value env r ≡ z) (add_number (pos half) p) _ (add_number-value env (pos half) p)
    (λ a e. then_some (λ b. sum_value env b ≡ pos (residue w (sum_value env a))) (λ r. sum_value env r ≡ z) (unsigned w a) _ (unsigned-value env w a)
    (λ b f. subst (λ v. Makes env (add_number (negsuc (half - 1)) b) v)
    (ap (λ v. negsuc (half - 1) +ℤ v) (f ∙ ap (λ v. pos (residue w v)) e) ∙ signed-moved w (sum_value env p) h)
    (add_number-value env (negsuc (half - 1)) b))))
