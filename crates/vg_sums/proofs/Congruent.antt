-- The value of the sum of a term is congruent to the number of the term.
use Rattle.std.proofs.Common.{◌≡◌, ℕ, zero, suc, ◌+◌, ◌-◌, ◌*◌, ◌/◌, ◌%◌, ◌^◌, ◌<◌, ◌≤◌, refl, sym, ap, ◌∙◌, subst, arith, inl, inr, true, false, Bool}
use Rattle.std.specs.Prelude.{ℤ, pos, negsuc, ◌+ℤ◌, ◌*ℤ◌, ◌≤ℤ◌, ◌&&◌, ◌⊎◌, bit_and, bit_or, bit_xor, int_le, int_lt, min, max, nat_eq, nat_le, nat_lt, Option, Some, None, IfSome, if◌then◌else◌}
use Rattle.std.specs.Ordering.{int_eq}
use Rattle.std.specs.Int.Bits.{xor_add_and, and_zero_r}
use Rattle.std.proofs.lemmas.Int.{ints}
use Rattle.std.proofs.Math.IntN.{*ℤ_comm}
use Rattle.std.proofs.lemmas.Bool.{and_parts, cases_lt, cond_both, eqb-true}
use Rattle.std.proofs.lemmas.Nat.{and_mask, mod-mul-add, mod_below, mod_low, pow-add, pow_pos, shr_high, shr_le}
use Rattle.std.proofs.Math.Nat.{mod-eq_of_lt}
use Rattle.vg_base.specs.Trap.{◌>>=◌}
use Rattle.vg_base.specs.Bits.{signed_at}
use Rattle.vg_base.specs.Number.{floor_shift, residue}
use Rattle.vg_base.proofs.LowBits.{above_below, below_wider, pow-le, signed-high, signed-low}
use Rattle.vg_base.proofs.Signed.{residue-add, residue-low, residue-mul, residue-signed, residue_below}
use Rattle.vg_terms.specs.declared.term.OneOp.{OneOp}
use Rattle.vg_terms.specs.declared.term.OneOp.TheVariants.{Zext, Sext, Trunc, Lshr, Ashr}
use Rattle.vg_terms.specs.declared.term.TwoOp.{TwoOp}
use Rattle.vg_terms.specs.declared.term.TwoOp.TheVariants.{Add, Mul, And, Or, Xor, Smin, Smax, Umin, Umax, Eq, Slt, Ult, Cat}
use Rattle.vg_terms.specs.declared.value.Env.{Env}
use Rattle.vg_terms.specs.Known.{digits}
use Rattle.vg_terms.specs.Term.{IsWidth, OneFits, Tree, TwoFits, WellFormed, constant, leaf, one, sel, two, width_of}
use Rattle.vg_terms.specs.Value.{number_at, one_value, two_value, value}
use Rattle.vg_terms.proofs.Signs.{greater_of, lesser_of}
use Rattle.vg_terms.proofs.Soundness.{width_some}
use Rattle.vg_terms.proofs.Values.{two-below, value-below}
use Rattle.vg_sums.specs.declared.kind.Kind.TheVariants.{Leaf, Bitwise}
use Rattle.vg_sums.specs.declared.span.Span.{Span}
use Rattle.vg_sums.specs.Arithmetic.{add, bounded, most_nodes, negated, product, scale, subtract}
use Rattle.vg_sums.specs.Bitwise.{bitwise_value}
use Rattle.vg_sums.specs.Choices.{atom, complement, negative, positive, selected, zero as zero_sum}
use Rattle.vg_sums.specs.Readings.{floored, signed, unsigned}
use Rattle.vg_sums.specs.Spans.{In, greater, lesser, span}
use Rattle.vg_sums.specs.Sums.{Polynomial, nothing, number, plus, size, sum_value, truth}
use Rattle.vg_sums.specs.Terms.{bitwise, both, both_by, by_signed, by_unsigned, choice_sum, greatest, is_equal, is_less, joined_bits, least, masked, masked_by, one_sum, ones, ones_of, read_sum, shows_truth, sum_of, two_sum, unequal, unequal_by}
use Rattle.vg_sums.proofs.Floors.{congruent, floored-value, signed-value, unsigned-value}
use Rattle.vg_sums.proofs.Spans.{span-value}
use Rattle.vg_sums.proofs.Tests.{atom-value, complement-value, negative-value, positive-value, selected-value, zero-value}
use Rattle.vg_sums.proofs.Values.{Makes, add-value, negated-value, product-value, scale-value, subtract-value, sum_times, times_times}
use Rattle.vg_sums.proofs.Whole.{floor-split, map_some, then_some}

-- a step gives a sum that is congruent to a number, if it gives one
abbrev pub IsOf : Env → ℕ → ℕ → Polynomial → Type 0
IsOf env w v p = residue w (sum_value env p) ≡ v

abbrev pub Stands : Env → ℕ → ℕ → Option Polynomial → Type 0
Stands env w v step = IfSome step (IsOf env w v)

-- from the value itself
stands : (env : Env) (w v : ℕ) (step : Option Polynomial) (z : ℤ) → Makes env step z → residue w z ≡ v → Stands env w v step
stands env w v step z h e = map_some (λ p. sum_value env p ≡ z) (IsOf env w v) step h (λ p f. ap (residue w) f ∙ e)

-- a number of w bits is its residue
residue-below : (w n : ℕ) → n < 2 ^ w → residue w (pos n) ≡ n
residue-below w n h = mod-eq_of_lt h

-- ---- operations on one term

one_sum-stands : (env : Env) (op : OneOp) (w k m v : ℕ) (p : Polynomial) → OneFits op w k m → 0 < m → v < 2 ^ m → residue m (sum_value env p) ≡ v → Stands env w (one_value op w k m v) (one_sum op w k m p)
one_sum-stands env Zext w k m v p f s h e =
    let l : m ≤ w = omega (arith, f.0) in
    stands env w v (unsigned m p) (pos (residue m (sum_value env p))) (unsigned-value env m p) (ap (λ n. n % 2 ^ w) e ∙ residue-below w v (below_wider v m w h l))
one_sum-stands env Sext w k m v p f s h e =
    stands env w (one_value Sext w k m v) (signed m p) (signed_at m (residue m (sum_value env p))) (signed-value env m p s) (ap (λ n. residue w (signed_at m n)) e)
one_sum-stands env Trunc w k m v p f s h e =
    let l : w ≤ m = omega (arith, f.0) in
    sym (residue-low m w (sum_value env p) l) ∙ ap (λ n. n % 2 ^ w) e
one_sum-stands env Lshr w k m v p f s h e =
    let l : m ≤ w = omega (arith, f.0) in
    let small : v / 2 ^ k < 2 ^ w = omega (arith, shr_le v k, below_wider v m w h l) in
    then_some (λ a. sum_value env a ≡ pos (residue m (sum_value env p))) (IsOf env w (v / 2 ^ k)) (unsigned m p) (floored k) (unsigned-value env m p)
    (λ a g. stands env w (v / 2 ^ k) (floored k a) (floor_shift (sum_value env a) k) (floored-value env k a)
    (ap (λ z. residue w (floor_shift z k)) g ∙ ap (λ n. residue w (pos (n / 2 ^ k))) e ∙ residue-below w (v / 2 ^ k) small))
one_sum-stands env Ashr w k m v p f s h e =
    then_some (λ a. sum_value env a ≡ signed_at m (residue m (sum_value env p))) (IsOf env w (one_value Ashr w k m v)) (signed m p) (floored k) (signed-value env m p s)
    (λ a g. stands env w (one_value Ashr w k m v) (floored k a) (floor_shift (sum_value env a) k) (floored-value env k a)
    (ap (λ z. residue w (floor_shift z k)) g ∙ ap (λ n. residue w (floor_shift (signed_at m n) k)) e))

-- ---- least, greatest, comparisons

least-number : (a b : ℤ) → b +ℤ negsuc 0 *ℤ greater (b +ℤ negsuc 0 *ℤ a) (pos 0) ≡ lesser a b
least-number a b = grind (arith, ints)

greatest-number : (a b : ℤ) → a +ℤ greater (b +ℤ negsuc 0 *ℤ a) (pos 0) ≡ greater a b
greatest-number a b = grind (arith, ints)

less-number : (a b : ℤ) → truth (int_lt (a +ℤ negsuc 0 *ℤ b) (pos 0)) ≡ truth (int_lt a b)
less-number a b = grind (arith, ints)

equal-number : (a b : ℕ) → truth (int_eq (pos a +ℤ negsuc 0 *ℤ pos b) (pos 0)) ≡ truth (nat_eq a b)
equal-number a b = grind (arith, ints)

least-value : (env : Env) (p q : Polynomial) → Makes env (least p q) (lesser (sum_value env p) (sum_value env q))
least-value env p q =
    let a = sum_value env p in
    let b = sum_value env q in
    let d = b +ℤ negsuc 0 *ℤ a in
    then_some (λ x. sum_value env x ≡ d) (λ r. sum_value env r ≡ lesser a b) (subtract q p) _ (subtract-value env q p)
    (λ x e. then_some (λ y. sum_value env y ≡ greater (sum_value env x) (pos 0)) (λ r. sum_value env r ≡ lesser a b) (positive x) _ (positive-value env x)
    (λ y f. subst (λ v. Makes env (subtract q y) v) (ap (λ v. b +ℤ negsuc 0 *ℤ v) (f ∙ ap (λ v. greater v (pos 0)) e) ∙ least-number a b) (subtract-value env q y)))

greatest-value : (env : Env) (p q : Polynomial) → Makes env (greatest p q) (greater (sum_value env p) (sum_value env q))
greatest-value env p q =
    let a = sum_value env p in
    let b = sum_value env q in
    let d = b +ℤ negsuc 0 *ℤ a in
    then_some (λ x. sum_value env x ≡ d) (λ r. sum_value env r ≡ greater a b) (subtract q p) _ (subtract-value env q p)
    (λ x e. then_some (λ y. sum_value env y ≡ greater (sum_value env x) (pos 0)) (λ r. sum_value env r ≡ greater a b) (positive x) _ (positive-value env x)
    (λ y f. subst (λ v. Makes env (add p y) v) (ap (λ v. a +ℤ v) (f ∙ ap (λ v. greater v (pos 0)) e) ∙ greatest-number a b) (add-value env p y)))

is_less-value : (env : Env) (p q : Polynomial) → Makes env (is_less p q) (truth (int_lt (sum_value env p) (sum_value env q)))
is_less-value env p q =
    let a = sum_value env p in
    let b = sum_value env q in
    then_some (λ x. sum_value env x ≡ a +ℤ negsuc 0 *ℤ b) (λ r. sum_value env r ≡ truth (int_lt a b)) (subtract p q) negative (subtract-value env p q)
    (λ x e. subst (λ v. Makes env (negative x) v) (ap (λ v. truth (int_lt v (pos 0))) e ∙ less-number a b) (negative-value env x))

is_equal-value : (env : Env) (p q : Polynomial) → Makes env (is_equal p q) (truth (int_eq (sum_value env p +ℤ negsuc 0 *ℤ sum_value env q) (pos 0)))
is_equal-value env p q =
    let d = sum_value env p +ℤ negsuc 0 *ℤ sum_value env q in
    then_some (λ x. sum_value env x ≡ d) (λ r. sum_value env r ≡ truth (int_eq d (pos 0))) (subtract p q) zero_sum (subtract-value env p q)
    (λ x e. subst (λ v. Makes env (zero_sum x) v) (ap (λ v. truth (int_eq v (pos 0))) e) (zero-value env x))

-- an operation on two sums with the values of the terms, read unsigned or signed
by_unsigned-stands : (env : Env) (op : TwoOp) (w n v a b : ℕ) (p q : Polynomial) → residue n (sum_value env p) ≡ a → residue n (sum_value env q) ≡ b
    → ((x y : Polynomial) → sum_value env x ≡ pos a → sum_value env y ≡ pos b → Stands env w v (read_sum op x y)) → Stands env w v (by_unsigned op n p q)
by_unsigned-stands env op w n v a b p q e f go =
    then_some (λ x. sum_value env x ≡ pos (residue n (sum_value env p))) (IsOf env w v) (unsigned n p) _ (unsigned-value env n p)
    (λ x g. then_some (λ y. sum_value env y ≡ pos (residue n (sum_value env q))) (IsOf env w v) (unsigned n q) _ (unsigned-value env n q)
    (λ y h. go x y (g ∙ ap pos e) (h ∙ ap pos f)))

by_signed-stands : (env : Env) (op : TwoOp) (w n v a b : ℕ) (p q : Polynomial) → 0 < n → residue n (sum_value env p) ≡ a → residue n (sum_value env q) ≡ b
    → ((x y : Polynomial) → sum_value env x ≡ signed_at n a → sum_value env y ≡ signed_at n b → Stands env w v (read_sum op x y)) → Stands env w v (by_signed op n p q)
by_signed-stands env op w n v a b p q s e f go =
    then_some (λ x. sum_value env x ≡ signed_at n (residue n (sum_value env p))) (IsOf env w v) (signed n p) _ (signed-value env n p s)
    (λ x g. then_some (λ y. sum_value env y ≡ signed_at n (residue n (sum_value env q))) (IsOf env w v) (signed n q) _ (signed-value env n q s)
    (λ y h. go x y (g ∙ ap (signed_at n) e) (h ∙ ap (signed_at n) f)))

-- ---- residues of what is read

either-residue : (w : ℕ) (t : Bool) (x y : ℤ) (a b : ℕ) → residue w x ≡ a → residue w y ≡ b → residue w (if t then x else y) ≡ (if t then a else b)
either-residue w true x y a b e f = e
either-residue w false x y a b e f = f

truth-residue : (w : ℕ) (t : Bool) → w ≡ 1 → residue w (truth t) ≡ (if t then 1 else 0)
truth-residue w true e = subst (λ v. residue v (pos 1) ≡ 1) (sym e) refl
truth-residue w false e = subst (λ v. residue v (pos 0) ≡ 0) (sym e) refl

-- ---- bits

-- the atom of two numbers side by side
side_by_side : (op : TwoOp) (w a b z : ℕ) → a < 2 ^ w → b < 2 ^ w → two_value op w w a b < 2 ^ w → z ≡ a * 2 ^ w + b → bitwise_value op w (pos z) ≡ pos (two_value op w w a b)
side_by_side op w a b z p q l e =
    ap (λ n. pos (two_value op w w (n / 2 ^ w) (n % 2 ^ w) % 2 ^ w)) e ∙ ap (λ n. pos (two_value op w w n ((a * 2 ^ w + b) % 2 ^ w) % 2 ^ w)) (shr_high a w b q)
    ∙ ap (λ n. pos (two_value op w w a n % 2 ^ w)) (mod_low a w b q) ∙ ap pos (mod-eq_of_lt l)

bitwise-stands : (env : Env) (op : TwoOp) (w a b : ℕ) (p q : Polynomial) → TwoFits op w w w → residue w (sum_value env p) ≡ a → residue w (sum_value env q) ≡ b → Stands env w (two_value op w w a b) (bitwise op w p q)
bitwise-stands env op w a b p q fits e f =
    let v = two_value op w w a b in
    let la : a < 2 ^ w = subst (λ n. n < 2 ^ w) e (residue_below w (sum_value env p)) in
    let lb : b < 2 ^ w = subst (λ n. n < 2 ^ w) f (residue_below w (sum_value env q)) in
    let lv : v < 2 ^ w = two-below op w w w a b fits la lb in
    cond_both (nat_lt 126 w) _ _ (λ m. Stands env w v m) (λ t. tt)
    (λ t. then_some (λ x. sum_value env x ≡ pos (residue w (sum_value env p))) (IsOf env w v) (unsigned w p) _ (unsigned-value env w p)
    (λ x g. then_some (λ y. sum_value env y ≡ pos (residue w (sum_value env q))) (IsOf env w v) (unsigned w q) _ (unsigned-value env w q)
    (λ y h. then_some (λ c. sum_value env c ≡ pos (2 ^ w) *ℤ sum_value env x) (IsOf env w v) (scale (pos (2 ^ w)) x) _ (scale-value env (pos (2 ^ w)) x)
    (λ c i. then_some (λ d. sum_value env d ≡ sum_value env c +ℤ sum_value env y) (IsOf env w v) (add c y) _ (add-value env c y)
    (λ d j. let whole : sum_value env d ≡ pos (2 ^ w * a + b) =
    j ∙ ap (λ z. z +ℤ sum_value env y) (i ∙ ap (λ z. pos (2 ^ w) *ℤ z) (g ∙ ap pos e)) ∙ ap (λ z. pos (2 ^ w * a) +ℤ z) (h ∙ ap pos f) in
    ap (residue w) (atom-value env (Bitwise op w) d ∙ ap (bitwise_value op w) whole ∙ side_by_side op w a b (2 ^ w * a + b) la lb lv (omega arith))
    ∙ residue-below w v lv)))))

-- a constant of w bits that has all of its bits
ones-means : (v : ℕ) → IfSome (ones v) (λ k. v ≡ 2 ^ k - 1)
ones-means v =
    cond_both (nat_lt 0 v && nat_eq v (2 ^ digits v - 1)) _ _ (λ m. IfSome m (λ k. v ≡ 2 ^ k - 1))
    (λ t. eqb-true v (2 ^ digits v - 1) (and_parts (nat_lt 0 v) (nat_eq v (2 ^ digits v - 1)) t).1) (λ t. tt)

ones_of-means : (env : Env) (w : ℕ) (q : Polynomial) → IfSome (ones_of w q) (λ k. residue w (sum_value env q) ≡ 2 ^ k - 1)
ones_of-means env w (number z) = ones-means (residue w z)
ones_of-means env w (plus k i f r) = tt

-- it has no more bits than w
ones-fit : (w k : ℕ) → 2 ^ k - 1 < 2 ^ w → k ≤ w
ones-fit w k h =
    elim (cases_lt w k) [
      | inl l ↦ absurd (let more : 2 ^ (w + 1) ≤ 2 ^ k = pow-le (w + 1) k (omega arith) in
          let twice : 2 ^ (w + 1) ≡ 2 ^ w * 2 ^ 1 = pow-add 2 w 1 in
          omega (arith, pow_pos w, more, twice, h))
      | inr g ↦ g
    ]

masked-low : (env : Env) (w k a b : ℕ) (p : Polynomial) → residue w (sum_value env p) ≡ a → b < 2 ^ w → b ≡ 2 ^ k - 1 → Stands env w (bit_and a b) (unsigned k p)
masked-low env w k a b p e l f =
    let fits : k ≤ w = ones-fit w k (subst (λ n. n < 2 ^ w) f l) in
    let low : residue k (sum_value env p) ≡ a % 2 ^ k = sym (residue-low w k (sum_value env p) fits) ∙ ap (λ n. n % 2 ^ k) e in
    let same : a % 2 ^ k ≡ bit_and a b = sym (ap (bit_and a) f ∙ and_mask a k) in
    stands env w (bit_and a b) (unsigned k p) (pos (residue k (sum_value env p))) (unsigned-value env k p)
    (residue-below w (residue k (sum_value env p)) (below_wider (residue k (sum_value env p)) k w (residue_below k (sum_value env p)) fits) ∙ low ∙ same)

-- ---- selections of all bits or none

-- the negative of a signed number is 0 or 1: the number has none or all of its bits
none_or_all : (w b : ℕ) (n : ℤ) → b < 2 ^ w → n ≡ negsuc 0 *ℤ signed_at w b → pos 0 ≤ℤ n → n ≤ℤ pos 1
    → ((n ≡ pos 0) × (b ≡ 0)) ⊎ ((n ≡ pos 1) × (b ≡ 2 ^ w - 1))
none_or_all w b n l e p q =
    elim (cases_lt b (2 ^ (w - 1))) [
      | inl h ↦ (let s : n ≡ negsuc 0 *ℤ pos b = e ∙ ap (λ z. negsuc 0 *ℤ z) (signed-low w b h) in
          let z : b ≡ 0 = omega (arith, ints) in
          inl (s ∙ ap (λ m. negsuc 0 *ℤ pos m) z, z))
      | inr h ↦ (let s : n ≡ negsuc 0 *ℤ negsuc (2 ^ w - 1 - b) = e ∙ ap (λ z. negsuc 0 *ℤ z) (signed-high w b h) in
          let z : 2 ^ w - 1 - b ≡ 0 = omega (arith, ints) in
          inr (s ∙ ap (λ m. negsuc 0 *ℤ negsuc m) z, omega arith))
    ]

truth-means : (m : Option Span) (z : ℤ) → IfSome m (λ s. In s z) → shows_truth m ≡ true → (pos 0 ≤ℤ z) × (z ≤ℤ pos 1)
truth-means (Some s) z h t =
    let both = and_parts (int_le (pos 0) s.least) (int_le s.greatest (pos 1)) t in
    let low : pos 0 ≤ℤ s.least = le_from (pos 0) s.least both.0 in
    let high : s.greatest ≤ℤ pos 1 = le_from s.greatest (pos 1) both.1 in
    (omega (arith, ints, h.above, low), omega (arith, ints, h.below, high))
  where
    le_from : (a b : ℤ) → int_le a b ≡ true → a ≤ℤ b
    le_from a b e = grind (arith, ints)
truth-means None z h t = absurd (cc)

-- once and never a number that is congruent to a
chosen : (w a b : ℕ) (n x : ℤ) → residue w x ≡ a → ((n ≡ pos 0) × (b ≡ 0)) ⊎ ((n ≡ pos 1) × (b ≡ 2 ^ w - 1)) → residue w (n *ℤ x) ≡ bit_and a b
chosen w a b n x e (inl h) =
    let none : pos 0 *ℤ x ≡ pos 0 = omega (arith, ints) in
    ap (λ z. residue w (z *ℤ x)) h.0 ∙ ap (residue w) none ∙ residue-below w 0 (pow_pos w) ∙ sym (ap (bit_and a) h.1 ∙ and_zero_r a)
chosen w a b n x e (inr h) =
    let once : pos 1 *ℤ x ≡ x = omega (arith, ints) in
    let below : a < 2 ^ w = subst (λ m. m < 2 ^ w) e (residue_below w x) in
    ap (λ z. residue w (z *ℤ x)) h.0 ∙ ap (residue w) once ∙ e ∙ sym (ap (bit_and a) h.1 ∙ and_mask a w ∙ mod-eq_of_lt below)

masked-stands : (env : Env) (w a b : ℕ) (p q : Polynomial) → 0 < w → residue w (sum_value env p) ≡ a → residue w (sum_value env q) ≡ b → Stands env w (bit_and a b) (masked w p q)
masked-stands env w a b p q s e f =
    let lb : b < 2 ^ w = subst (λ n. n < 2 ^ w) f (residue_below w (sum_value env q)) in
    then_some (λ m. sum_value env m ≡ signed_at w (residue w (sum_value env q))) (IsOf env w (bit_and a b)) (signed w q) _ (signed-value env w q s)
    (λ m g. then_some (λ n. sum_value env n ≡ negsuc 0 *ℤ sum_value env m) (IsOf env w (bit_and a b)) (negated m) _ (negated-value env m)
    (λ n h. cond_both (shows_truth (span n)) _ _ (λ r. Stands env w (bit_and a b) r)
    (λ t. let shown = truth-means (span n) (sum_value env n) (span-value env n) t in
    stands env w (bit_and a b) (product n p) (sum_value env n *ℤ sum_value env p) (product-value env n p)
    (chosen w a b (sum_value env n) (sum_value env p) e (none_or_all w b (sum_value env n) lb (h ∙ ap (λ z. negsuc 0 *ℤ z) (g ∙ ap (signed_at w) f)) shown.0 shown.1)))
    (λ t. bitwise-stands env And w a b p q (refl, refl) e f)))

both_by-stands : (env : Env) (m : Option ℕ) (w a b : ℕ) (p q : Polynomial) → 0 < w → residue w (sum_value env p) ≡ a → residue w (sum_value env q) ≡ b → IfSome m (λ k. b ≡ 2 ^ k - 1) → Stands env w (bit_and a b) (both_by m w p q)
both_by-stands env (Some k) w a b p q s e f h = masked-low env w k a b p e (subst (λ n. n < 2 ^ w) f (residue_below w (sum_value env q))) h
both_by-stands env None w a b p q s e f h = masked-stands env w a b p q s e f

both-stands : (env : Env) (w a b : ℕ) (p q : Polynomial) → 0 < w → residue w (sum_value env p) ≡ a → residue w (sum_value env q) ≡ b → Stands env w (bit_and a b) (both w p q)
both-stands env w a b p q s e f =
    both_by-stands env (ones_of w q) w a b p q s e f (map_some (λ k. residue w (sum_value env q) ≡ 2 ^ k - 1) (λ k. b ≡ 2 ^ k - 1) (ones_of w q) (ones_of-means env w q) (λ k h. sym f ∙ h))

-- -1 less a number has the other bits
other-residue : (w : ℕ) (z : ℤ) → residue w (negsuc 0 +ℤ negsuc 0 *ℤ z) ≡ 2 ^ w - 1 - residue w z
other-residue w (pos n) =
    let e : negsuc 0 +ℤ negsuc 0 *ℤ pos n ≡ negsuc n = omega (arith, ints) in
    ap (residue w) e
other-residue w (negsuc n) =
    let e : negsuc 0 +ℤ negsuc 0 *ℤ negsuc n ≡ pos n = omega (arith, ints) in
    ap (residue w) e ∙ omega (arith, mod_below n (2 ^ w) (pow_pos w))

other-bits : (w a : ℕ) → a < 2 ^ w → bit_xor a (2 ^ w - 1) ≡ 2 ^ w - 1 - a
other-bits w a h =
    let all : bit_and a (2 ^ w - 1) ≡ a = and_mask a w ∙ mod-eq_of_lt h in
    omega (arith, xor_add_and a (2 ^ w - 1), all)

unequal_by-stands : (env : Env) (m : Option ℕ) (w a b : ℕ) (p q : Polynomial) → residue w (sum_value env p) ≡ a → residue w (sum_value env q) ≡ b → IfSome m (λ k. b ≡ 2 ^ k - 1) → Stands env w (bit_xor a b) (unequal_by m w p q)
unequal_by-stands env (Some k) w a b p q e f h =
    cond_both (nat_eq k w) _ _ (λ r. Stands env w (bit_xor a b) r)
    (λ t. let all : b ≡ 2 ^ w - 1 = h ∙ ap (λ n. 2 ^ n - 1) (eqb-true k w t) in
    let below : a < 2 ^ w = subst (λ n. n < 2 ^ w) e (residue_below w (sum_value env p)) in
    stands env w (bit_xor a b) (complement p) (negsuc 0 +ℤ negsuc 0 *ℤ sum_value env p) (complement-value env p)
    (other-residue w (sum_value env p) ∙ ap (λ n. 2 ^ w - 1 - n) e ∙ sym (ap (bit_xor a) all ∙ other-bits w a below)))
    (λ t. bitwise-stands env Xor w a b p q (refl, refl) e f)
unequal_by-stands env None w a b p q e f h = bitwise-stands env Xor w a b p q (refl, refl) e f

unequal-stands : (env : Env) (w a b : ℕ) (p q : Polynomial) → residue w (sum_value env p) ≡ a → residue w (sum_value env q) ≡ b → Stands env w (bit_xor a b) (unequal w p q)
unequal-stands env w a b p q e f =
    unequal_by-stands env (ones_of w q) w a b p q e f (map_some (λ k. residue w (sum_value env q) ≡ 2 ^ k - 1) (λ k. b ≡ 2 ^ k - 1) (ones_of w q) (ones_of-means env w q) (λ k h. sym f ∙ h))

-- ---- two numbers side by side

whole_none : (n : ℕ) → 0 < n → n % n ≡ 0
whole_none n h =
    let e : n ≡ 1 * n + 0 = omega arith in
    ap (λ v. v % n) e ∙ mod-mul-add 1 n 0 h

-- multiples of 2 ^ w do not count
residue-multiple : (w r : ℕ) (f : ℤ) → r < 2 ^ w → residue w (f *ℤ pos (2 ^ w) +ℤ pos r) ≡ r
residue-multiple w r f h =
    residue-add w (f *ℤ pos (2 ^ w)) (pos r) ∙ ap (λ n. (n + r % 2 ^ w) % 2 ^ w) (residue-mul w f (pos (2 ^ w)) ∙ ap (λ n. (residue w f * n) % 2 ^ w) (whole_none (2 ^ w) (pow_pos w)) ∙ gone (residue w f))
    ∙ ap (λ n. n % 2 ^ w) (omega (arith, mod-eq_of_lt h)) ∙ mod-eq_of_lt h
  where
    gone : (x : ℕ) → (x * 0) % 2 ^ w ≡ 0
    gone x = ap (λ n. n % 2 ^ w) (omega arith) ∙ mod-eq_of_lt (pow_pos w)

residue-pair : (m n a b : ℕ) (z : ℤ) → residue m z ≡ a → b < 2 ^ n → residue (m + n) (pos (2 ^ n) *ℤ z +ℤ pos b) ≡ a * 2 ^ n + b
residue-pair m n a b z e l =
    let f = floor_shift z m in
    let la : a < 2 ^ m = subst (λ v. v < 2 ^ m) e (residue_below m z) in
    let split : f *ℤ pos (2 ^ m) +ℤ pos a ≡ z = ap (λ v. f *ℤ pos (2 ^ m) +ℤ pos v) (sym e) ∙ floor-split z m in
    let whole : 2 ^ m * 2 ^ n ≡ 2 ^ (m + n) = sym (pow-add 2 m n) in
    let flat : pos (2 ^ n) *ℤ z +ℤ pos b ≡ f *ℤ pos (2 ^ (m + n)) +ℤ pos (a * 2 ^ n + b) =
    ap (λ v. pos (2 ^ n) *ℤ v +ℤ pos b) (sym split) ∙ ap (λ v. v +ℤ pos b) (*ℤ_comm (pos (2 ^ n)) (f *ℤ pos (2 ^ m) +ℤ pos a) ∙ sum_times (f *ℤ pos (2 ^ m)) (pos a) (pos (2 ^ n)) ∙ ap (λ v. v +ℤ pos (a * 2 ^ n)) (times_times f (pos (2 ^ m)) (pos (2 ^ n)) ∙ ap (λ v. f *ℤ pos v) whole))
    ∙ regroup (f *ℤ pos (2 ^ (m + n))) (a * 2 ^ n) b in
    ap (residue (m + n)) flat ∙ residue-multiple (m + n) (a * 2 ^ n + b) f (above_below a b m n la l)
  where
    regroup : (x : ℤ) (y t : ℕ) → (x +ℤ pos y) +ℤ pos t ≡ x +ℤ pos (y + t)
    regroup x y t = omega (arith, ints)

joined_bits-stands : (env : Env) (m n a b : ℕ) (p q : Polynomial) → residue m (sum_value env p) ≡ a → residue n (sum_value env q) ≡ b → Stands env (m + n) (a * 2 ^ n + b) (joined_bits n p q)
joined_bits-stands env m n a b p q e f =
    let v = a * 2 ^ n + b in
    let lb : b < 2 ^ n = subst (λ x. x < 2 ^ n) f (residue_below n (sum_value env q)) in
    cond_both (nat_lt 126 n) _ _ (λ r. Stands env (m + n) v r) (λ t. tt)
    (λ t. then_some (λ y. sum_value env y ≡ pos (residue n (sum_value env q))) (IsOf env (m + n) v) (unsigned n q) _ (unsigned-value env n q)
    (λ y g. then_some (λ x. sum_value env x ≡ pos (2 ^ n) *ℤ sum_value env p) (IsOf env (m + n) v) (scale (pos (2 ^ n)) p) _ (scale-value env (pos (2 ^ n)) p)
    (λ x h. stands env (m + n) v (add x y) (sum_value env x +ℤ sum_value env y) (add-value env x y)
    (ap (λ z. residue (m + n) (z +ℤ sum_value env y)) h ∙ ap (λ z. residue (m + n) (pos (2 ^ n) *ℤ sum_value env p +ℤ z)) (g ∙ ap pos f) ∙ residue-pair m n a b (sum_value env p) e lb))))

-- ---- operations on two terms

-- from values read unsigned at the width of the operation
unsigned-either : (env : Env) (w a b : ℕ) (step : Option Polynomial) (x y z : ℤ) (t : Bool) → Makes env step z → a < 2 ^ w → b < 2 ^ w → x ≡ pos a → y ≡ pos b
    → z ≡ (if t then x else y) → Stands env w (if t then a else b) step
unsigned-either env w a b step x y z t h p q e f g =
    stands env w (if t then a else b) step z h
    (ap (residue w) g ∙ either-residue w t x y a b (ap (residue w) e ∙ residue-below w a p) (ap (residue w) f ∙ residue-below w b q))

signed-either : (env : Env) (w a b : ℕ) (step : Option Polynomial) (x y z : ℤ) (t : Bool) → Makes env step z → a < 2 ^ w → b < 2 ^ w → x ≡ signed_at w a → y ≡ signed_at w b
    → z ≡ (if t then x else y) → Stands env w (if t then a else b) step
signed-either env w a b step x y z t h p q e f g =
    stands env w (if t then a else b) step z h
    (ap (residue w) g ∙ either-residue w t x y a b (ap (residue w) e ∙ residue-signed w a p) (ap (residue w) f ∙ residue-signed w b q))

-- a comparison, of width 1
abbrev IsComparison : TwoOp → Type 0
IsComparison Eq = Unit {0}
IsComparison Slt = Unit {0}
IsComparison Ult = Unit {0}
IsComparison _ = ⊥

compared-stands : (env : Env) (op : TwoOp) (w n a b : ℕ) (p q : Polynomial) → IsComparison op → w ≡ 1 → 0 < n → residue n (sum_value env p) ≡ a → residue n (sum_value env q) ≡ b → Stands env w (two_value op w n a b) (two_sum op w n p q)
compared-stands env Eq w n a b p q t o s e f =
    by_unsigned-stands env Eq w n (two_value Eq w n a b) a b p q e f
    (λ x y g h. stands env w (two_value Eq w n a b) (is_equal x y) (truth (nat_eq a b))
    (subst (λ v. Makes env (is_equal x y) v) (ap (λ v. truth (int_eq (v +ℤ negsuc 0 *ℤ sum_value env y) (pos 0))) g ∙ ap (λ v. truth (int_eq (pos a +ℤ negsuc 0 *ℤ v) (pos 0))) h ∙ equal-number a b) (is_equal-value env x y))
    (truth-residue w (nat_eq a b) o))
compared-stands env Slt w n a b p q t o s e f =
    by_signed-stands env Slt w n (two_value Slt w n a b) a b p q s e f
    (λ x y g h. stands env w (two_value Slt w n a b) (is_less x y) (truth (int_lt (signed_at n a) (signed_at n b)))
    (subst (λ v. Makes env (is_less x y) v) (ap (λ v. truth (int_lt v (sum_value env y))) g ∙ ap (λ v. truth (int_lt (signed_at n a) v)) h) (is_less-value env x y))
    (truth-residue w (int_lt (signed_at n a) (signed_at n b)) o))
compared-stands env Ult w n a b p q t o s e f =
    by_unsigned-stands env Ult w n (two_value Ult w n a b) a b p q e f
    (λ x y g h. stands env w (two_value Ult w n a b) (is_less x y) (truth (nat_lt a b))
    (subst (λ v. Makes env (is_less x y) v) (ap (λ v. truth (int_lt v (sum_value env y))) g ∙ ap (λ v. truth (int_lt (pos a) v)) h) (is_less-value env x y))
    (truth-residue w (nat_lt a b) o))
compared-stands env Add w n a b p q t o s e f = absurd t
compared-stands env Mul w n a b p q t o s e f = absurd t
compared-stands env And w n a b p q t o s e f = absurd t
compared-stands env Or w n a b p q t o s e f = absurd t
compared-stands env Xor w n a b p q t o s e f = absurd t
compared-stands env Smin w n a b p q t o s e f = absurd t
compared-stands env Smax w n a b p q t o s e f = absurd t
compared-stands env Umin w n a b p q t o s e f = absurd t
compared-stands env Umax w n a b p q t o s e f = absurd t
compared-stands env Cat w n a b p q t o s e f = absurd t

-- operations of width w on terms of width w
same_width-stands : (env : Env) (op : TwoOp) (w a b : ℕ) (p q : Polynomial) → TwoFits op w w w → 0 < w → residue w (sum_value env p) ≡ a → residue w (sum_value env q) ≡ b → Stands env w (two_value op w w a b) (two_sum op w w p q)
same_width-stands env Add w a b p q fits s e f =
    stands env w ((a + b) % 2 ^ w) (add p q) (sum_value env p +ℤ sum_value env q) (add-value env p q)
    (residue-add w (sum_value env p) (sum_value env q) ∙ ap (λ n. (n + residue w (sum_value env q)) % 2 ^ w) e ∙ ap (λ n. (a + n) % 2 ^ w) f)
same_width-stands env Mul w a b p q fits s e f =
    stands env w ((a * b) % 2 ^ w) (product p q) (sum_value env p *ℤ sum_value env q) (product-value env p q)
    (residue-mul w (sum_value env p) (sum_value env q) ∙ ap (λ n. (n * residue w (sum_value env q)) % 2 ^ w) e ∙ ap (λ n. (a * n) % 2 ^ w) f)
same_width-stands env And w a b p q fits s e f = both-stands env w a b p q s e f
same_width-stands env Or w a b p q fits s e f = bitwise-stands env Or w a b p q (refl, refl) e f
same_width-stands env Xor w a b p q fits s e f = unequal-stands env w a b p q e f
same_width-stands env Smin w a b p q fits s e f =
    let la : a < 2 ^ w = subst (λ n. n < 2 ^ w) e (residue_below w (sum_value env p)) in
    let lb : b < 2 ^ w = subst (λ n. n < 2 ^ w) f (residue_below w (sum_value env q)) in
    by_signed-stands env Smin w w (two_value Smin w w a b) a b p q s e f
    (λ x y g h. signed-either env w a b (least x y) (signed_at w a) (signed_at w b) (lesser (signed_at w a) (signed_at w b)) (int_lt (signed_at w a) (signed_at w b))
    (subst (λ v. Makes env (least x y) v) (ap (λ v. lesser v (sum_value env y)) g ∙ ap (lesser (signed_at w a)) h) (least-value env x y)) la lb refl refl refl)
same_width-stands env Smax w a b p q fits s e f =
    let la : a < 2 ^ w = subst (λ n. n < 2 ^ w) e (residue_below w (sum_value env p)) in
    let lb : b < 2 ^ w = subst (λ n. n < 2 ^ w) f (residue_below w (sum_value env q)) in
    by_signed-stands env Smax w w (two_value Smax w w a b) a b p q s e f
    (λ x y g h. signed-either env w b a (greatest x y) (signed_at w b) (signed_at w a) (greater (signed_at w a) (signed_at w b)) (int_lt (signed_at w a) (signed_at w b))
    (subst (λ v. Makes env (greatest x y) v) (ap (λ v. greater v (sum_value env y)) g ∙ ap (greater (signed_at w a)) h) (greatest-value env x y)) lb la refl refl refl)
same_width-stands env Umin w a b p q fits s e f =
    let la : a < 2 ^ w = subst (λ n. n < 2 ^ w) e (residue_below w (sum_value env p)) in
    let lb : b < 2 ^ w = subst (λ n. n < 2 ^ w) f (residue_below w (sum_value env q)) in
    by_unsigned-stands env Umin w w (min a b) a b p q e f
    (λ x y g h. subst (λ v. Stands env w v (least x y)) (sym (lesser_of a b))
    (unsigned-either env w a b (least x y) (pos a) (pos b) (lesser (pos a) (pos b)) (nat_lt a b)
    (subst (λ v. Makes env (least x y) v) (ap (λ v. lesser v (sum_value env y)) g ∙ ap (lesser (pos a)) h) (least-value env x y)) la lb refl refl refl))
same_width-stands env Umax w a b p q fits s e f =
    let la : a < 2 ^ w = subst (λ n. n < 2 ^ w) e (residue_below w (sum_value env p)) in
    let lb : b < 2 ^ w = subst (λ n. n < 2 ^ w) f (residue_below w (sum_value env q)) in
    by_unsigned-stands env Umax w w (max a b) a b p q e f
    (λ x y g h. subst (λ v. Stands env w v (greatest x y)) (sym (greater_of a b))
    (unsigned-either env w b a (greatest x y) (pos b) (pos a) (greater (pos a) (pos b)) (nat_lt a b)
    (subst (λ v. Makes env (greatest x y) v) (ap (λ v. greater v (sum_value env y)) g ∙ ap (greater (pos a)) h) (greatest-value env x y)) lb la refl refl refl))
same_width-stands env Eq w a b p q fits s e f = compared-stands env Eq w w a b p q tt fits.0 s e f
same_width-stands env Slt w a b p q fits s e f = compared-stands env Slt w w a b p q tt fits.0 s e f
same_width-stands env Ult w a b p q fits s e f = compared-stands env Ult w w a b p q tt fits.0 s e f
same_width-stands env Cat w a b p q fits s e f =
    absurd (omega (arith, fits, s))

-- an operation that keeps the width
kept-stands : (env : Env) (op : TwoOp) (w m n a b : ℕ) (p q : Polynomial) → TwoFits op w w w → m ≡ w → n ≡ w → 0 < w → residue m (sum_value env p) ≡ a → residue n (sum_value env q) ≡ b → Stands env w (two_value op w n a b) (two_sum op w n p q)
kept-stands env op w m n a b p q fits e f s g h =
    subst (λ v. Stands env w (two_value op w v a b) (two_sum op w v p q)) (sym f)
    (same_width-stands env op w a b p q fits s (subst (λ v. residue v (sum_value env p) ≡ a) e g) (subst (λ v. residue v (sum_value env q) ≡ b) f h))

two_sum-stands : (env : Env) (op : TwoOp) (w m n a b : ℕ) (p q : Polynomial) → TwoFits op w m n → 0 < w → 0 < n → residue m (sum_value env p) ≡ a → residue n (sum_value env q) ≡ b → Stands env w (two_value op w n a b) (two_sum op w n p q)
two_sum-stands env Eq w m n a b p q fits s r e f = compared-stands env Eq w n a b p q tt fits.0 r (subst (λ v. residue v (sum_value env p) ≡ a) fits.1 e) f
two_sum-stands env Slt w m n a b p q fits s r e f = compared-stands env Slt w n a b p q tt fits.0 r (subst (λ v. residue v (sum_value env p) ≡ a) fits.1 e) f
two_sum-stands env Ult w m n a b p q fits s r e f = compared-stands env Ult w n a b p q tt fits.0 r (subst (λ v. residue v (sum_value env p) ≡ a) fits.1 e) f
two_sum-stands env Cat w m n a b p q fits s r e f = subst (λ v. Stands env v (a * 2 ^ n + b) (joined_bits n p q)) (sym fits) (joined_bits-stands env m n a b p q e f)
two_sum-stands env Add w m n a b p q fits s r e f = kept-stands env Add w m n a b p q (refl, refl) fits.0 fits.1 s e f
two_sum-stands env Mul w m n a b p q fits s r e f = kept-stands env Mul w m n a b p q (refl, refl) fits.0 fits.1 s e f
two_sum-stands env And w m n a b p q fits s r e f = kept-stands env And w m n a b p q (refl, refl) fits.0 fits.1 s e f
two_sum-stands env Or w m n a b p q fits s r e f = kept-stands env Or w m n a b p q (refl, refl) fits.0 fits.1 s e f
two_sum-stands env Xor w m n a b p q fits s r e f = kept-stands env Xor w m n a b p q (refl, refl) fits.0 fits.1 s e f
two_sum-stands env Smin w m n a b p q fits s r e f = kept-stands env Smin w m n a b p q (refl, refl) fits.0 fits.1 s e f
two_sum-stands env Smax w m n a b p q fits s r e f = kept-stands env Smax w m n a b p q (refl, refl) fits.0 fits.1 s e f
two_sum-stands env Umin w m n a b p q fits s r e f = kept-stands env Umin w m n a b p q (refl, refl) fits.0 fits.1 s e f
two_sum-stands env Umax w m n a b p q fits s r e f = kept-stands env Umax w m n a b p q (refl, refl) fits.0 fits.1 s e f

-- ---- selections

by_bit : (b : ℕ) (x y : ℤ) → b < 2 → y +ℤ pos b *ℤ (x +ℤ negsuc 0 *ℤ y) ≡ (if nat_eq b 1 then x else y)
by_bit zero x y h = omega (arith, ints)
by_bit (suc zero) x y h = omega (arith, ints)
by_bit (suc (suc n)) x y h = absurd (omega arith)

choice_sum-stands : (env : Env) (w b x y : ℕ) (c p q : Polynomial) → residue 1 (sum_value env c) ≡ b → residue w (sum_value env p) ≡ x → residue w (sum_value env q) ≡ y → Stands env w (if nat_eq b 1 then x else y) (choice_sum c p q)
choice_sum-stands env w b x y c p q e f g =
    let v = if nat_eq b 1 then x else y in
    let small : b < 2 = subst (λ n. n < 2) e (residue_below 1 (sum_value env c)) in
    then_some (λ d. sum_value env d ≡ pos (residue 1 (sum_value env c))) (IsOf env w v) (unsigned 1 c) _ (unsigned-value env 1 c)
    (λ d h. stands env w v (selected d p q) (sum_value env q +ℤ sum_value env d *ℤ (sum_value env p +ℤ negsuc 0 *ℤ sum_value env q)) (selected-value env d p q)
    (ap (λ z. residue w (sum_value env q +ℤ z *ℤ (sum_value env p +ℤ negsuc 0 *ℤ sum_value env q))) (h ∙ ap pos e) ∙ ap (residue w) (by_bit b (sum_value env p) (sum_value env q) small)
    ∙ either-residue w (nat_eq b 1) (sum_value env p) (sum_value env q) x y f g))

-- ---- terms

bounded-stands : (env : Env) (w v : ℕ) (p : Polynomial) → IsOf env w v p → Stands env w v (bounded p)
bounded-stands env w v p h = cond_both (nat_le (size p) most_nodes) _ _ (λ m. Stands env w v m) (λ t. h) (λ t. tt)

pub sum_of-stands : (env : Env) (t : Tree) → WellFormed t → Stands env (width_of t) (value env t) (sum_of t)
sum_of-stands env (leaf w k) h =
    ap (residue w) (atom-value env (Leaf w k) nothing) ∙ residue-below w (number_at env.pairs k % 2 ^ w) (mod_below (number_at env.pairs k) (2 ^ w) (pow_pos w))
sum_of-stands env (constant w v) h = residue-signed w v h.1
sum_of-stands env (one op w k x) h =
    let v = value env (one op w k x) in
    then_some (IsOf env (width_of x) (value env x)) (IsOf env w v) (sum_of x) _ (sum_of-stands env x h.2)
    (λ p e. then_some (IsOf env w v) (IsOf env w v) (one_sum op w k (width_of x) p) bounded
    (one_sum-stands env op w k (width_of x) (value env x) p h.1 (width_some x h.2).0 (value-below env x h.2) e)
    (λ s f. bounded-stands env w v s f))
sum_of-stands env (two op w x y) h =
    let v = value env (two op w x y) in
    then_some (IsOf env (width_of x) (value env x)) (IsOf env w v) (sum_of x) _ (sum_of-stands env x h.2)
    (λ p e. then_some (IsOf env (width_of y) (value env y)) (IsOf env w v) (sum_of y) _ (sum_of-stands env y h.3)
    (λ q f. then_some (IsOf env w v) (IsOf env w v) (two_sum op w (width_of y) p q) bounded
    (two_sum-stands env op w (width_of x) (width_of y) (value env x) (value env y) p q h.1 h.0.0 (width_some y h.3).0 e f)
    (λ s g. bounded-stands env w v s g)))
sum_of-stands env (sel w c x y) h =
    let v = value env (sel w c x y) in
    then_some (IsOf env (width_of c) (value env c)) (IsOf env w v) (sum_of c) _ (sum_of-stands env c h.2)
    (λ b d. then_some (IsOf env (width_of x) (value env x)) (IsOf env w v) (sum_of x) _ (sum_of-stands env x h.3)
    (λ p e. then_some (IsOf env (width_of y) (value env y)) (IsOf env w v) (sum_of y) _ (sum_of-stands env y h.4)
    (λ q f. then_some (IsOf env w v) (IsOf env w v) (choice_sum b p q) bounded
    (choice_sum-stands env w (value env c) (value env x) (value env y) b p q (subst (λ n. residue n (sum_value env b) ≡ value env c) h.1.0 d) (subst (λ n. residue n (sum_value env p) ≡ value env x) h.1.1 e) (subst (λ n. residue n (sum_value env q) ≡ value env y) h.1.2 f))
    (λ s g. bounded-stands env w v s g))))
