-- The values of what is made of sums.
use Rattle.std.proofs.Common.{◌≡◌, ℕ, ◌+◌, ◌-◌, ◌*◌, ◌^◌, ◌<◌, refl, sym, ap, ◌∙◌, subst, arith, inl, inr, true, false, Bool}
use Rattle.std.specs.Prelude.{ℤ, pos, negsuc, ◌+ℤ◌, ◌*ℤ◌, ◌≤ℤ◌, ◌&&◌, int_lt, nat_le, Option, Some, None, IfSome, if◌then◌else◌}
use Rattle.std.specs.Ordering.{int_eq, is_eq, is_lt}
use Rattle.std.proofs.lemmas.Int.{ints}
use Rattle.std.proofs.Math.IntN.{*ℤ_comm}
use borrow.Author.Differences.{up, down}
use Rattle.std.proofs.lemmas.Bool.{cases_Bool, cond_both, and_parts}
use Rattle.vg_base.specs.Trap.{◌>>=◌}
use Rattle.vg_base.specs.Number.{floor_shift, residue}
use Rattle.vg_terms.specs.declared.value.Env.{Env}
use Rattle.vg_sums.specs.declared.kind.Kind.{Kind}
use Rattle.vg_sums.specs.declared.kind.Kind.TheVariants.{Leaf, Floor, Positive, Negative, Zero, Bitwise}
use Rattle.vg_sums.specs.Arithmetic.{add, add_number, bounded, fit, is_nothing, joined, merged, most_nodes, most_products, multiply, negated, product, quotient, remainder, scale, subtract, times_atom}
use Rattle.vg_sums.specs.Atoms.{is_truth}
use Rattle.vg_sums.specs.Order.{atom_cmp}
use Rattle.vg_sums.specs.Sums.{atom_value, nothing, number, plus, Polynomial, size, sum_value, truth}
use Rattle.vg_sums.proofs.Atoms.{atom_cmp-same}
use Rattle.vg_sums.proofs.Whole.{fit-same, floor-split, then_some}

-- the number of an atom of a sum
abbrev pub atom_at : Env → Kind → Polynomial → ℤ
atom_at env k i = atom_value env k (sum_value env i)

-- a step gives a sum of this value, if it gives one
abbrev pub Makes : Env → Option Polynomial → ℤ → Type 0
Makes env step z = IfSome step (λ r. sum_value env r ≡ z)

abbrev pub Is : Env → ℤ → Polynomial → Type 0
Is env z r = sum_value env r ≡ z

-- ---- whole numbers

zero_times : (a r : ℤ) → r ≡ a *ℤ pos 0 +ℤ r
zero_times a r = omega (arith, ints)

under : (p z r : ℤ) → p +ℤ (z +ℤ r) ≡ z +ℤ (p +ℤ r)
under p z r = omega (arith, ints)

before : (p r q : ℤ) → p +ℤ (r +ℤ q) ≡ (p +ℤ r) +ℤ q
before p r q = omega (arith, ints)

shuffle : (p q r s : ℤ) → (p +ℤ q) +ℤ (r +ℤ s) ≡ (p +ℤ r) +ℤ (q +ℤ s)
shuffle p q r s = omega (arith, ints)

alone : (a z : ℤ) → a *ℤ z +ℤ pos 0 ≡ a *ℤ z
alone a z = omega (arith, ints)

pub times_sum : (a f g : ℤ) → a *ℤ (f +ℤ g) ≡ a *ℤ f +ℤ a *ℤ g
times_sum a f g =
    let h : up (f +ℤ g) + (down f + down g) ≡ down (f +ℤ g) + (up f + up g) = omega (arith, ints) in
    omega (arith, ints, ap (λ v. up a * v) h, ap (λ v. down a * v) h)

pub times_times : (a b c : ℤ) → (a *ℤ b) *ℤ c ≡ a *ℤ (b *ℤ c)
times_times a b c =
    let h : up (a *ℤ b) + (up a * down b + down a * up b) ≡ down (a *ℤ b) + (up a * up b + down a * down b) = omega (arith, ints) in
    let k : up (b *ℤ c) + (up b * down c + down b * up c) ≡ down (b *ℤ c) + (up b * up c + down b * down c) = omega (arith, ints) in
    omega (arith, ints, ap (λ v. v * up c) h, ap (λ v. v * down c) h, ap (λ v. up a * v) k, ap (λ v. down a * v) k)

pub sum_times : (f g a : ℤ) → (f +ℤ g) *ℤ a ≡ f *ℤ a +ℤ g *ℤ a
sum_times f g a = *ℤ_comm (f +ℤ g) a ∙ times_sum a f g ∙ ap (λ v. v +ℤ a *ℤ g) (*ℤ_comm a f) ∙ ap (λ v. f *ℤ a +ℤ v) (*ℤ_comm a g)

swapped : (a z f : ℤ) → a *ℤ (z *ℤ f) ≡ z *ℤ (a *ℤ f)
swapped a z f = sym (times_times a z f) ∙ ap (λ v. v *ℤ f) (*ℤ_comm a z) ∙ times_times z a f

together : (a f g r s : ℤ) → a *ℤ (f +ℤ g) +ℤ (r +ℤ s) ≡ (a *ℤ f +ℤ r) +ℤ (a *ℤ g +ℤ s)
together a f g r s = ap (λ v. v +ℤ (r +ℤ s)) (times_sum a f g) ∙ shuffle (a *ℤ f) (a *ℤ g) r s

scaled : (z a f r : ℤ) → a *ℤ (z *ℤ f) +ℤ z *ℤ r ≡ z *ℤ (a *ℤ f +ℤ r)
scaled z a f r = ap (λ v. v +ℤ z *ℤ r) (swapped a z f) ∙ sym (times_sum z (a *ℤ f) r)

multiplied : (a f r q : ℤ) → a *ℤ (f *ℤ q) +ℤ r *ℤ q ≡ (a *ℤ f +ℤ r) *ℤ q
multiplied a f r q = sym (sum_times (a *ℤ f) r q ∙ ap (λ v. v +ℤ r *ℤ q) (times_times a f q))

split_parts : (a f g r s t : ℤ) → (a *ℤ f +ℤ r) *ℤ t +ℤ (a *ℤ g +ℤ s) ≡ a *ℤ (f *ℤ t +ℤ g) +ℤ (r *ℤ t +ℤ s)
split_parts a f g r s t =
    ap (λ v. v +ℤ (a *ℤ g +ℤ s)) (sym (multiplied a f r t)) ∙ shuffle (a *ℤ (f *ℤ t)) (r *ℤ t) (a *ℤ g) s
    ∙ ap (λ v. v +ℤ (r *ℤ t +ℤ s)) (sym (times_sum a (f *ℤ t) g))

-- ---- sums

pub joined-value : (env : Env) (k : Kind) (i f r : Polynomial) → sum_value env (joined k i f r) ≡ atom_at env k i *ℤ sum_value env f +ℤ sum_value env r
joined-value env k i (number z) r =
    cond_both (int_eq z (pos 0)) r (plus k i (number z) r) (λ t. sum_value env t ≡ atom_at env k i *ℤ z +ℤ sum_value env r)
    (λ t. let e : pos 0 ≡ z = grind (arith, ints) in
    subst (λ v. sum_value env r ≡ atom_at env k i *ℤ v +ℤ sum_value env r) e (zero_times (atom_at env k i) (sum_value env r)))
    (λ t. refl)
joined-value env k i (plus l j g s) r = refl

pub add_number-value : (env : Env) (z : ℤ) (p : Polynomial) → Makes env (add_number z p) (z +ℤ sum_value env p)
add_number-value env z (number y) =
    then_some (λ x. x ≡ z +ℤ y) (λ r. sum_value env r ≡ z +ℤ y) (fit (z +ℤ y)) _ (fit-same (z +ℤ y)) (λ x e. e)
add_number-value env z (plus k i f r) =
    then_some (λ s. sum_value env s ≡ z +ℤ sum_value env r) (λ t. sum_value env t ≡ z +ℤ sum_value env (plus k i f r)) (add_number z r) _ (add_number-value env z r)
    (λ s e. ap (λ v. atom_at env k i *ℤ sum_value env f +ℤ v) e ∙ under (atom_at env k i *ℤ sum_value env f) z (sum_value env r))

abbrev AddsTo : Env → ℤ → (Polynomial → Option Polynomial) → Type 0
AddsTo env z step = (q : Polynomial) → Makes env (step q) (z +ℤ sum_value env q)

merged-value : (env : Env) (k : Kind) (i f : Polynomial) (r : ℤ) (add_factor add_rest : Polynomial → Option Polynomial)
    → AddsTo env (sum_value env f) add_factor → AddsTo env r add_rest
    → AddsTo env (atom_at env k i *ℤ sum_value env f +ℤ r) (merged k i f add_factor add_rest)
merged-value env k i f r add_factor add_rest g h (number z) =
    then_some (λ t. sum_value env t ≡ r +ℤ z) (λ t. sum_value env t ≡ (atom_at env k i *ℤ sum_value env f +ℤ r) +ℤ z) (add_rest (number z)) _ (h (number z))
    (λ t e. ap (λ v. atom_at env k i *ℤ sum_value env f +ℤ v) e ∙ before (atom_at env k i *ℤ sum_value env f) r z)
merged-value env k i f r add_factor add_rest g h (plus l j q s) =
    cond_both (is_eq (atom_cmp k i l j)) _ _ (λ m. IfSome m (Is env ((atom_at env k i *ℤ sum_value env f +ℤ r) +ℤ sum_value env (plus l j q s))))
    (λ t. let same = atom_cmp-same k l i j t in
    let atoms : atom_at env l j ≡ atom_at env k i = sym (ap (λ v. atom_at env v i) same.0 ∙ ap (λ v. atom_at env l v) same.1) in
    then_some (λ x. sum_value env x ≡ sum_value env f +ℤ sum_value env q) (Is env ((atom_at env k i *ℤ sum_value env f +ℤ r) +ℤ sum_value env (plus l j q s))) (add_factor q) _ (g q)
    (λ x a. then_some (λ y. sum_value env y ≡ r +ℤ sum_value env s) (Is env ((atom_at env k i *ℤ sum_value env f +ℤ r) +ℤ sum_value env (plus l j q s))) (add_rest s) _ (h s)
    (λ y b. joined-value env k i x y ∙ ap (λ v. atom_at env k i *ℤ v +ℤ sum_value env y) a ∙ ap (λ v. atom_at env k i *ℤ (sum_value env f +ℤ sum_value env q) +ℤ v) b
    ∙ together (atom_at env k i) (sum_value env f) (sum_value env q) r (sum_value env s) ∙ ap (λ v. (atom_at env k i *ℤ sum_value env f +ℤ r) +ℤ (v *ℤ sum_value env q +ℤ sum_value env s)) (sym atoms))))
    (λ t. cond_both (is_lt (atom_cmp k i l j)) _ _ (λ m. IfSome m (Is env ((atom_at env k i *ℤ sum_value env f +ℤ r) +ℤ sum_value env (plus l j q s))))
    (λ u. then_some (λ y. sum_value env y ≡ r +ℤ sum_value env (plus l j q s)) (Is env ((atom_at env k i *ℤ sum_value env f +ℤ r) +ℤ sum_value env (plus l j q s))) (add_rest (plus l j q s)) _ (h (plus l j q s))
    (λ y b. ap (λ v. atom_at env k i *ℤ sum_value env f +ℤ v) b ∙ before (atom_at env k i *ℤ sum_value env f) r (sum_value env (plus l j q s))))
    (λ u. then_some (λ y. sum_value env y ≡ (atom_at env k i *ℤ sum_value env f +ℤ r) +ℤ sum_value env s) (Is env ((atom_at env k i *ℤ sum_value env f +ℤ r) +ℤ sum_value env (plus l j q s))) (merged k i f add_factor add_rest s) _ (merged-value env k i f r add_factor add_rest g h s)
    (λ y b. ap (λ v. atom_at env l j *ℤ sum_value env q +ℤ v) b ∙ under (atom_at env l j *ℤ sum_value env q) (atom_at env k i *ℤ sum_value env f +ℤ r) (sum_value env s))))

pub add-value : (env : Env) (p q : Polynomial) → Makes env (add p q) (sum_value env p +ℤ sum_value env q)
add-value env (number z) q = add_number-value env z q
add-value env (plus k i f r) q =
    merged-value env k i f (sum_value env r) (add f) (add r) (add-value env f) (add-value env r) q

pub scale-value : (env : Env) (z : ℤ) (p : Polynomial) → Makes env (scale z p) (z *ℤ sum_value env p)
scale-value env z (number y) =
    then_some (λ x. x ≡ z *ℤ y) (λ r. sum_value env r ≡ z *ℤ y) (fit (z *ℤ y)) _ (fit-same (z *ℤ y)) (λ x e. e)
scale-value env z (plus k i f r) =
    then_some (λ g. sum_value env g ≡ z *ℤ sum_value env f) (λ t. sum_value env t ≡ z *ℤ sum_value env (plus k i f r)) (scale z f) _ (scale-value env z f)
    (λ g a. then_some (λ s. sum_value env s ≡ z *ℤ sum_value env r) (λ t. sum_value env t ≡ z *ℤ sum_value env (plus k i f r)) (scale z r) _ (scale-value env z r)
    (λ s b. joined-value env k i g s ∙ ap (λ v. atom_at env k i *ℤ v +ℤ sum_value env s) a ∙ ap (λ v. atom_at env k i *ℤ (z *ℤ sum_value env f) +ℤ v) b ∙ scaled z (atom_at env k i) (sum_value env f) (sum_value env r)))

pub negated-value : (env : Env) (p : Polynomial) → Makes env (negated p) (negsuc 0 *ℤ sum_value env p)
negated-value env p = scale-value env (negsuc 0) p

pub subtract-value : (env : Env) (p q : Polynomial) → Makes env (subtract p q) (sum_value env p +ℤ negsuc 0 *ℤ sum_value env q)
subtract-value env p q =
    then_some (λ n. sum_value env n ≡ negsuc 0 *ℤ sum_value env q) (λ r. sum_value env r ≡ sum_value env p +ℤ negsuc 0 *ℤ sum_value env q) (negated q) _ (negated-value env q)
    (λ n e. subst (λ v. Makes env (add p n) (sum_value env p +ℤ v)) e (add-value env p n))

-- ---- products

truth-square : (b : Bool) (g s : ℤ) → truth b *ℤ (g +ℤ s) ≡ truth b *ℤ (truth b *ℤ g +ℤ s)
truth-square true g s = omega (arith, ints)
truth-square false g s = omega (arith, ints)

-- the square of an atom that is only ever 0 or 1
atom-square : (env : Env) (k : Kind) (z g s : ℤ) → is_truth k ≡ true → atom_value env k z *ℤ (g +ℤ s) ≡ atom_value env k z *ℤ (atom_value env k z *ℤ g +ℤ s)
atom-square env (Leaf w k) z g s t = absurd (cc)
atom-square env (Floor k) z g s t = absurd (cc)
atom-square env Positive z g s t = absurd (cc)
atom-square env Negative z g s t = truth-square (int_lt z (pos 0)) g s
atom-square env Zero z g s t = truth-square (int_eq z (pos 0)) g s
atom-square env (Bitwise op w) z g s t = absurd (cc)

times_atom-value : (env : Env) (k : Kind) (i p : Polynomial) → Makes env (times_atom k i p) (atom_at env k i *ℤ sum_value env p)
times_atom-value env k i (number z) = joined-value env k i (number z) nothing ∙ alone (atom_at env k i) z
times_atom-value env k i (plus l j g s) =
    cond_both (is_eq (atom_cmp k i l j) && is_truth k) _ _ (λ m. IfSome m (Is env (atom_at env k i *ℤ sum_value env (plus l j g s))))
    (λ t. let both = and_parts (is_eq (atom_cmp k i l j)) (is_truth k) t in
    let same = atom_cmp-same k l i j both.0 in
    let atoms : atom_at env k i ≡ atom_at env l j = ap (λ v. atom_at env v i) same.0 ∙ ap (λ v. atom_at env l v) same.1 in
    then_some (λ h. sum_value env h ≡ sum_value env g +ℤ sum_value env s) (Is env (atom_at env k i *ℤ sum_value env (plus l j g s))) (add g s) _ (add-value env g s)
    (λ h e. joined-value env k i h nothing ∙ alone (atom_at env k i) (sum_value env h) ∙ ap (λ v. atom_at env k i *ℤ v) e ∙ atom-square env k (sum_value env i) (sum_value env g) (sum_value env s) both.1
    ∙ ap (λ v. atom_at env k i *ℤ (v *ℤ sum_value env g +ℤ sum_value env s)) atoms))
    (λ t. cond_both (is_lt (atom_cmp l j k i)) _ _ (λ m. IfSome m (Is env (atom_at env k i *ℤ sum_value env (plus l j g s))))
    (λ u. then_some (λ h. sum_value env h ≡ atom_at env k i *ℤ sum_value env g) (Is env (atom_at env k i *ℤ sum_value env (plus l j g s))) (times_atom k i g) _ (times_atom-value env k i g)
    (λ h a. then_some (λ y. sum_value env y ≡ atom_at env k i *ℤ sum_value env s) (Is env (atom_at env k i *ℤ sum_value env (plus l j g s))) (times_atom k i s) _ (times_atom-value env k i s)
    (λ y b. joined-value env l j h y ∙ ap (λ v. atom_at env l j *ℤ v +ℤ sum_value env y) a ∙ ap (λ v. atom_at env l j *ℤ (atom_at env k i *ℤ sum_value env g) +ℤ v) b ∙ scaled (atom_at env k i) (atom_at env l j) (sum_value env g) (sum_value env s))))
    (λ u. alone (atom_at env k i) (sum_value env (plus l j g s))))

multiply-value : (env : Env) (p q : Polynomial) → Makes env (multiply p q) (sum_value env p *ℤ sum_value env q)
multiply-value env (number z) q = scale-value env z q
multiply-value env (plus k i f r) q =
    then_some (λ a. sum_value env a ≡ sum_value env f *ℤ sum_value env q) (Is env (sum_value env (plus k i f r) *ℤ sum_value env q)) (multiply f q) _ (multiply-value env f q)
    (λ a x. then_some (λ b. sum_value env b ≡ atom_at env k i *ℤ sum_value env a) (Is env (sum_value env (plus k i f r) *ℤ sum_value env q)) (times_atom k i a) _ (times_atom-value env k i a)
    (λ b y. then_some (λ c. sum_value env c ≡ sum_value env r *ℤ sum_value env q) (Is env (sum_value env (plus k i f r) *ℤ sum_value env q)) (multiply r q) _ (multiply-value env r q)
    (λ c z. subst (λ v. Makes env (add b c) v) (ap (λ v. v +ℤ sum_value env c) (y ∙ ap (λ v. atom_at env k i *ℤ v) x) ∙ ap (λ v. atom_at env k i *ℤ (sum_value env f *ℤ sum_value env q) +ℤ v) z ∙ multiplied (atom_at env k i) (sum_value env f) (sum_value env r) (sum_value env q)) (add-value env b c))))

pub product-value : (env : Env) (p q : Polynomial) → Makes env (product p q) (sum_value env p *ℤ sum_value env q)
product-value env p q =
    cond_both (nat_le (size p * size q) most_products) _ _ (λ m. Makes env m (sum_value env p *ℤ sum_value env q)) (λ t. multiply-value env p q) (λ t. tt)

pub bounded-value : (env : Env) (p : Polynomial) → Makes env (bounded p) (sum_value env p)
bounded-value env p =
    cond_both (nat_le (size p) most_nodes) _ _ (λ m. Makes env m (sum_value env p)) (λ t. refl) (λ t. tt)

-- ---- coefficients

pub parts-value : (env : Env) (k : ℕ) (p : Polynomial) → sum_value env (quotient k p) *ℤ pos (2 ^ k) +ℤ sum_value env (remainder k p) ≡ sum_value env p
parts-value env k (number z) = floor-split z k
parts-value env k (plus l i f r) =
    let a = joined-value env l i (quotient k f) (quotient k r) in
    let b = joined-value env l i (remainder k f) (remainder k r) in
    ap (λ v. v *ℤ pos (2 ^ k) +ℤ sum_value env (remainder k (plus l i f r))) a ∙ ap (λ v. (atom_at env l i *ℤ sum_value env (quotient k f) +ℤ sum_value env (quotient k r)) *ℤ pos (2 ^ k) +ℤ v) b
    ∙ split_parts (atom_at env l i) (sum_value env (quotient k f)) (sum_value env (remainder k f)) (sum_value env (quotient k r)) (sum_value env (remainder k r)) (pos (2 ^ k))
    ∙ ap (λ v. atom_at env l i *ℤ v +ℤ (sum_value env (quotient k r) *ℤ pos (2 ^ k) +ℤ sum_value env (remainder k r))) (parts-value env k f) ∙ ap (λ v. atom_at env l i *ℤ sum_value env f +ℤ v) (parts-value env k r)
