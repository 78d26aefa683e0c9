-- How far the accesses through a pointer reach: past none of them.
use Rattle.std.proofs.Common.{◌≡◌, ℕ, zero, suc, ◌==◌, true, ℤ, List, [], ◌∷◌, ◌++◌, Option, Some, None, refl, sym, ap, subst, ◌∙◌, inl, inr, arith, Contains}
use Rattle.std.specs.Prelude.{◌≤ℤ◌}
use Rattle.std.specs.Int.{int_min, int_max}
use Rattle.std.proofs.lemmas.Int.{ints, clamps}
use Rattle.std.proofs.lemmas.Bool.{cases_Bool, cond-true, cond-false, eq-eqb, or_left, or_right}
use Rattle.std.specs.List.{flat_map}
use Rattle.vg_kernel.specs.Layout.{Access, statement_accesses}
use Rattle.vg_kernel.specs.Tree.{Statement, Tree}
use Rattle.vg_guard.specs.declared.reach.Reach.{Reach}
use Rattle.vg_guard.specs.Reaching.{access_end, wider, reach_with, reach_behind, reach_with_statement, reach_with_all, reach_of}

-- nothing of what was reached is lost
pub record Widens (r s : Reach) : Type 0 where
  pub low : s.low ≤ℤ r.low
  pub high : r.high ≤ℤ s.high
  pub writes : r.writes ≡ true → s.writes ≡ true

-- an access is reached
pub record Covers (r : Reach) (x : Access) : Type 0 where
  pub low : r.low ≤ℤ x.address.offset
  pub high : access_end x ≤ℤ r.high
  pub writes : x.writes ≡ true → r.writes ≡ true

stays : (r : Reach) → Widens r r
stays r = record { low = omega (arith, ints); high = omega (arith, ints); writes = λ h. h }

min-first : (a b : ℤ) → int_min a b ≤ℤ a
min-first a b = omega (arith, ints, clamps)

min-second : (a b : ℤ) → int_min a b ≤ℤ b
min-second a b = omega (arith, ints, clamps)

max-first : (a b : ℤ) → a ≤ℤ int_max a b
max-first a b = omega (arith, ints, clamps)

max-second : (a b : ℤ) → b ≤ℤ int_max a b
max-second a b = omega (arith, ints, clamps)

z-trans : (a b c : ℤ) → a ≤ℤ b → b ≤ℤ c → a ≤ℤ c
z-trans a b c h g = omega (arith, ints, h, g)

z-same : (a : ℤ) → a ≤ℤ a
z-same a = omega (arith, ints)

widened : (r : Reach) (x : Access) → Widens r (wider (Some r) x)
widened r x = record { low = min-first r.low x.address.offset; high = max-first r.high (access_end x); writes = λ h. or_left r.writes x.writes h }

covered : (r : Option Reach) (x : Access) → Covers (wider r x) x
covered None x = record { low = z-same x.address.offset; high = z-same (access_end x); writes = λ h. h }
covered (Some r) x = record { low = min-second r.low x.address.offset; high = max-second r.high (access_end x); writes = λ h. or_right r.writes x.writes h }

on : (r s t : Reach) → Widens r s → Widens s t → Widens r t
on r s t a b = record { low = z-trans t.low s.low r.low b.low a.low; high = z-trans r.high s.high t.high a.high b.high; writes = λ h. b.writes (a.writes h) }

-- after some accesses more is reached
grown : (p : ℕ) (r : Reach) (xs : List Access) → (s : Reach) × (reach_behind p (Some r) xs ≡ Some s) × Widens r s
unfolding reach_behind
grown p r [] = (r, refl, stays r)
grown p r (x ∷ xs) = elim (cases_Bool (x.address.pointer == p)) [
  | inl own ↦
      let more = grown p (wider (Some r) x) xs in
      (more.0, ap (λ o. reach_behind p o xs) (cond-true _ _ _ own) ∙ more.1, on r (wider (Some r) x) more.0 (widened r x) more.2)
  | inr other ↦
      let more = grown p r xs in
      (more.0, ap (λ o. reach_behind p o xs) (cond-false _ _ _ other) ∙ more.1, more.2)
]

keeps-cover : (r s : Reach) (x : Access) → Covers r x → Widens r s → Covers s x
keeps-cover r s x a b = record { low = z-trans s.low r.low x.address.offset b.low a.low; high = z-trans (access_end x) r.high s.high a.high b.high; writes = λ h. b.writes (a.writes h) }

pub reaches : (p : ℕ) (r : Option Reach) (xs : List Access) (x : Access) → Contains xs x → x.address.pointer ≡ p → (s : Reach) × (reach_behind p r xs ≡ Some s) × Covers s x
unfolding reach_behind
reaches p r [] x (k, below, e) own = absurd (omega (arith, below))
reaches p r (y ∷ xs) x (zero, below, e) own =
    let here : (y.address.pointer == p) ≡ true = eq-eqb y.address.pointer p (ap (λ (z : Access). z.address.pointer) e ∙ own) in
    let more = grown p (wider r y) xs in
    (more.0, ap (λ o. reach_behind p o xs) (cond-true _ _ _ here) ∙ more.1, keeps-cover (wider r y) more.0 x (subst (Covers (wider r y)) e (covered r y)) more.2)
reaches p r (y ∷ xs) x (suc k, below, e) own = reaches p (reach_with p r y) xs x (k, (omega (arith, below)), e) own

-- accesses one after the other
pub reach_behind_append : (p : ℕ) (r : Option Reach) (xs ys : List Access) → reach_behind p r (xs ++ ys) ≡ reach_behind p (reach_behind p r xs) ys
unfolding reach_behind
reach_behind_append p r [] ys = refl
reach_behind_append p r (x ∷ xs) ys = reach_behind_append p (reach_with p r x) xs ys

all-statements : (p : ℕ) (r : Option Reach) (ss : List Statement) → reach_with_all p r ss ≡ reach_behind p r (flat_map statement_accesses ss)
unfolding reach_with_all reach_with_statement reach_behind
all-statements p r [] = refl
all-statements p r (s ∷ ss) =
    all-statements p (reach_behind p r (statement_accesses s)) ss
    ∙ sym (reach_behind_append p r (statement_accesses s) (flat_map statement_accesses ss))

-- statement by statement what a kernel reaches is reached
pub reach_of_is : (p : ℕ) (k : Tree) → reach_with_all p None k.statements ≡ reach_of k p
reach_of_is p k = all-statements p None k.statements
