-- The order of checks: what the reader asks of each after the one before is that their pairs rise.
use Rattle.std.proofs.Common.{◌≡◌, ℕ, zero, suc, ◌+◌, ◌<◌, ◌≤◌, max, Bool, true, false, cond, List, [], ◌∷◌, refl, ◌⊎◌, inl, inr, arith}
use Rattle.std.specs.Prelude.{nat_lt}
use Rattle.std.specs.List.{AllByRecursion}
use Rattle.std.proofs.lemmas.Bool.{ltb-true, ltb-false}
use Rattle.vg_guard.specs.declared.check.Check.{Check}
use Rattle.vg_guard.specs.Grammar.{least_second, pair_of}
use Rattle.vg_guard.specs.Rules.{IsCheck, IsBehind, AreRising, AreChecks}

abbrev pub Pair : Type 0
Pair = ℕ × ℕ

-- a check that may be read after one with these pointers
pub record IsNext (last : Pair) (c : Check) : Type 0 where
  pub begins : last.0 ≤ c.first
  pub follows : least_second last c.first ≤ c.second

-- a check of n pointers that may be read there
pub record MayStand (n : ℕ) (last : Pair) (c : Check) : Type 0 where
  pub is : IsCheck n c
  pub next : IsNext last c

-- each after the one before
abbrev pub MayAllStand : ℕ → Pair → List Check → Type 0
MayAllStand n last [] = Unit {0}
MayAllStand n last (c ∷ cs) = MayStand n last c × MayAllStand n (pair_of c) cs

-- ---- one check

abbrev Behind : Pair → Check → Type 0
Behind last c = (last.0 < c.first) ⊎ ((last.0 ≡ c.first) × (last.1 < c.second))

-- numbers of pairs
risen : (a b p q : ℕ) (t : Bool) → nat_lt a p ≡ t → a ≤ p → cond t p (max p b) + 1 ≤ q → (a < p) ⊎ ((a ≡ p) × (b < q))
risen a b p q true e low high = inl (ltb-true a p e)
risen a b p q false e low high = (let top = ltb-false a p e in inr (omega (arith, top, low), omega (arith, high)))

apart : (a b p q : ℕ) (t : Bool) → cond t p (max p b) + 1 ≤ q → p < q
apart a b p q true high = omega (arith, high)
apart a b p q false high = omega (arith, high)

pub ordered : (last : Pair) (c : Check) → IsNext last c → c.first < c.second
ordered last c is = apart last.0 last.1 c.first c.second (nat_lt last.0 c.first) is.follows

behind : (last : Pair) (c : Check) → IsNext last c → Behind last c
behind last c is = risen last.0 last.1 c.first c.second (nat_lt last.0 c.first) refl is.begins is.follows

high_enough : (a b p q : ℕ) (t : Bool) → nat_lt a p ≡ t → p < q → (a < p) ⊎ ((a ≡ p) × (b < q)) → cond t p (max p b) + 1 ≤ q
high_enough a b p q true e less h = omega (arith, less)
high_enough a b p q false e less (inl h) = absurd (let top = ltb-false a p e in omega (arith, h, top))
high_enough a b p q false e less (inr h) = (let second = h.1 in omega (arith, less, second))

low_enough : (a b p q : ℕ) → (a < p) ⊎ ((a ≡ p) × (b < q)) → a ≤ p
low_enough a b p q (inl h) = omega (arith, h)
low_enough a b p q (inr h) = (let same = h.0 in omega (arith, same))

next : (last : Pair) (c : Check) → c.first < c.second → Behind last c → IsNext last c
next last c less h = record {
  begins = low_enough last.0 last.1 c.first c.second h;
  follows = high_enough last.0 last.1 c.first c.second (nat_lt last.0 c.first) refl less h;
}

-- the first check
first : (p q : ℕ) → p < q → (0 < p) ⊎ ((0 ≡ p) × (0 < q))
first zero q less = inr (refl, omega (arith, less))
first (suc p) q less = inl (omega arith)

-- ---- all checks

on : (last : Pair) (c d : Check) → Behind last c → IsBehind c d → Behind last d
on last c d (inl a) (inl b) = inl (omega (arith, a, b))
on last c d (inl a) (inr b) = inl (let e = b.0 in omega (arith, a, e))
on last c d (inr a) (inl b) = inl (let e = a.0 in omega (arith, e, b))
on last c d (inr a) (inr b) = (let e = a.0 in let f = b.0 in let g = a.1 in let h = b.1 in inr (omega (arith, e, f), omega (arith, g, h)))

all-behind : (n : ℕ) (last : Pair) (cs : List Check) → MayAllStand n last cs → AllByRecursion (Behind last) cs
all-behind n last [] may = tt
all-behind n last (c ∷ cs) may =
    let here = behind last c may.0.next in
    (here, further cs (all-behind n (pair_of c) cs may.1) here)
  where
    further : (ds : List Check) → AllByRecursion (Behind (pair_of c)) ds → Behind last c → AllByRecursion (Behind last) ds
    further [] all here = tt
    further (d ∷ ds) all here = (on last c d here all.0, further ds all.1 here)

pub rises : (n : ℕ) (last : Pair) (cs : List Check) → MayAllStand n last cs → AreChecks n cs
rises n last [] may = record { each = tt; rising = tt }
rises n last (c ∷ cs) may =
    let more = rises n (pair_of c) cs may.1 in
    record { each = (may.0.is, more.each); rising = (all-behind n (pair_of c) cs may.1, more.rising) }

-- after a check
stand-on : (n : ℕ) (b : Check) (cs : List Check) → AllByRecursion (IsBehind b) cs → AllByRecursion (IsCheck n) cs → AreRising cs → MayAllStand n (pair_of b) cs
stand-on n b [] low each rising = tt
stand-on n b (c ∷ cs) low each rising =
    (record { is = each.0; next = next (pair_of b) c each.0.ordered low.0 }, stand-on n c cs rising.0 each.1 rising.1)

pub stands : (n : ℕ) (cs : List Check) → AreChecks n cs → MayAllStand n (0, 0) cs
stands n [] are = tt
stands n (c ∷ cs) are =
    (record { is = are.each.0; next = next (0, 0) c are.each.0.ordered (first c.first c.second are.each.0.ordered) }, stand-on n c cs are.rising.0 are.each.1 are.rising.1)
