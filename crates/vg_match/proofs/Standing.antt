-- What stands for a term below a value.
use Rattle.std.proofs.Common.{◌≡◌, ℕ, zero, suc, ◌+◌, ◌<◌, ◌≤◌, [], ◌∷◌, Bool, true, false, List, Option, Some, None, get_or, refl, sym, ap, subst, ◌∙◌, ◌↔◌, inl, inr, arith}
use Rattle.std.specs.Prelude.{slice_get, nat_lt}
use Rattle.std.specs.List.{position_from}
use Rattle.std.proofs.lemmas.Iterator.Adapters.{position_from-zero}
use Rattle.std.proofs.lemmas.Bool.{cases_Bool, both_ways, ltb-true, lt-ltb, cond-true, cond-false, cases_order}
use Rattle.std.proofs.lemmas.List.Quantifiers.{position-Some}
use Rattle.std.proofs.lemmas.Option.{slice_get-get_or, get_or_from_slice_get, none-some}
use Rattle.vg_terms.specs.Order.{is_same_term}
use Rattle.vg_terms.specs.Root.{is_constant}
use Rattle.vg_terms.specs.Term.{Tree, leaf, constant, one, two, sel}
use Rattle.vg_terms.proofs.Orders.{same_term, same_term-means}
use Rattle.vg_shapes.specs.declared.wanted.Wanted.{Wanted}
use Rattle.vg_shapes.specs.declared.wanted.Wanted.TheVariants.{Value, Constant, Nothing}
use Rattle.vg_shapes.specs.Fits.{StandsFor}
use Rattle.vg_match.specs.Least.{least_with}
use Rattle.vg_shapes.specs.Wanted.{same_wanted}
use Rattle.vg_match.specs.Fit.{standing, value_below}

no_term : Tree
no_term = constant 8 0

-- ---- lists of terms

-- the first with a term has it, and none before it has
least-is : (ts : List Tree) (t : Tree) (u : ℕ) → least_with ts t ≡ Some u → (slice_get ts u ≡ Some t) × ((x : ℕ) → slice_get ts x ≡ Some t → u ≤ x)
least-is ts t u e =
    let p = position-Some (is_same_term t) ts u no_term e in
    (slice_get-get_or ts u no_term p.0 ∙ ap Some (sym (same_term t (get_or ts u no_term) p.1)), λ x h. not-before x h p.2)
  where
    not-before : (x : ℕ) → slice_get ts x ≡ Some t → ((k : ℕ) → k < u → is_same_term t (get_or ts k no_term) ≡ false) → u ≤ x
    not-before x h before = elim (cases_order u x) [
      | inl s ↦ omega arith
      | inr s ↦ elim s [
        | inl l ↦ omega arith
        | inr l ↦ absurd (both_ways (is_same_term t (get_or ts x no_term)) (before x l) (subst (λ y. is_same_term t y ≡ true) (sym (get_or_from_slice_get ts x t no_term h)) ((same_term-means t t).1 refl)))
      ]
    ]

from-none : (p : Tree → Bool) (i : ℕ) (ts : List Tree) (x : ℕ) (t : Tree) → position_from p i ts ≡ None → slice_get ts x ≡ Some t → p t ≡ false
from-none p i [] x t e h = absurd (none-some t h)
from-none p i (u ∷ ts) zero t e h = elim (cases_Bool (p u)) [
  | inl s ↦ absurd (none-some i (sym e ∙ cond-true (p u) (Some i) (position_from p (i + 1) ts) s))
  | inr f ↦ let same : u ≡ t = cc in subst (λ y. p y ≡ false) same f
]
from-none p i (u ∷ ts) (suc x) t e h = elim (cases_Bool (p u)) [
  | inl s ↦ absurd (none-some i (sym e ∙ cond-true (p u) (Some i) (position_from p (i + 1) ts) s))
  | inr f ↦ from-none p (i + 1) ts x t (sym (cond-false (p u) (Some i) (position_from p (i + 1) ts) f) ∙ e) h
]

least-none : (ts : List Tree) (t : Tree) (x : ℕ) → least_with ts t ≡ None → slice_get ts x ≡ Some t → ⊥
least-none ts t x e h =
    both_ways (is_same_term t t) (from-none (is_same_term t) 0 ts x t (sym (position_from-zero (is_same_term t) ts) ∙ e) h) ((same_term-means t t).1 refl)

least-only : (ts : List Tree) (t : Tree) (u : ℕ) → slice_get ts u ≡ Some t → ((x : ℕ) → slice_get ts x ≡ Some t → u ≤ x) → least_with ts t ≡ Some u
least-only ts t u at least = by (least_with ts t) refl
  where
    by : (o : Option ℕ) → least_with ts t ≡ o → least_with ts t ≡ Some u
    by None e = absurd (least-none ts t u e at)
    by (Some i) e =
        let p = least-is ts t i e in
        let low = least i p.0 in
        let high = p.1 u at in
        let same : i ≡ u = omega arith in
        e ∙ ap Some same

-- ---- by the names of values

-- a list has the names of values, but for constants
abbrev pub Lists : (ℕ → Option Tree) → List Tree → Type 0
Lists names list = (u : ℕ) (t : Tree) → is_constant t ≡ false → (slice_get list u ≡ Some t) ↔ (names u ≡ Some t)

pub stands-something : (names : ℕ → Option Tree) (v : ℕ) (t : Tree) (x : Wanted) → StandsFor names v t x → same_wanted x Nothing ≡ false
stands-something names v t (Value u) h = refl
stands-something names v t (Constant w n) h = refl
stands-something names v t Nothing h = absurd h

module _ (names : ℕ → Option Tree) (list : List Tree) (lists : Lists names list) (v : ℕ) where
  below-is : (t : Tree) (x : Wanted) → is_constant t ≡ false → value_below v (least_with list t) ≡ x → same_wanted x Nothing ≡ false → StandsFor names v t x
  below-is t x c e s = by (least_with list t) refl
    where
      by : (o : Option ℕ) → least_with list t ≡ o → StandsFor names v t x
      by None f = absurd (both_ways (same_wanted x Nothing) s (ap (λ y. same_wanted y Nothing) (sym e ∙ ap (value_below v) f)))
      by (Some u) f = elim (cases_Bool (nat_lt u v)) [
        | inl l ↦
            let p = least-is list t u f in
            let is : Value u ≡ x = sym (ap (value_below v) f ∙ cond-true (nat_lt u v) (Value u) Nothing l) ∙ e in
            subst (StandsFor names v t) is (c, ltb-true u v l, (lists u t c).0 p.0, λ y h. p.1 y ((lists y t c).1 h))
        | inr g ↦ absurd (both_ways (same_wanted x Nothing) s (ap (λ y. same_wanted y Nothing) (sym e ∙ ap (value_below v) f ∙ cond-false (nat_lt u v) (Value u) Nothing g)))
      ]

  pub stands-is : (t : Tree) (x : Wanted) → standing list v t ≡ x → same_wanted x Nothing ≡ false → StandsFor names v t x
  stands-is (constant w n) x e s = subst (StandsFor names v (constant w n)) e refl
  stands-is (leaf w k) x e s = below-is (leaf w k) x refl e s
  stands-is (one op w k y) x e s = below-is (one op w k y) x refl e s
  stands-is (two op w y z) x e s = below-is (two op w y z) x refl e s
  stands-is (sel w c y z) x e s = below-is (sel w c y z) x refl e s

  below-only : (t : Tree) (u : ℕ) → StandsFor names v t (Value u) → value_below v (least_with list t) ≡ Value u
  below-only t u h =
      ap (value_below v) (least-only list t u ((lists u t h.0).1 h.2) (λ x g. h.3 x ((lists x t h.0).0 g)))
      ∙ cond-true (nat_lt u v) (Value u) Nothing (lt-ltb u v h.1)

  pub stands-only : (t : Tree) (x : Wanted) → StandsFor names v t x → standing list v t ≡ x
  stands-only t (Constant w n) h = ap (standing list v) h
  stands-only t Nothing h = absurd h
  stands-only (constant w n) (Value u) h = absurd (cc (h.0))
  stands-only (leaf w k) (Value u) h = below-only (leaf w k) u h
  stands-only (one op w k y) (Value u) h = below-only (one op w k y) u h
  stands-only (two op w y z) (Value u) h = below-only (two op w y z) u h
  stands-only (sel w c y z) (Value u) h = below-only (sel w c y z) u h
