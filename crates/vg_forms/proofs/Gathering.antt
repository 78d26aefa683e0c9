-- The term that runs of bits gather.
use Rattle.std.proofs.Common.{◌≡◌, ℕ, zero, suc, ◌+◌, ◌<◌, refl, sym, ap, ◌∙◌, arith, inl, inr, true, false, Bool, List, [], ◌∷◌, ◌++◌, length, replicate, length-append}
use Rattle.std.specs.Prelude.{nat_eq, ◌&&◌}
use Rattle.std.proofs.lemmas.Bool.{cases_Bool, eqb-true, eqb-false, and_parts}
use Rattle.std.proofs.lemmas.Bool.Decides.{eqb_tells}
use Rattle.vg_terms.specs.Order.{is_same_term}
use Rattle.vg_terms.specs.Term.{Tree, two}
use Rattle.vg_terms.specs.declared.term.TwoOp.TheVariants.{Cat}
use Rattle.vg_terms.proofs.Orders.{same_term, same_term-means}
use Rattle.vg_lift.specs.Gather.{Bit, clear, of_term, bits_from, start, zeros, terms, continues, longer, whole, gather_from, gather}
use Rattle.vg_lift.specs.Gather as pure
use Rattle.vg_lift.proofs.Gathering.{gather_from-width}
use Rattle.vg_forms.specs.declared.run.Run.{Run}
use Rattle.vg_forms.specs.declared.run.Run.TheVariants.{Zeros, Bits}
use Rattle.vg_forms.specs.Runs.{run_bits, run_size, bits_in}
use Rattle.vg_forms.specs.Gathered.{joins, longer_by, merged_on, merged, run_term, above, stacked_on, stacked}
use Rattle.vg_forms.proofs.Ranges.{run_bits-length}

abbrev bare : Run → pure.Run
bare (Zeros n) = zeros n
bare (Bits t k n) = terms t k n

bare-term : (r : Run) → whole (bare r) ≡ run_term r
bare-term (Zeros n) = refl
bare-term (Bits t k n) = refl

bare-size : (r : Run) → pure.size (bare r) ≡ run_size r
bare-size (Zeros n) = refl
bare-size (Bits t k n) = refl

-- ---- bits that go on with a run

on : (r : pure.Run) (b : Bit) (bs : List Bit) → continues r b ≡ true → gather_from r (b ∷ bs) ≡ gather_from (longer r) bs
on r b bs h = rw h refl

not-on : (r : pure.Run) (b : Bit) (bs : List Bit) → continues r b ≡ false → gather_from r (b ∷ bs) ≡ two Cat (pure.size r + suc (length bs)) (gather_from (start b) bs) (whole r)
not-on r b bs h = rw h refl

grow-zeros : (n m : ℕ) (bs : List Bit) → gather_from (zeros n) (replicate m clear ++ bs) ≡ gather_from (zeros (n + m)) bs
grow-zeros n zero bs = let e : n ≡ n + 0 = omega arith in ap (λ k. gather_from (zeros k) bs) e
grow-zeros n (suc m) bs =
    let e : suc n + m ≡ n + suc m = omega arith in
    grow-zeros (suc n) m bs ∙ ap (λ k. gather_from (zeros k) bs) e

same-number : (n : ℕ) → nat_eq n n ≡ true
same-number n = elim (eqb_tells n n) [
  | inl t ↦ t.0
  | inr t ↦ absurd (t.1 refl)
]

goes_on : (t : Tree) (k n : ℕ) → continues (terms t k n) (of_term t (k + n)) ≡ true
goes_on t k n =
    let e : is_same_term t t ≡ true = (same_term-means t t).1 refl in
    let f : nat_eq (k + n) (k + n) ≡ true = same-number (k + n) in
    rw (e, f) refl

grow-terms : (t : Tree) (k n m : ℕ) (bs : List Bit) → gather_from (terms t k n) (bits_from t (k + n) m ++ bs) ≡ gather_from (terms t k (n + m)) bs
grow-terms t k n zero bs = let e : n ≡ n + 0 = omega arith in ap (λ j. gather_from (terms t k j) bs) e
grow-terms t k n (suc m) bs =
    let e : suc (k + n) ≡ k + suc n = omega arith in
    let f : suc n + m ≡ n + suc m = omega arith in
    on (terms t k n) (of_term t (k + n)) (bits_from t (suc (k + n)) m ++ bs) (goes_on t k n)
    ∙ ap (λ j. gather_from (terms t k (suc n)) (bits_from t j m ++ bs)) e
    ∙ grow-terms t k (suc n) m bs ∙ ap (λ j. gather_from (terms t k j) bs) f

joined : (r q : Run) (bs : List Bit) → joins r q ≡ true → gather_from (bare r) (run_bits q ++ bs) ≡ gather_from (bare (longer_by r (run_size q))) bs
joined (Zeros n) (Zeros m) bs h = grow-zeros n m bs
joined (Zeros n) (Bits u j m) bs h = absurd (cc)
joined (Bits t k n) (Zeros m) bs h = absurd (cc)
joined (Bits t k n) (Bits u j m) bs h =
    let parts = and_parts (nat_eq j (k + n)) (is_same_term t u) h in
    let same = same_term t u parts.1 in
    let next = eqb-true j (k + n) parts.0 in
    ap (λ x. gather_from (terms t k n) (bits_from x j m ++ bs)) (sym same)
    ∙ ap (λ i. gather_from (terms t k n) (bits_from t i m ++ bs)) next
    ∙ grow-terms t k n m bs

-- ---- bits that do not

and-swap : (a b : Bool) → a && b ≡ b && a
and-swap true true = refl
and-swap true false = refl
and-swap false true = refl
and-swap false false = refl

-- the run of the first bit of a run, with the others
clears-start : (n : ℕ) (bs : List Bit) → gather_from (zeros 1) (replicate n clear ++ bs) ≡ gather_from (zeros (suc n)) bs
clears-start n bs = let e : 1 + n ≡ suc n = omega arith in grow-zeros 1 n bs ∙ ap (λ k. gather_from (zeros k) bs) e

bits-start : (t : Tree) (k n : ℕ) (bs : List Bit) → gather_from (terms t k 1) (bits_from t (suc k) n ++ bs) ≡ gather_from (terms t k (suc n)) bs
bits-start t k n bs =
    let e : 1 + n ≡ suc n = omega arith in
    let f : suc k ≡ k + 1 = omega arith in
    ap (λ j. gather_from (terms t k 1) (bits_from t j n ++ bs)) f ∙ grow-terms t k 1 n bs ∙ ap (λ j. gather_from (terms t k j) bs) e

wide : (m n : ℕ) (r : Run) (bs : List Bit) → run_size r ≡ n → m + suc (length (run_bits r ++ bs)) ≡ m + (suc n + length bs)
wide m n r bs e = omega (arith, length-append (run_bits r) bs, run_bits-length r, e)

apart : (r q : Run) (bs : List Bit) → 0 < run_size q → joins r q ≡ false
    → gather_from (bare r) (run_bits q ++ bs) ≡ two Cat (run_size r + (run_size q + length bs)) (gather_from (bare q) bs) (run_term r)
apart r (Zeros zero) bs some h = absurd (omega (arith, some))
apart r (Bits u j zero) bs some h = absurd (omega (arith, some))
apart (Zeros k) (Zeros (suc n)) bs some h = absurd (cc)
apart (Bits t k m) (Zeros (suc n)) bs some h =
    ap (λ w. two Cat w (gather_from (zeros 1) (replicate n clear ++ bs)) (run_term (Bits t k m))) (wide m n (Zeros n) bs refl)
    ∙ ap (λ x. two Cat (m + (suc n + length bs)) x (run_term (Bits t k m))) (clears-start n bs)
apart (Zeros k) (Bits u j (suc n)) bs some h =
    ap (λ w. two Cat w (gather_from (terms u j 1) (bits_from u (suc j) n ++ bs)) (run_term (Zeros k))) (wide k n (Bits u (suc j) n) bs refl)
    ∙ ap (λ x. two Cat (k + (suc n + length bs)) x (run_term (Zeros k))) (bits-start u j n bs)
apart (Bits t k m) (Bits u j (suc n)) bs some h =
    not-on (terms t k m) (of_term u j) (bits_from u (suc j) n ++ bs) (and-swap (is_same_term t u) (nat_eq j (k + m)) ∙ h)
    ∙ ap (λ w. two Cat w (gather_from (terms u j 1) (bits_from u (suc j) n ++ bs)) (run_term (Bits t k m))) (wide m n (Bits u (suc j) n) bs refl)
    ∙ ap (λ x. two Cat (m + (suc n + length bs)) x (run_term (Bits t k m))) (bits-start u j n bs)

-- ---- all runs

empty : (r : Run) → run_size r ≡ 0 → run_bits r ≡ []
empty (Zeros zero) e = refl
empty (Zeros (suc n)) e = absurd (omega (arith, e))
empty (Bits t k zero) e = refl
empty (Bits t k (suc n)) e = absurd (omega (arith, e))

-- what is merged has a first run
first : (r : Run) (q : Run) (qs : List Run) → stacked_on r (merged_on q qs) ≡ above (stacked (merged_on q qs)) r
first r q [] = refl
first r q (x ∷ xs) = elim (cases_Bool (nat_eq (run_size x) 0)) [
  | inl z ↦ rw z (first r q xs)
  | inr z ↦ rw z (elim (cases_Bool (joins q x)) [
    | inl t ↦ rw t (first r (longer_by q (run_size x)) xs)
    | inr t ↦ rw t refl
  ])
]

some-size : (r : Run) → nat_eq (run_size r) 0 ≡ false → 0 < run_size r
some-size r h = let f = eqb-false (run_size r) 0 h in omega (arith, f)

from : (r : Run) (qs : List Run) → gather_from (bare r) (bits_in qs) ≡ stacked (merged_on r qs)
from r [] = bare-term r
from r (q ∷ qs) = elim (cases_Bool (nat_eq (run_size q) 0)) [
  | inl z ↦ rw z (ap (λ x. gather_from (bare r) (x ++ bits_in qs)) (empty q (eqb-true (run_size q) 0 z)) ∙ from r qs)
  | inr z ↦ rw z (elim (cases_Bool (joins r q)) [
    | inl t ↦ rw t (joined r q (bits_in qs) t ∙ from (longer_by r (run_size q)) qs)
    | inr t ↦ rw t (
        apart r q (bits_in qs) (some-size q z) t
        ∙ ap (λ w. two Cat (run_size r + w) (gather_from (bare q) (bits_in qs)) (run_term r)) (sym (gather_from-width (bare q) (bits_in qs) ∙ ap (λ k. k + length (bits_in qs)) (bare-size q)))
        ∙ ap (λ x. above x r) (from q qs)
        ∙ sym (first r q qs))
  ])
]

begins : (r : Run) (bs : List Bit) → 0 < run_size r → gather (run_bits r ++ bs) ≡ gather_from (bare r) bs
begins (Zeros zero) bs h = absurd (omega (arith, h))
begins (Zeros (suc n)) bs h = clears-start n bs
begins (Bits t k zero) bs h = absurd (omega (arith, h))
begins (Bits t k (suc n)) bs h = bits-start t k n bs

pub gather_merged : (rs : List Run) → gather (bits_in rs) ≡ stacked (merged rs)
gather_merged [] = refl
gather_merged (r ∷ rs) = elim (cases_Bool (nat_eq (run_size r) 0)) [
  | inl z ↦ rw z (ap (λ x. gather (x ++ bits_in rs)) (empty r (eqb-true (run_size r) 0 z)) ∙ gather_merged rs)
  | inr z ↦ rw z (begins r (bits_in rs) (some-size r z) ∙ from r rs)
]
