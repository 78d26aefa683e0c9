-- The bits of parts of runs.
use Rattle.std.proofs.Common.{◌≡◌, ℕ, zero, suc, ◌+◌, ◌-◌, ◌≤◌, ◌<◌, refl, sym, ap, ◌∙◌, arith, inl, inr, List, [], ◌∷◌, ◌++◌, length, take, drop, replicate, length-drop, append_assoc, append-nil}
use Rattle.std.specs.Prelude.{nat_eq, min}
use Rattle.std.proofs.lemmas.Bool.{cases_Bool, eqb-true}
use Rattle.std.proofs.lemmas.Bool.Decides.{leb_tells}
use Rattle.std.proofs.lemmas.List.{take-append-le, drop-append-le}
use Rattle.std.proofs.Math.Seq.{drop-append-add, take-append-add, take-length}
use Rattle.vg_terms.specs.Term.{Tree}
use Rattle.vg_lift.specs.Gather.{clear, of_term, bits_from}
use Rattle.vg_bits.specs.Range.{range}
use Rattle.vg_forms.specs.declared.run.Run.{Run}
use Rattle.vg_forms.specs.declared.run.Run.TheVariants.{Zeros, Bits}
use Rattle.vg_forms.specs.Runs.{run_bits, run_size, bits_in, part_of, runs_range}

pub bits_in_append : (rs qs : List Run) → bits_in (rs ++ qs) ≡ bits_in rs ++ bits_in qs
bits_in_append [] qs = refl
bits_in_append (r ∷ rs) qs = ap (λ x. run_bits r ++ x) (bits_in_append rs qs) ∙ sym (append_assoc (run_bits r) (bits_in rs) (bits_in qs))

-- ---- lists

past : {A : Type 0} (k n : ℕ) (xs ys : List A) → length xs ≤ k → take n (drop k (xs ++ ys)) ≡ take n (drop (k - length xs) ys)
past k n xs ys h =
    let e : length xs + (k - length xs) ≡ k = omega (arith, h) in
    ap (λ m. take n (drop m (xs ++ ys))) (sym e) ∙ ap (take n) (drop-append-add xs ys (k - length xs))

-- ---- parts of one run

bits_from-length : (t : Tree) (k n : ℕ) → length (bits_from t k n) ≡ n
bits_from-length t k zero = refl
bits_from-length t k (suc n) = ap suc (bits_from-length t (suc k) n)

clears-length : (n : ℕ) → length (replicate n clear) ≡ n
clears-length zero = refl
clears-length (suc n) = ap suc (clears-length n)

pub run_bits-length : (r : Run) → length (run_bits r) ≡ run_size r
run_bits-length (Zeros n) = clears-length n
run_bits-length (Bits t k n) = bits_from-length t k n

bits_from-part : (t : Tree) (k low n m : ℕ) → low + n ≤ m → take n (drop low (bits_from t k m)) ≡ bits_from t (k + low) n
bits_from-part t k zero zero m h = refl
bits_from-part t k zero (suc n) zero h = absurd (omega (arith, h))
bits_from-part t k zero (suc n) (suc m) h =
    let e : k + 0 ≡ k = omega arith in
    let f : suc k + 0 ≡ suc (k + 0) = omega arith in
    ap (λ x. of_term t k ∷ x) (bits_from-part t (suc k) zero n m (omega (arith, h)) ∙ ap (λ j. bits_from t j n) f) ∙ ap (λ j. of_term t j ∷ bits_from t (suc (k + 0)) n) (sym e)
bits_from-part t k (suc low) n zero h = absurd (omega (arith, h))
bits_from-part t k (suc low) n (suc m) h =
    let e : suc k + low ≡ k + suc low = omega arith in
    bits_from-part t (suc k) low n m (omega (arith, h)) ∙ ap (λ j. bits_from t j n) e

clears-part : (low n m : ℕ) → low + n ≤ m → take n (drop low (replicate m clear)) ≡ replicate n clear
clears-part zero zero m h = refl
clears-part zero (suc n) zero h = absurd (omega (arith, h))
clears-part zero (suc n) (suc m) h = ap (λ x. clear ∷ x) (clears-part zero n m (omega (arith, h)))
clears-part (suc low) n zero h = absurd (omega (arith, h))
clears-part (suc low) n (suc m) h = clears-part low n m (omega (arith, h))

pub part-bits : (r : Run) (low n : ℕ) → low + n ≤ run_size r → run_bits (part_of r low n) ≡ take n (drop low (run_bits r))
part-bits (Zeros m) low n h = sym (clears-part low n m h)
part-bits (Bits t k m) low n h = sym (bits_from-part t k low n m h)

-- ---- parts of runs

-- as many members of two lists: those of the first, and what is left of the second
both_lists : {A : Type 0} (n : ℕ) (zs ys : List A) → take n (zs ++ ys) ≡ take (min n (length zs)) zs ++ take (n - min n (length zs)) ys
both_lists n zs ys = elim (leb_tells n (length zs)) [
  | inl t ↦
      let h = t.1 in
      let e : min n (length zs) ≡ n = omega (arith, h) in
      let z : n - n ≡ 0 = omega arith in
      take-append-le n zs ys h ∙ sym (append-nil (take n zs)) ∙ ap (λ k. take n zs ++ take k ys) (sym z) ∙ ap (λ k. take k zs ++ take (n - k) ys) (sym e)
  | inr t ↦
      let h = t.1 in
      let e : min n (length zs) ≡ length zs = omega (arith, h) in
      let f : length zs + (n - length zs) ≡ n = omega (arith, h) in
      ap (λ k. take k (zs ++ ys)) (sym f) ∙ take-append-add zs ys (n - length zs) ∙ ap (λ x. x ++ take (n - length zs) ys) (sym (take-length zs)) ∙ ap (λ k. take k zs ++ take (n - k) ys) (sym e)
]

none : (n k : ℕ) → take n (drop k (bits_in [])) ≡ []
none zero zero = refl
none zero (suc k) = refl
none (suc n) zero = refl
none (suc n) (suc k) = refl

later : (r : Run) (rs : List Run) (low n : ℕ) → low < run_size r → bits_in (runs_range rs 0 (n - min n (run_size r - low))) ≡ take (n - min n (run_size r - low)) (bits_in rs)
    → run_bits (part_of r low (min n (run_size r - low))) ++ bits_in (runs_range rs 0 (n - min n (run_size r - low))) ≡ take n (drop low (run_bits r ++ bits_in rs))
later r rs low n h e =
    let size = run_bits-length r in
    let h' : low ≤ length (run_bits r) = omega (arith, h, size) in
    let zs = drop low (run_bits r) in
    let long : length zs ≡ run_size r - low = length-drop low (run_bits r) ∙ ap (λ k. k - low) size in
    let m = min n (run_size r - low) in
    let fits : low + m ≤ run_size r = omega (arith, h) in
    ap (λ x. x ++ bits_in (runs_range rs 0 (n - m))) (part-bits r low m fits)
    ∙ ap (λ x. take m zs ++ x) e
    ∙ ap (λ k. take (min n k) zs ++ take (n - min n k) (bits_in rs)) (sym long)
    ∙ sym (both_lists n zs (bits_in rs))
    ∙ ap (take n) (sym (drop-append-le low (run_bits r) (bits_in rs) h'))

pub range_bits : (rs : List Run) (low n : ℕ) → bits_in (runs_range rs low n) ≡ range low n (bits_in rs)
range_bits [] low n = sym (none n low)
range_bits (r ∷ rs) low n = elim (cases_Bool (nat_eq n 0)) [
  | inl z ↦ rw z (ap (λ k. take k (drop low (bits_in (r ∷ rs)))) (sym (eqb-true n 0 z)))
  | inr z ↦ rw z (elim (leb_tells (run_size r) low) [
    | inl t ↦ rw t.0 (
        let h : length (run_bits r) ≤ low = omega (arith, t.1, run_bits-length r) in
        range_bits rs (low - run_size r) n ∙ ap (λ k. take n (drop (low - k) (bits_in rs))) (sym (run_bits-length r)) ∙ sym (past low n (run_bits r) (bits_in rs) h))
    | inr t ↦ rw t.0 (later r rs low n t.1 (range_bits rs 0 (n - min n (run_size r - low))))
  ])
]
