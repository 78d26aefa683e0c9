-- Numbers in a row, taken one after the other.
use Rattle.std.proofs.Common.{◌≡◌, ℕ, zero, suc, ◌+◌, ◌-◌, ◌<◌, List, [], ◌∷◌, ◌++◌, length, Some, None, refl, sym, ap, ◌∙◌, append_assoc, append-nil, arith}
use Rattle.std.specs.List.{filter_map, flat_map, cons_option}
use Rattle.vg_kernel.specs.Tree.{Tree}
use Rattle.vg_kernel.specs.WellFormed.{pointers}
use Rattle.vg_guard.specs.declared.check.Check.{Check}
use Rattle.vg_guard.specs.Checks.{check_of, numbers_from, checks_with, checks_of}

-- what is left below n, from a number on
abbrev pub left_from : ℕ → ℕ → List ℕ
left_from n i = numbers_from i (n - i)

next : (n i m : ℕ) → m ≡ n - i → i < n → numbers_from i m ≡ i ∷ left_from n (i + 1)
unfolding numbers_from
next n i zero e less = absurd (omega arith)
next n i (suc m) e less = ap (λ j. i ∷ numbers_from (i + 1) j) (let same : m ≡ n - (i + 1) = omega arith in same)

none : (n : ℕ) (m : ℕ) → m ≡ n - n → numbers_from n m ≡ []
unfolding numbers_from
none n zero e = refl
none n (suc m) e = absurd (omega arith)

-- with the check of the next pointer, with none, and at the end
pub with_one : (k : Tree) (n p i : ℕ) (c : Check) (cs : List Check) → i < n → check_of k p i ≡ Some c
    → (cs ++ c ∷ []) ++ filter_map (check_of k p) (left_from n (i + 1)) ≡ cs ++ filter_map (check_of k p) (left_from n i)
with_one k n p i c cs less e =
    append_assoc cs (c ∷ []) _
    ∙ ap (λ o. cs ++ cons_option o (filter_map (check_of k p) (left_from n (i + 1)))) (sym e)
    ∙ ap (λ js. cs ++ filter_map (check_of k p) js) (sym (next n i (n - i) refl less))

pub with_none : (k : Tree) (n p i : ℕ) (cs : List Check) → i < n → check_of k p i ≡ None
    → cs ++ filter_map (check_of k p) (left_from n (i + 1)) ≡ cs ++ filter_map (check_of k p) (left_from n i)
with_none k n p i cs less e =
    ap (λ o. cs ++ cons_option o (filter_map (check_of k p) (left_from n (i + 1)))) (sym e)
    ∙ ap (λ js. cs ++ filter_map (check_of k p) js) (sym (next n i (n - i) refl less))

pub with_end : (k : Tree) (n p : ℕ) (cs : List Check) → cs ++ filter_map (check_of k p) (left_from n n) ≡ cs
with_end k n p cs = ap (λ js. cs ++ filter_map (check_of k p) js) (none n (n - n) refl) ∙ append-nil cs

-- with all checks of the next pointer, and at the end
pub all_more : (k : Tree) (n i : ℕ) (cs : List Check) → i < n
    → (cs ++ checks_with k n i) ++ flat_map (checks_with k n) (left_from n (i + 1)) ≡ cs ++ flat_map (checks_with k n) (left_from n i)
all_more k n i cs less =
    append_assoc cs (checks_with k n i) _
    ∙ ap (λ js. cs ++ flat_map (checks_with k n) js) (sym (next n i (n - i) refl less))

pub all_begin : (k : Tree) (n : ℕ) → n ≡ length (pointers k.params) → flat_map (checks_with k n) (left_from n 0) ≡ checks_of k
unfolding checks_of
all_begin k n e =
    ap (λ m. flat_map (checks_with k n) (numbers_from 0 m)) (let same : n - 0 ≡ n = omega arith in same)
    ∙ ap (λ m. flat_map (checks_with k m) (numbers_from 0 m)) e

pub all_end : (k : Tree) (n : ℕ) (cs : List Check) → cs ++ flat_map (checks_with k n) (left_from n n) ≡ cs
all_end k n cs = ap (λ js. cs ++ flat_map (checks_with k n) js) (none n (n - n) refl) ∙ append-nil cs
