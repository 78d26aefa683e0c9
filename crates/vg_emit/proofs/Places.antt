-- Where a member of a list stands.
use Rattle.std.proofs.Common.{◌≡◌, ℕ, suc, ◌+◌, ◌≤◌, List, [], ◌∷◌, length, refl, sym, ap, ◌∙◌, arith, inl, inr}
use Rattle.std.specs.Prelude.{Some, None, unwrap_or, if◌then◌else◌}
use Rattle.std.specs.List.{position, position_or_len}
use Rattle.std.proofs.lemmas.Bool.{cases_Bool, cases_lt, cond-true, cond-false, lt-ltb, le-ltb}
use Rattle.std.proofs.lemmas.List.Recursion.{is_position_or_len}
use Rattle.vg_shapes.specs.declared.operand.Operand.{Operand}
use Rattle.vg_kernel_plans.specs.SameAs.{same_operand}
use Rattle.vg_emission.specs.Program.{number_in}

number-within : (xs : List Operand) (o : Operand) → number_in xs o ≤ length xs
number-within [] o = omega arith
number-within (x ∷ xs) o = elim (cases_Bool (same_operand x o)) [
  | inl t ↦ omega (arith, cond-true (same_operand x o) 0 (suc (number_in xs o)) t)
  | inr f ↦ omega (arith, cond-false (same_operand x o) 0 (suc (number_in xs o)) f, number-within xs o)
]

one-more : (n : ℕ) → suc n ≡ 1 + n
one-more n = omega arith

pub number-is : (xs : List Operand) (o : Operand) → unwrap_or (position (λ x. same_operand x o) xs) (length xs) ≡ number_in xs o
number-is xs o =
    let n = position_or_len (λ x. same_operand x o) xs in
    let same : number_in xs o ≡ n = is_position_or_len (λ ys. number_in ys o) (λ x. same_operand x o) refl (λ x ys. ap (λ (k : ℕ). if same_operand x o then 0 else k) (one-more (number_in ys o))) xs in
    elim (cases_lt n (length xs)) [
      | inl a ↦ ap (λ r. unwrap_or r (length xs)) (cond-true _ (Some n) None (lt-ltb _ _ a)) ∙ sym same
      | inr a ↦
          let all : length xs ≡ number_in xs o = omega (arith, number-within xs o, same) in
          ap (λ r. unwrap_or r (length xs)) (cond-false _ (Some n) None (le-ltb _ _ a)) ∙ all
    ]
