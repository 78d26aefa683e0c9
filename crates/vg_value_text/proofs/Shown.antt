-- What is shown of numbered values is what is shown of their kernel.
use Rattle.std.proofs.Common.{◌≡◌, ◌∙◌, ℕ, suc, cond, ◌+◌, ◌≤◌, Bool, true, false, List, [], ◌∷◌, ◌++◌, length, map, Some, None, refl, arith}
use Rattle.std.specs.Prelude.{filter, if◌then◌else◌}
use Rattle.vg_kernel.specs.Tree.{Tree}
use Rattle.vg_shapes.specs.declared.ssa.Ssa.{Ssa}
use Rattle.vg_shapes.specs.Sound.{IsSound, cuts_of, terms_of}
use Rattle.vg_shapes.specs.Units.{arguments, is_integer}
use Rattle.vg_ssa.specs.Cuts.{HasCuts}
use Rattle.vg_ssa.specs.Numbering.{IsNumbering}
use Rattle.vg_ssa.proofs.Counts.{arguments_first}
use Rattle.vg_plan_laws.proofs.Chosen.{kernels-are-small}
use Rattle.vg_program.specs.declared.param.Param.{Param}
use Rattle.vg_compile.specs.Means.{param_of}
use Rattle.vg_value_text.specs.Listed.{Terms, argument_lines, terms_shown, unit_lines, values_text}

-- of numbered values
abbrev pub shown : Ssa → Bool → Terms
shown ssa more = record { whole = terms_of ssa; cut = if more then Some (cuts_of ssa) else None }

terms-are-shown : (k : Tree) (ssa : Ssa) (more : Bool) → IsNumbering k ssa → (more ≡ true → HasCuts k ssa) → shown ssa more ≡ terms_shown k more
terms-are-shown k ssa true is cuts = λ i. record { whole = is.terms i; cut = Some (cuts refl i) }
terms-are-shown k ssa false is cuts = λ i. record { whole = is.terms i; cut = None }

pub values-listed : (k : Tree) (ssa : Ssa) (more : Bool) (ps : List Param) (lines : List ℕ) → ps ≡ map param_of k.params → IsNumbering k ssa → (more ≡ true → HasCuts k ssa)
    → lines ≡ argument_lines 0 ps ++ unit_lines ps (shown ssa more) (arguments ssa) ssa.units → lines ≡ values_text k more
unfolding values_text
values-listed k ssa more ps lines over is cuts e =
    e ∙ (λ i. argument_lines 0 (over i) ++ unit_lines (over i) (terms-are-shown k ssa more is cuts i) (arguments_first k ssa is i) (is.units i))

few-kept : {A : Type 0} (p : A → Bool) (xs : List A) → length (filter p xs) ≤ length xs
few-kept p [] = omega arith
few-kept p (x ∷ xs) = by (p x) (few-kept p xs)
  where
    by : (b : Bool) → length (filter p xs) ≤ length xs → length (cond b (x ∷ filter p xs) (filter p xs)) ≤ suc (length xs)
    by true h = omega (arith, h)
    by false h = omega (arith, h)

pub few-arguments : (ssa : Ssa) → IsSound ssa → arguments ssa ≤ 16
few-arguments ssa sound = omega (arith, sound.params, few-kept (λ p. is_integer p.kind) ssa.params)

pub few-values : (ssa : Ssa) → IsSound ssa → arguments ssa + length ssa.units ≤ 65536
few-values ssa sound = omega (arith, few-arguments ssa sound, kernels-are-small ssa sound)
