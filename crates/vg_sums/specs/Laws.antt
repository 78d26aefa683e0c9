-- The laws of sums, in every environment.
use Rattle.std.specs.Prelude.{◌≡◌, true, IfSome}
use Rattle.vg_base.specs.Number.{residue}
use Rattle.vg_terms.specs.declared.value.Env.{Env}
use Rattle.vg_terms.specs.Term.{Tree, WellFormed, width_of}
use Rattle.vg_terms.specs.Value.{value}
use Rattle.vg_sums.specs.Same.{have_same_sum}
use Rattle.vg_sums.specs.Spans.{In, span}
use Rattle.vg_sums.specs.Sums.{sum_value}
use Rattle.vg_sums.specs.Terms.{sum_of}

-- the value of the sum of a term is congruent to the number of the term, and lies in its span
abbrev pub SumsAreCongruent : Type 0
SumsAreCongruent =
    (env : Env) (t : Tree) → WellFormed t
    → IfSome (sum_of t)
    (λ p. (residue (width_of t) (sum_value env p) ≡ value env t)
    × IfSome (span p) (λ s. In s (sum_value env p)))

-- terms with the same sum have equal values
abbrev pub SameSumsAreEqual : Type 0
SameSumsAreEqual =
    (env : Env) (t u : Tree) → WellFormed t → WellFormed u
    → have_same_sum t u ≡ true → value env t ≡ value env u
