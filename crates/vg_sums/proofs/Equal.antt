-- Terms with the same sum have equal values.
use Rattle.std.proofs.Common.{◌≡◌, ℕ, ◌+◌, ◌%◌, ◌^◌, refl, sym, ap, ◌∙◌, subst, arith, true, Bool}
use Rattle.std.specs.Prelude.{ℤ, pos, negsuc, ◌+ℤ◌, ◌*ℤ◌, ◌&&◌, nat_eq, Option, Some, None, IfSome}
use Rattle.std.proofs.lemmas.Int.{ints}
use Rattle.std.proofs.lemmas.Bool.{and_parts, eqb-true}
use Rattle.std.proofs.lemmas.Nat.{pow_pos}
use Rattle.std.proofs.Math.Nat.{mod-eq_of_lt}
use Rattle.vg_base.specs.Trap.{◌>>=◌}
use Rattle.vg_base.specs.Number.{residue}
use Rattle.vg_terms.specs.declared.value.Env.{Env}
use Rattle.vg_terms.specs.Term.{Tree, WellFormed, width_of}
use Rattle.vg_terms.specs.Value.{value}
use Rattle.vg_sums.specs.Arithmetic.{subtract}
use Rattle.vg_sums.specs.Laws.{SameSumsAreEqual, SumsAreCongruent}
use Rattle.vg_sums.specs.Same.{difference, have_same_sum, is_vanishing, vanishes}
use Rattle.vg_sums.specs.Spans.{In, span}
use Rattle.vg_sums.specs.Sums.{Polynomial, number, plus, sum_value}
use Rattle.vg_sums.specs.Terms.{sum_of}
use Rattle.vg_sums.proofs.Congruent.{IsOf, sum_of-stands}
use Rattle.vg_sums.proofs.Floors.{congruent}
use Rattle.vg_sums.proofs.Spans.{span-value}
use Rattle.vg_sums.proofs.Values.{atom_at, subtract-value}
use Rattle.vg_sums.proofs.Whole.{map_some, then_some}

pub are_congruent : SumsAreCongruent
are_congruent env t h =
    map_some (IsOf env (width_of t) (value env t)) (λ p. (residue (width_of t) (sum_value env p) ≡ value env t) × IfSome (span p) (λ s. In s (sum_value env p))) (sum_of t) (sum_of-stands env t h)
    (λ p e. (e, span-value env p))

none_left : (w : ℕ) → residue w (pos 0) ≡ 0
none_left w = mod-eq_of_lt (pow_pos w)

-- a sum whose coefficients are 0 modulo 2 ^ w is
vanishes-value : (env : Env) (w : ℕ) (p : Polynomial) → vanishes w p ≡ true → residue w (sum_value env p) ≡ 0
vanishes-value env w (number z) t = eqb-true (residue w z) 0 t
vanishes-value env w (plus k i f r) t =
    let parts = and_parts (vanishes w f) (vanishes w r) t in
    let a = atom_at env k i in
    let none : a *ℤ pos 0 +ℤ pos 0 ≡ pos 0 = nothing_of a in
    congruent w a (sum_value env f) (pos 0) (sum_value env r) (pos 0) (vanishes-value env w f parts.0 ∙ sym (none_left w)) (vanishes-value env w r parts.1 ∙ sym (none_left w))
    ∙ ap (residue w) none ∙ none_left w
  where
    nothing_of : (x : ℤ) → x *ℤ pos 0 +ℤ pos 0 ≡ pos 0
    nothing_of x = omega (arith, ints)

-- numbers with a difference that is 0 modulo 2 ^ w
equal-residues : (w : ℕ) (d p q : ℤ) → d ≡ p +ℤ negsuc 0 *ℤ q → residue w d ≡ 0 → residue w p ≡ residue w q
equal-residues w d p q e h =
    let whole : p ≡ pos 1 *ℤ d +ℤ q = omega (arith, ints) in
    let rest : pos 1 *ℤ pos 0 +ℤ q ≡ q = omega (arith, ints) in
    ap (residue w) whole ∙ congruent w (pos 1) d (pos 0) q q (h ∙ sym (none_left w)) refl ∙ ap (residue w) rest

vanishing-means : {X : Type 0} (w : ℕ) (m : Option Polynomial) → IfSome m (λ d. vanishes w d ≡ true → X) → is_vanishing w m ≡ true → X
vanishing-means w (Some d) h t = h t
vanishing-means w None h t = absurd (cc)

difference-means : (env : Env) (t u : Tree) → WellFormed t → WellFormed u → width_of t ≡ width_of u → IfSome (difference t u) (λ d. vanishes (width_of t) d ≡ true → value env t ≡ value env u)
difference-means env t u h k w =
    then_some (IsOf env (width_of t) (value env t)) (λ d. vanishes (width_of t) d ≡ true → value env t ≡ value env u) (sum_of t) _ (sum_of-stands env t h)
    (λ p e. then_some (IsOf env (width_of u) (value env u)) (λ d. vanishes (width_of t) d ≡ true → value env t ≡ value env u) (sum_of u) (subtract p) (sum_of-stands env u k)
    (λ q f. map_some (λ d. sum_value env d ≡ sum_value env p +ℤ negsuc 0 *ℤ sum_value env q) (λ d. vanishes (width_of t) d ≡ true → value env t ≡ value env u) (subtract p q) (subtract-value env p q)
    (λ d g v. sym e ∙ equal-residues (width_of t) (sum_value env d) (sum_value env p) (sum_value env q) g (vanishes-value env (width_of t) d v) ∙ ap (λ n. residue n (sum_value env q)) w ∙ f)))

pub are_equal : SameSumsAreEqual
are_equal env t u h k e =
    let parts = and_parts (nat_eq (width_of t) (width_of u)) (is_vanishing (width_of t) (difference t u)) e in
    vanishing-means (width_of t) (difference t u) (difference-means env t u h k (eqb-true (width_of t) (width_of u) parts.0)) parts.1

pub same_means : (t u : Tree) (same : Bool) → WellFormed t → WellFormed u → same ≡ have_same_sum t u → same ≡ true → (env : Env) → value env t ≡ value env u
same_means t u same h k e f env = are_equal env t u h k (sym e ∙ f)
