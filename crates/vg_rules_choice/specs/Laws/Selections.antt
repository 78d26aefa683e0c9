-- Selections of one term, by a constant, and by the opposite of a condition.
use Rattle.std.proofs.Common.{◌≡◌, ℕ, zero, suc, ◌^◌, ◌<◌, Bool, true, false, Some, refl, sym, ap, ◌∙◌, subst, arith, inl, inr}
use Rattle.std.specs.Prelude.{nat_eq, bit_xor, not, if◌then◌else◌}
use Rattle.std.proofs.lemmas.Bool.{cases_Bool, eqb-true, cond-true, cond-false, cond_both}
use Rattle.vg_terms.specs.declared.term.TwoOp.TheVariants.{Xor}
use Rattle.vg_terms.specs.Order.{is_same_term}
use Rattle.vg_terms.specs.Term.{Tree, constant, two, sel, width_of, WellFormed}
use Rattle.vg_terms.specs.Value.{value}
use Rattle.vg_terms.proofs.Constants.{either_same}
use Rattle.vg_terms.proofs.Measures.{falls_to_then, falls_to_else}
use Rattle.vg_terms.proofs.Orders.{same_term}
use Rattle.vg_terms.proofs.Values.{value-below}
use Rattle.vg_rules_choice.specs.Rules.{selected, known_selection, negated_selection}
use Rattle.vg_terms.specs.Table.{Promises, IsSound}
use Rattle.vg_terms.proofs.Tables.{given, given_if}

one_term : (w : ℕ) (c x y : Tree) → x ≡ y → WellFormed (sel w c x y) → Promises (sel w c x y) x
one_term w c x y e g = record {
  keeps = record {
    well_formed = g.3;
    width = g.1.1;
    value =
        λ env. sym (ap (λ t. if nat_eq (value env c) 1 then value env x else value env t) (sym e)
        ∙ either_same _ (value env x));
  };
  falls = falls_to_then w c x y;
}

by_constant : (w n v : ℕ) (x y : Tree) → WellFormed (sel w (constant n v) x y) →
    Promises (sel w (constant n v) x y) (if nat_eq v 1 then x else y)
by_constant w n v x y g =
    cond_both (nat_eq v 1) x y (Promises (sel w (constant n v) x y))
    (λ t. record { keeps = record { well_formed = g.3; width = g.1.1; value = λ env. sym (cond-true _ _ _ t) }; falls = falls_to_then w (constant n v) x y })
    (λ t. record { keeps = record { well_formed = g.4; width = g.1.2; value = λ env. sym (cond-false _ _ _ t) }; falls = falls_to_else w (constant n v) x y })

selected-promises : (w : ℕ) (c x y new : Tree) → WellFormed (sel w c x y) → selected c x y ≡ Some new →
    Promises (sel w c x y) new
selected-promises w (constant n v) x y new g e = given _ _ new (by_constant w n v x y g) e
selected-promises w _ x y new g e = absurd (cc)

pub known_selection-sound : IsSound known_selection
unfolding known_selection
known_selection-sound (sel w c x y) new g e =
    elim (cases_Bool (is_same_term x y)) [
      | inl t ↦ given _ x new (one_term w c x y (same_term x y t) g) (sym (cond-true _ _ _ t) ∙ e)
      | inr f ↦ selected-promises w c x y new g (sym (cond-false _ _ _ f) ∙ e)
    ]
known_selection-sound _ new g e = absurd (cc)

-- the opposite of one bit
opposite : (a : ℕ) → a < 2 → nat_eq (bit_xor a 1) 1 ≡ not (nat_eq a 1)
opposite zero h = refl
opposite (suc zero) h = refl
opposite (suc (suc a)) h = absurd (omega arith)

exchanged : (b : Bool) (m n : ℕ) → (if b then n else m) ≡ (if not b then m else n)
exchanged true m n = refl
exchanged false m n = refl

by_opposite : (w m n v : ℕ) (c x y : Tree) → v ≡ 1 → WellFormed (sel w (two Xor m c (constant n v)) x y) →
    Promises (sel w (two Xor m c (constant n v)) x y) (sel w c y x)
by_opposite w m n v c x y e g =
    let one : width_of c ≡ 1 = g.2.1.0 ∙ g.1.0 in
    record {
      keeps = record {
        well_formed = (g.0, (one, g.1.2, g.1.1), g.2.2, g.4, g.3);
        width = refl;
        value = λ env.
            let bit : value env c < 2 = subst (λ k. value env c < 2 ^ k) one (value-below env c g.2.2) in
            let test : nat_eq (bit_xor (value env c) v) 1 ≡ not (nat_eq (value env c) 1) =
            ap (λ k. nat_eq (bit_xor (value env c) k) 1) e ∙ opposite (value env c) bit in
            exchanged (nat_eq (value env c) 1) (value env x) (value env y)
            ∙ sym (ap (λ b. if b then value env x else value env y) test);
      };
      falls = inl (omega arith);
    }

pub negated_selection-sound : IsSound negated_selection
unfolding negated_selection
negated_selection-sound (sel w (two Xor m c (constant n v)) x y) new g e =
    given_if (nat_eq v 1) _ _ new (λ t. by_opposite w m n v c x y (eqb-true v 1 t) g) e
negated_selection-sound _ new g e = absurd (cc)
