-- Operators after an expression, one step of reading them.
use Rattle.std.proofs.Common.{◌≡◌, ℕ, zero, suc, ◌+◌, ◌-◌, ◌<◌, Option, Some, None, Ok, refl, sym, ◌∙◌, ap, subst, arith, add-one}
use Rattle.vg_base.specs.Bind.{◌>>=◌}
use Rattle.vg_text.specs.declared.place.Place.{Place}
use Rattle.vg_text.specs.Words.{Reading}
use Rattle.vg_pseudo.specs.declared.fault.PseudoFault.{PseudoFault}
use Rattle.vg_pseudo.specs.declared.operators.BinaryOp.{BinaryOp}
use Rattle.vg_pseudo.specs.Reads.{Fails}
use Rattle.vg_pseudo.specs.Expressions.{Inner, Part, operator_at, joined_one, joined_at}
use Rattle.vg_pseudo.proofs.ItemLists.{fails-bind}

-- an operator that the code looked for one level looser
looked : (level : ℕ) (r : Reading) (o p : Option BinaryOp) (q : Reading) → operator_at (level + 1) r ≡ Ok (o, q) → o ≡ p → operator_at (suc level) r ≡ Ok (p, q)
looked level r o p q e s = ap (λ (n : ℕ). operator_at n r) (sym (add-one level)) ∙ e ∙ ap (λ (x : Option BinaryOp). Ok (x, q)) s

module _ (whole : Place) (inner : Inner) (room level : ℕ) (left : Part) (r : Reading) (o : Option BinaryOp) (q : Reading) (found : operator_at (level + 1) r ≡ Ok (o, q)) where
  -- no operator follows
  pub joined-stops : (joins : ℕ) → o ≡ None → joined_at whole inner room level joins left r ≡ Ok (left, q)
  unfolding joined_at
  joined-stops zero s = rw (looked level r o None q found s) refl
  joined-stops (suc joins) s = rw (looked level r o None q found s) refl

  -- what comes of one that does
  step : (joins : ℕ) (op : BinaryOp) → o ≡ Some op → joined_at whole inner room level (suc joins) left r ≡ (joined_one whole inner room level left op q >>= λ x. joined_at whole inner room level joins x.0 x.1)
  unfolding joined_at
  step joins op s = rw (looked level r o (Some op) q found s) refl

  pub joined-fails : (joins : ℕ) (op : BinaryOp) (fault : PseudoFault) → o ≡ Some op → 0 < joins → Fails fault (joined_one whole inner room level left op q) → Fails fault (joined_at whole inner room level joins left r)
  joined-fails zero op fault s some f = absurd (omega arith)
  joined-fails (suc joins) op fault s some f = subst (Fails fault) (sym (step joins op s)) (fails-bind fault (joined_one whole inner room level left op q) _ f)

  pub joined-more : (joins : ℕ) (op : BinaryOp) (x : Part) (p : Reading) → o ≡ Some op → 0 < joins → joined_one whole inner room level left op q ≡ Ok (x, p) → joined_at whole inner room level joins left r ≡ joined_at whole inner room level (joins - 1) x p
  joined-more zero op x p s some f = absurd (omega arith)
  joined-more (suc joins) op x p s some f =
      let less : joins ≡ suc joins - 1 = omega arith in
      step joins op s ∙ rw f (ap (λ (n : ℕ). joined_at whole inner room level n x p) less)
