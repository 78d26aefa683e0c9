-- A term whose operands are exchanged at the root keeps its width and its number.
use Rattle.std.proofs.Common.{◌≡◌, ◌^◌, ◌<◌, ℕ, true, Some, None, refl, sym, ap, subst, ◌∙◌, inl, inr}
use Rattle.std.specs.Prelude.{◌&&◌}
use Rattle.std.proofs.lemmas.Bool.{and_parts, cases_Bool, cond-true, cond-false}
use Rattle.std.proofs.lemmas.Option.{none-some}
use Rattle.vg_terms.specs.declared.term.TwoOp.{TwoOp}
use Rattle.vg_terms.specs.declared.value.Env.{Env}
use Rattle.vg_terms.specs.Chain.{makes_chains}
use Rattle.vg_terms.specs.Root.{is_constant}
use Rattle.vg_terms.specs.Rule.{Keeps}
use Rattle.vg_terms.specs.Term.{Tree, leaf, constant, one, two, sel, width_of, WellFormed}
use Rattle.vg_terms.specs.Value.{two_value, value}
use Rattle.vg_terms.proofs.Chains.{chain_fits, fits_chain}
use Rattle.vg_terms.proofs.Totals.{chain_op}
use Rattle.vg_terms.proofs.Values.{value-below}
use Rattle.vg_shapes.specs.Fits.{TurnedKeepNumbers}

exchanged : (op : TwoOp) (w : ℕ) (x y : Tree) → makes_chains op ≡ true → WellFormed (two op w x y) → Keeps (two op w x y) (two op w y x)
exchanged op w x y chains h =
    let wide = chain_fits op w (width_of x) (width_of y) chains h.1 in
    let below : (env : Env) (t : Tree) → WellFormed t → width_of t ≡ w → value env t < 2 ^ w =
    λ env t formed e. subst (λ n. value env t < 2 ^ n) e (value-below env t formed) in
    record {
      well_formed = (h.0, fits_chain op w (width_of y) (width_of x) chains wide.1 wide.0, h.3, h.2);
      width = refl;
      value = λ env.
          ap (λ n. two_value op w n (value env y) (value env x)) wide.0
          ∙ (chain_op op w h.0.0 chains).comm (value env y) (value env x) (below env y h.3 wide.1) (below env x h.2 wide.0)
          ∙ sym (ap (λ n. two_value op w n (value env x) (value env y)) wide.1);
    }

pub turned-keeps : TurnedKeepNumbers
turned-keeps (leaf w k) u h e = absurd (none-some u e)
turned-keeps (constant w n) u h e = absurd (none-some u e)
turned-keeps (one op w k x) u h e = absurd (none-some u e)
turned-keeps (sel w c x y) u h e = absurd (none-some u e)
turned-keeps (two op w x y) u h e = elim (cases_Bool (makes_chains op && is_constant y)) [
  | inl t ↦
      let some : Some (two op w y x) ≡ Some u = sym (cond-true _ (Some (two op w y x)) None t) ∙ e in
      let same : two op w y x ≡ u = cc in
      subst (Keeps (two op w x y)) same (exchanged op w x y (and_parts (makes_chains op) (is_constant y) t).0 h)
  | inr f ↦ absurd (none-some u (sym (cond-false _ (Some (two op w y x)) None f) ∙ e))
]
