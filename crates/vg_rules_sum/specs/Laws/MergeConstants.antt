-- Two constants in one chain: the operation is associative.
use Rattle.std.proofs.Common.{◌≡◌, ℕ, ◌^◌, ◌<◌, true, Some, refl, sym, ap, ◌∙◌, subst, arith, inl}
use Rattle.std.proofs.lemmas.Bool.{and_parts}
use Rattle.vg_terms.specs.declared.term.TwoOp.{TwoOp}
use Rattle.vg_terms.specs.declared.value.Env.{Env}
use Rattle.vg_terms.specs.Chain.{makes_chains, same_op}
use Rattle.vg_terms.specs.Measure.{weight}
use Rattle.vg_terms.specs.Rule.{Keeps}
use Rattle.vg_terms.specs.Term.{Tree, two, width_of, WellFormed}
use Rattle.vg_terms.specs.Value.{two_value, value}
use Rattle.vg_terms.proofs.Chains.{same_op-same, chain_fits, fits_chain, chain_weight}
use Rattle.vg_terms.proofs.Measures.{weight_some}
use Rattle.vg_terms.proofs.Totals.{chain_op}
use Rattle.vg_terms.proofs.Values.{value-below}
use Rattle.vg_terms.specs.Root.{is_constant}
use Rattle.vg_rules_sum.specs.Constant.{nothing, folded}
use Rattle.vg_rules_sum.specs.Rules.{merge_constants}
use Rattle.vg_terms.specs.Table.{Promises, IsSound}
use Rattle.vg_terms.proofs.Tables.{given, tested}
use Rattle.vg_rules_sum.specs.Laws.FoldConstants.{two-fixed}

merged : TwoOp → ℕ → Tree → Tree → Tree → Tree
merged op w x c d = two op w x (folded (two op w c d))

-- a chain of one operation, its terms all of one width
merged-keeps : (op : TwoOp) (w : ℕ) (x c d : Tree) → makes_chains op ≡ true → is_constant c ≡ true →
    is_constant d ≡ true → width_of d ≡ w → WellFormed (two op w (two op w x c) d) →
    Keeps (two op w (two op w x c) d) (merged op w x c d)
unfolding merged
merged-keeps op w x c d m hc hd e g =
    let fits = chain_fits op w (width_of x) (width_of c) m g.2.1 in
    let both : WellFormed (two op w c d) = (g.0, fits_chain op w (width_of c) (width_of d) m fits.1 e, g.2.3, g.3) in
    let laws = chain_op op w g.0.0 m in
    let below =
    λ (env : Env) (t : Tree) (h : WellFormed t) (s : width_of t ≡ w). subst (λ v. value env t < 2 ^ v) s (value-below env t h) in
    record {
      well_formed =
          (g.0, fits_chain op w (width_of x) w m fits.0 refl, g.2.2, (g.0, value-below nothing (two op w c d) both));
      width = refl;
      value = λ env.
          ap (two_value op w w (value env x)) (two-fixed c d hc hd nothing env (two_value op w (width_of d))
          ∙ ap (λ n. two_value op w n (value env c) (value env d)) e)
          ∙ sym (laws.assoc (value env x) (value env c) (value env d) (below env x g.2.2 fits.0) (below env c g.2.3 fits.1) (below env d g.3 e))
          ∙ ap (λ n. two_value op w w (two_value op w n (value env x) (value env c)) (value env d)) (sym fits.1)
          ∙ ap (λ n. two_value op w n (two_value op w (width_of c) (value env x) (value env c)) (value env d)) (sym e);
    }

merged-falls : (op : TwoOp) (w : ℕ) (x c d : Tree) → makes_chains op ≡ true →
    weight (merged op w x c d) < weight (two op w (two op w x c) d)
unfolding merged
merged-falls op w x c d m =
    omega (arith, chain_weight op w (width_of x) m, chain_weight op w w m, weight_some c, weight_some d)

pub merge_constants-sound : IsSound merge_constants
unfolding merged merge_constants
merge_constants-sound (two op w (two o v x c) d) new g e =
    let a = tested _ (Some (merged op w x c d)) new e in
    let chains = and_parts (makes_chains op) _ a.0 in
    let same = and_parts (same_op op o) _ chains.1 in
    let both = and_parts (is_constant c) (is_constant d) same.1 in
    let fits = chain_fits op w v (width_of d) chains.0 g.1 in
    let is : two op w (two o v x c) d ≡ two op w (two op w x c) d =
    ap (λ p. two op w (two p v x c) d) (sym (same_op-same op o same.0))
    ∙ ap (λ n. two op w (two op n x c) d) fits.0 in
    let keeps = merged-keeps op w x c d chains.0 both.0 both.1 fits.1 (subst WellFormed is g) in
    let made : Promises (two op w (two op w x c) d) (merged op w x c d) =
    record { keeps = keeps; falls = inl (merged-falls op w x c d chains.0) } in
    subst (λ t. Promises t new) (sym is) (given _ _ new made a.1)
merge_constants-sound _ new g e = absurd (cc)
