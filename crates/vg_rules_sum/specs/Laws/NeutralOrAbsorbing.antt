-- A constant that is neutral or absorbs, on the right of an operation.
use Rattle.std.proofs.Common.{◌≡◌, ℕ, ◌%◌, ◌^◌, ◌<◌, true, refl, sym, ap, ◌∙◌, subst, arith}
use Rattle.std.specs.Prelude.{nat_eq}
use Rattle.std.specs.Int.Bits.{and_zero_r}
use Rattle.std.proofs.lemmas.Bool.{and_parts, eqb-true}
use Rattle.std.proofs.lemmas.Nat.{pow_pos}
use Rattle.std.proofs.Math.Nat.{mod-eq_of_lt}
use Rattle.vg_terms.specs.declared.term.TwoOp.{TwoOp}
use Rattle.vg_terms.specs.declared.term.TwoOp.TheVariants.{Add, Mul, And, Or, Xor, Smin, Smax, Umin, Umax, Eq, Slt, Ult, Cat}
use Rattle.vg_terms.specs.Chain.{makes_chains, neutral}
use Rattle.vg_terms.specs.Rule.{Keeps}
use Rattle.vg_terms.specs.Term.{Tree, constant, two, width_of, WellFormed}
use Rattle.vg_terms.specs.Value.{two_value, value}
use Rattle.vg_terms.proofs.Chains.{chain_fits}
use Rattle.vg_terms.proofs.Constants.{neutral_right, or_ones, smin_least, smax_greatest}
use Rattle.vg_terms.proofs.Measures.{falls_to_first, falls_to_second}
use Rattle.vg_terms.proofs.Values.{value-below}
use Rattle.vg_rules_sum.specs.Constant.{is_neutral, is_absorbing}
use Rattle.vg_rules_sum.specs.Rules.{neutral_or_absorbing}
use Rattle.vg_terms.specs.Table.{IsSound}
use Rattle.vg_terms.proofs.Tables.{given_else}

absorbing_chains : (op : TwoOp) (w v : ℕ) → is_absorbing op w v ≡ true → makes_chains op ≡ true
absorbing_chains Add w v h = refl
absorbing_chains Mul w v h = refl
absorbing_chains And w v h = refl
absorbing_chains Or w v h = refl
absorbing_chains Xor w v h = refl
absorbing_chains Smin w v h = refl
absorbing_chains Smax w v h = refl
absorbing_chains Umin w v h = refl
absorbing_chains Umax w v h = refl
absorbing_chains Eq w v h = absurd (cc)
absorbing_chains Slt w v h = absurd (cc)
absorbing_chains Ult w v h = absurd (cc)
absorbing_chains Cat w v h = absurd (cc)

-- a number that an operation gives beside a, put for an equal one
at_number : (op : TwoOp) (w a c v : ℕ) → nat_eq c v ≡ true → two_value op w w a c ≡ c → two_value op w w a v ≡ v
at_number op w a c v h e = subst (λ n. two_value op w w a n ≡ n) (eqb-true c v h) e

pub absorbing_right : (op : TwoOp) (w a v : ℕ) → 0 < w → a < 2 ^ w → is_absorbing op w v ≡ true →
    two_value op w w a v ≡ v
absorbing_right Mul w a v h p e = at_number Mul w a 0 v e (ap (λ n. n % 2 ^ w) (omega arith) ∙ mod-eq_of_lt (pow_pos w))
absorbing_right And w a v h p e = at_number And w a 0 v e (and_zero_r a)
absorbing_right Or w a v h p e = at_number Or w a _ v e (or_ones w a p)
absorbing_right Smin w a v h p e = at_number Smin w a _ v e (smin_least w a h p)
absorbing_right Smax w a v h p e = at_number Smax w a _ v e (smax_greatest w a h p)
absorbing_right Umin w a v h p e = at_number Umin w a 0 v e (omega arith)
absorbing_right Umax w a v h p e = at_number Umax w a _ v e (omega arith)
absorbing_right Add w a v h p e = absurd (cc)
absorbing_right Xor w a v h p e = absurd (cc)
absorbing_right Eq w a v h p e = absurd (cc)
absorbing_right Slt w a v h p e = absurd (cc)
absorbing_right Ult w a v h p e = absurd (cc)
absorbing_right Cat w a v h p e = absurd (cc)

neutral-keeps : (op : TwoOp) (w n v : ℕ) (x : Tree) → is_neutral op w v ≡ true →
    WellFormed (two op w x (constant n v)) → Keeps (two op w x (constant n v)) x
neutral-keeps op w n v x t g =
    let tests = and_parts (makes_chains op) _ t in
    let fits = chain_fits op w (width_of x) n tests.0 g.1 in
    let is : neutral op w ≡ v = eqb-true (neutral op w) v tests.1 in
    record {
      well_formed = g.2;
      width = fits.0;
      value = λ env.
          sym (neutral_right op w (value env x) g.0.0 tests.0 (subst (λ m. value env x < 2 ^ m) fits.0 (value-below env x g.2)))
          ∙ ap (two_value op w w (value env x)) is ∙ ap (λ m. two_value op w m (value env x) v) (sym fits.1);
    }

absorbing-keeps : (op : TwoOp) (w n v : ℕ) (x : Tree) → is_absorbing op w v ≡ true →
    WellFormed (two op w x (constant n v)) → Keeps (two op w x (constant n v)) (constant n v)
absorbing-keeps op w n v x t g =
    let fits = chain_fits op w (width_of x) n (absorbing_chains op w v t) g.1 in
    record {
      well_formed = g.3;
      width = fits.1;
      value = λ env.
          sym (absorbing_right op w (value env x) v g.0.0 (subst (λ m. value env x < 2 ^ m) fits.0 (value-below env x g.2)) t)
          ∙ ap (λ m. two_value op w m (value env x) v) (sym fits.1);
    }

pub neutral_or_absorbing-sound : IsSound neutral_or_absorbing
unfolding neutral_or_absorbing
neutral_or_absorbing-sound (two op w x (constant n v)) new g e =
    given_else (is_neutral op w v) (is_absorbing op w v) (two op w x (constant n v)) x (constant n v) new
    (λ t. record { keeps = neutral-keeps op w n v x t g; falls = falls_to_first op w x (constant n v) })
    (λ t. record { keeps = absorbing-keeps op w n v x t g; falls = falls_to_second op w x (constant n v) }) e
neutral_or_absorbing-sound _ new g e = absurd (cc)
