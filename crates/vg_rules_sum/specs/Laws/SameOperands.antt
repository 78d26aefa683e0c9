-- One term twice.
use Rattle.std.proofs.Common.{◌≡◌, ℕ, true, Some, refl, sym, ap, ◌∙◌, subst, arith, inl}
use Rattle.std.specs.Int.Bits.{and_self, or_self, xor_self}
use Rattle.std.proofs.lemmas.Bool.{and_parts}
use Rattle.std.proofs.lemmas.Nat.{pow_pos}
use Rattle.vg_terms.specs.declared.term.TwoOp.{TwoOp}
use Rattle.vg_terms.specs.declared.term.TwoOp.TheVariants.{Add, Mul, And, Or, Xor, Smin, Smax, Umin, Umax, Eq, Slt, Ult, Cat}
use Rattle.vg_terms.specs.Chain.{makes_chains}
use Rattle.vg_terms.specs.Order.{is_same_term}
use Rattle.vg_terms.specs.Term.{Tree, two, width_of, WellFormed}
use Rattle.vg_terms.specs.Value.{two_value, value}
use Rattle.vg_terms.proofs.Chains.{chain_fits}
use Rattle.vg_terms.proofs.Constants.{either_same}
use Rattle.vg_terms.proofs.Measures.{falls_to_first, weight_some}
use Rattle.vg_terms.proofs.Orders.{same_term}
use Rattle.vg_rules_sum.specs.Constant.{is_known_twice, twice}
use Rattle.vg_rules_sum.specs.Rules.{same_operands}
use Rattle.vg_terms.specs.Table.{Promises, IsSound}
use Rattle.vg_terms.proofs.Tables.{given, tested}

-- the term of the operation on x twice, of width w as x is
keeps_itself : (op : TwoOp) (w : ℕ) (x : Tree) → twice op w x ≡ x → makes_chains op ≡ true →
    WellFormed (two op w x x) → ((a : ℕ) → two_value op w w a a ≡ a) → Promises (two op w x x) (twice op w x)
keeps_itself op w x e c g same =
    let fits = chain_fits op w (width_of x) (width_of x) c g.1 in
    subst (Promises (two op w x x)) (sym e) (record {
      keeps =
          record { well_formed = g.2; width = fits.0; value = λ env. sym (ap (λ n. two_value op w n (value env x) (value env x)) fits.0 ∙ same (value env x)) };
      falls = falls_to_first op w x x;
    })

twice-promises : (op : TwoOp) (w : ℕ) (x : Tree) → is_known_twice op ≡ true → WellFormed (two op w x x) →
    Promises (two op w x x) (twice op w x)
twice-promises And w x h g = keeps_itself And w x refl refl g and_self
twice-promises Or w x h g = keeps_itself Or w x refl refl g or_self
twice-promises Xor w x h g = record {
  keeps = record { well_formed = (g.0, pow_pos w); width = refl; value = λ env. sym (xor_self (value env x)) };
  falls = inl (omega (arith, weight_some x, g.0.0));
}
twice-promises Smin w x h g = keeps_itself Smin w x refl refl g (λ a. either_same _ a)
twice-promises Smax w x h g = keeps_itself Smax w x refl refl g (λ a. either_same _ a)
twice-promises Umin w x h g = keeps_itself Umin w x refl refl g (λ a. omega arith)
twice-promises Umax w x h g = keeps_itself Umax w x refl refl g (λ a. omega arith)
twice-promises Add w x h g = absurd (cc)
twice-promises Mul w x h g = absurd (cc)
twice-promises Eq w x h g = absurd (cc)
twice-promises Slt w x h g = absurd (cc)
twice-promises Ult w x h g = absurd (cc)
twice-promises Cat w x h g = absurd (cc)

pub same_operands-sound : IsSound same_operands
unfolding same_operands
same_operands-sound (two op w x y) new g e =
    let a = tested _ (Some (twice op w x)) new e in
    let tests = and_parts (is_known_twice op) (is_same_term x y) a.0 in
    let is : two op w x y ≡ two op w x x = ap (two op w x) (sym (same_term x y tests.1)) in
    subst (λ t. Promises t new) (sym is) (given _ _ new (twice-promises op w x tests.0 (subst WellFormed is g)) a.1)
same_operands-sound _ new g e = absurd (cc)
