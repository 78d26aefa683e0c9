-- Extensions of extensions, and of numbers that are not negative.
use Rattle.std.proofs.Common.{ℕ, ◌-◌, ◌<◌, ◌≤◌, refl, sym, arith, inl}
use Rattle.std.specs.Prelude.{nat_lt}
use Rattle.std.proofs.lemmas.Bool.{ltb-true}
use Rattle.vg_terms.specs.declared.term.OneOp.TheVariants.{Zext, Sext}
use Rattle.vg_terms.specs.Term.{Tree, one, width_of, WellFormed}
use Rattle.vg_terms.specs.Value.{value}
use Rattle.vg_terms.specs.Known.{known}
use Rattle.vg_base.proofs.LowBits.{below_wider, extend-low}
use Rattle.vg_terms.proofs.Values.{value-below}
use Rattle.vg_base.proofs.Signed.{extend-extend}
use Rattle.vg_terms.proofs.Soundness.{width_some, known-holds}
use Rattle.vg_rules_width.specs.Rules.{extend_extend, sign_of_nonnegative}
use Rattle.vg_terms.specs.Table.{Promises, IsSound}
use Rattle.vg_terms.proofs.Tables.{given, given_if}

extend_zext : (w z m y : ℕ) (x : Tree) → WellFormed (one Zext w z (one Zext m y x)) →
    Promises (one Zext w z (one Zext m y x)) (one Zext w 0 x)
extend_zext w z m y x f = record {
  keeps =
      record { well_formed = (f.0, (omega (arith, f.1.0, f.2.1.0), refl), f.2.2); width = refl; value = λ env. refl };
  falls = inl (omega arith);
}

extend_sext : (w z m y : ℕ) (x : Tree) → WellFormed (one Sext w z (one Sext m y x)) →
    Promises (one Sext w z (one Sext m y x)) (one Sext w 0 x)
extend_sext w z m y x f = record {
  keeps = record {
    well_formed = (f.0, (omega (arith, f.1.0, f.2.1.0), refl), f.2.2);
    width = refl;
    value =
        λ env. sym (extend-extend w m (width_of x) (value env x) (width_some x f.2.2).0 f.2.1.0 (value-below env x f.2.2));
  };
  falls = inl (omega arith);
}

extend_both : (w z m y : ℕ) (x : Tree) → WellFormed (one Sext w z (one Zext m y x)) →
    Promises (one Sext w z (one Zext m y x)) (one Zext w 0 x)
extend_both w z m y x f =
    let less : width_of x ≤ m - 1 = omega (arith, f.2.1.0) in
    record {
      keeps = record {
        well_formed = (f.0, (omega (arith, f.1.0, f.2.1.0), refl), f.2.2);
        width = refl;
        value =
            λ env. sym (extend-low w m (value env x) (below_wider (value env x) (width_of x) (m - 1) (value-below env x f.2.2) less) f.1.0);
      };
      falls = inl (omega arith);
    }

pub extend_extend-sound : IsSound extend_extend
unfolding extend_extend
extend_extend-sound (one Zext w z (one Zext m y x)) new f e = given _ _ new (extend_zext w z m y x f) e
extend_extend-sound (one Sext w z (one Sext m y x)) new f e = given _ _ new (extend_sext w z m y x f) e
extend_extend-sound (one Sext w z (one Zext m y x)) new f e = given _ _ new (extend_both w z m y x f) e
extend_extend-sound _ new f e = absurd (cc)

extend_nonnegative : (w z : ℕ) (x : Tree) → WellFormed (one Sext w z x) → (known x).unsigned < width_of x →
    Promises (one Sext w z x) (one Zext w 0 x)
extend_nonnegative w z x f h =
    let u = (known x).unsigned in
    let less : u ≤ width_of x - 1 = omega arith in
    record {
      keeps = record {
        well_formed = (f.0, (f.1.0, refl), f.2);
        width = refl;
        value =
            λ env. sym (extend-low w (width_of x) (value env x) (below_wider (value env x) u (width_of x - 1) (known-holds env x f.2).below less) f.1.0);
      };
      falls = inl (omega arith);
    }

pub sign_of_nonnegative-sound : IsSound sign_of_nonnegative
unfolding sign_of_nonnegative
sign_of_nonnegative-sound (one Sext w z x) new f e =
    given_if (nat_lt (known x).unsigned (width_of x)) _ _ new (λ t. extend_nonnegative w z x f (ltb-true _ _ t)) e
sign_of_nonnegative-sound _ new f e = absurd (cc)
