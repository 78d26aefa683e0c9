-- Shifts by 0, of extensions and of shifts.
use Rattle.std.proofs.Common.{◌≡◌, ℕ, ◌+◌, ◌-◌, ◌*◌, ◌/◌, ◌^◌, ◌<◌, ◌≤◌, refl, sym, ap, ◌∙◌, subst, arith, inl}
use Rattle.std.specs.Prelude.{ℤ, pos, negsuc, min, nat_lt, nat_eq}
use Rattle.std.proofs.lemmas.Bool.{eqb-true, ltb-true, ltb-false, cond_both}
use Rattle.std.proofs.lemmas.Nat.{pow_pos, shr-shr}
use Rattle.vg_base.specs.Bits.{signed_at}
use Rattle.vg_terms.specs.declared.term.OneOp.{OneOp}
use Rattle.vg_terms.specs.declared.term.OneOp.TheVariants.{Zext, Sext, Lshr, Ashr}
use Rattle.vg_terms.specs.declared.value.Env.{Env}
use Rattle.vg_terms.specs.Term.{Tree, one, constant, width_of, IsWidth, WellFormed}
use Rattle.vg_base.specs.Number.{residue, floor_shift}
use Rattle.vg_terms.specs.Value.{one_value, value}
use Rattle.vg_terms.specs.Measure.{one_weight}
use Rattle.vg_terms.proofs.Measures.{weight_some}
use Rattle.vg_terms.proofs.Values.{value-below}
use Rattle.vg_base.proofs.Signed.{residue-signed}
use Rattle.vg_terms.proofs.Shifts.{shifted_out, signed_shift-zext, signed_shift-sext, signed_shift-shift}
use Rattle.vg_terms.proofs.Soundness.{width_some}
use Rattle.vg_rules_width.specs.Rules.{shift_by_zero, shifted_zext, shifted_sext, shift_of_extension, shifted_far, shift_of_shift}
use Rattle.vg_terms.specs.Table.{Promises, IsSound}
use Rattle.vg_terms.proofs.Tables.{given, given_if}

over_one : (n : ℕ) → n / 2 ^ 0 ≡ n
over_one n = omega arith

floor_shift-zero : (z : ℤ) → floor_shift z 0 ≡ z
floor_shift-zero (pos n) = ap pos (over_one n)
floor_shift-zero (negsuc n) = ap negsuc (over_one n)

shift_zero : (w k : ℕ) (x : Tree) → WellFormed (one Lshr w k x) → k ≡ 0 → Promises (one Lshr w k x) x
shift_zero w k x f h = record {
  keeps =
      record {
        well_formed = f.2;
        width = f.1.0;
        value = λ env. sym (ap (λ j. value env x / 2 ^ j) h
            ∙ over_one (value env x));
      };
  falls = inl (omega (arith, f.0.0));
}

signed_shift_zero : (w k : ℕ) (x : Tree) → WellFormed (one Ashr w k x) → k ≡ 0 → Promises (one Ashr w k x) x
signed_shift_zero w k x f h = record {
  keeps = record {
    well_formed = f.2;
    width = f.1.0;
    value =
        λ env. sym (ap (λ j. residue w (floor_shift (signed_at (width_of x) (value env x)) j)) h
        ∙ ap (residue w) (floor_shift-zero (signed_at (width_of x) (value env x)))
        ∙ ap (λ v. residue v (signed_at (width_of x) (value env x))) (sym f.1.0)
        ∙ residue-signed (width_of x) (value env x) (value-below env x f.2));
  };
  falls = inl (omega arith);
}

pub shift_by_zero-sound : IsSound shift_by_zero
unfolding shift_by_zero
shift_by_zero-sound (one Lshr w k x) new f e =
    given_if (nat_eq k 0) _ _ new (λ t. shift_zero w k x f (eqb-true k 0 t)) e
shift_by_zero-sound (one Ashr w k x) new f e =
    given_if (nat_eq k 0) _ _ new (λ t. signed_shift_zero w k x f (eqb-true k 0 t)) e
shift_by_zero-sound _ new f e = absurd (cc)

-- a shift whose number is that of x shifted below zeros
below_zeros : (op : OneOp) (w k m y : ℕ) (x : Tree) → IsWidth w → width_of x < w → WellFormed x →
    8 * w ≤ one_weight op w → ((env : Env) → one_value op w k m (value env x) ≡ value env x / 2 ^ k) →
    Promises (one op w k (one Zext m y x)) (shifted_zext w k x)
below_zeros op w k m y x i l f heavy same =
    cond_both (nat_lt k (width_of x)) (one Zext w 0 (one Lshr (width_of x) k x)) (constant w 0) (Promises (one op w k (one Zext m y x)))
    (λ t. record {
      keeps = record {
        well_formed = (i, (l, refl), (width_some x f, (refl, ltb-true k (width_of x) t), f));
        width = refl;
        value = λ env. sym (same env);
      };
      falls = inl (omega arith);
    })
    (λ t. record {
      keeps = record {
        well_formed = (i, pow_pos w);
        width = refl;
        value =
            λ env. sym (same env
            ∙ shifted_out (width_of x) k (value env x) (value-below env x f) (ltb-false k (width_of x) t));
      };
      falls = inl (omega (arith, weight_some x, i.0));
    })

shift_zext : (w k m y : ℕ) (x : Tree) → WellFormed (one Lshr w k (one Zext m y x)) →
    Promises (one Lshr w k (one Zext m y x)) (shifted_zext w k x)
shift_zext w k m y x f =
    below_zeros Lshr w k m y x f.0 (omega (arith, f.1.0, f.2.1.0)) f.2.2 (omega arith) (λ env. refl)

signed_shift_zext : (w k m y : ℕ) (x : Tree) → WellFormed (one Ashr w k (one Zext m y x)) →
    Promises (one Ashr w k (one Zext m y x)) (shifted_zext w k x)
signed_shift_zext w k m y x f =
    let l : width_of x < w = omega (arith, f.1.0, f.2.1.0) in
    below_zeros Ashr w k m y x f.0 l f.2.2 (omega arith) (λ env. ap (λ n. residue w (floor_shift (signed_at n (value env x)) k)) f.1.0 ∙ signed_shift-zext w (width_of x) k (value env x) l (value-below env x f.2.2))

signed_shift_sext : (w k m y : ℕ) (x : Tree) → WellFormed (one Ashr w k (one Sext m y x)) →
    Promises (one Ashr w k (one Sext m y x)) (shifted_sext w k x)
signed_shift_sext w k m y x f =
    let n = width_of x in
    let i = width_some x f.2.2 in
    let l : n < w = omega (arith, f.1.0, f.2.1.0) in
    let j : min k (n - 1) < n = omega (arith, i.0) in
    record {
      keeps = record {
        well_formed = (f.0, (l, refl), (i, (refl, j), f.2.2));
        width = refl;
        value =
            λ env. sym (ap (λ c. residue w (floor_shift (signed_at c (residue c (signed_at n (value env x)))) k)) f.1.0 ∙ signed_shift-sext w n k (value env x) i.0 l (value-below env x f.2.2));
      };
      falls = inl (omega arith);
    }

pub shift_of_extension-sound : IsSound shift_of_extension
unfolding shift_of_extension
shift_of_extension-sound (one Lshr w k (one Zext m y x)) new f e = given _ _ new (shift_zext w k m y x f) e
shift_of_extension-sound (one Ashr w k (one Zext m y x)) new f e = given _ _ new (signed_shift_zext w k m y x f) e
shift_of_extension-sound (one Ashr w k (one Sext m y x)) new f e = given _ _ new (signed_shift_sext w k m y x f) e
shift_of_extension-sound _ new f e = absurd (cc)

shift_twice : (w k m j : ℕ) (x : Tree) → WellFormed (one Lshr w k (one Lshr m j x)) →
    Promises (one Lshr w k (one Lshr m j x)) (shifted_far Lshr w (j + k) x)
shift_twice w k m j x f =
    let e : width_of x ≡ w = f.2.1.0 ∙ f.1.0 in
    cond_both (nat_lt (j + k) w) (one Lshr w (j + k) x) (constant w 0) (Promises (one Lshr w k (one Lshr m j x)))
    (λ t. record {
      keeps = record {
        well_formed = (f.0, (e, ltb-true (j + k) w t), f.2.2);
        width = refl;
        value = λ env. sym (shr-shr (value env x) j k);
      };
      falls = inl (omega (arith, f.2.0.0));
    })
    (λ t. record {
      keeps = record {
        well_formed = (f.0, pow_pos w);
        width = refl;
        value =
            λ env. sym (shr-shr (value env x) j k
            ∙ shifted_out w (j + k) (value env x) (subst (λ n. value env x < 2 ^ n) e (value-below env x f.2.2)) (ltb-false (j + k) w t));
      };
      falls = inl (omega (arith, weight_some x, f.0.0));
    })

signed_shift_twice : (w k m j : ℕ) (x : Tree) → WellFormed (one Ashr w k (one Ashr m j x)) →
    Promises (one Ashr w k (one Ashr m j x)) (shifted_far Ashr w (j + k) x)
signed_shift_twice w k m j x f =
    let e : width_of x ≡ w = f.2.1.0 ∙ f.1.0 in
    let less : min (j + k) (w - 1) < w = omega (arith, f.0.0) in
    record {
      keeps = record {
        well_formed = (f.0, (e, less), f.2.2);
        width = refl;
        value = λ env.
            let b : value env x < 2 ^ w = subst (λ n. value env x < 2 ^ n) e (value-below env x f.2.2) in
            ap (λ n. residue w (floor_shift (signed_at n (value env x)) (min (j + k) (w - 1)))) e
            ∙ sym (ap (λ n. residue w (floor_shift (signed_at n (residue n (floor_shift (signed_at (width_of x) (value env x)) j))) k)) f.1.0 ∙ ap (λ n. residue w (floor_shift (signed_at w (residue w (floor_shift (signed_at n (value env x)) j))) k)) e ∙ signed_shift-shift w j k (value env x) f.0.0 b);
      };
      falls = inl (omega (arith, f.2.0.0));
    }

pub shift_of_shift-sound : IsSound shift_of_shift
unfolding shift_of_shift
shift_of_shift-sound (one Lshr w k (one Lshr m j x)) new f e = given _ _ new (shift_twice w k m j x f) e
shift_of_shift-sound (one Ashr w k (one Ashr m j x)) new f e = given _ _ new (signed_shift_twice w k m j x f) e
shift_of_shift-sound _ new f e = absurd (cc)
