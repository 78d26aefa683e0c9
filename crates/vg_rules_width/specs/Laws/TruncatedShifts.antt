-- Truncations of shifts.
use Rattle.std.proofs.Common.{ℕ, ◌+◌, ◌/◌, ◌%◌, ◌^◌, ◌<◌, ◌≤◌, refl, sym, ap, ◌∙◌, subst, arith, inl}
use Rattle.std.specs.Prelude.{nat_le, nat_lt}
use Rattle.std.proofs.lemmas.Bool.{leb-true, ltb-true}
use Rattle.vg_base.specs.Bits.{signed_at}
use Rattle.vg_terms.specs.declared.term.OneOp.TheVariants.{Trunc, Lshr, Ashr}
use Rattle.vg_terms.specs.Term.{Tree, one, width_of, WellFormed}
use Rattle.vg_base.specs.Number.{residue, floor_shift}
use Rattle.vg_terms.specs.Value.{value}
use Rattle.vg_terms.specs.Resize.{low}
use Rattle.vg_base.proofs.LowBits.{low-low}
use Rattle.vg_terms.proofs.Values.{value-below}
use Rattle.vg_terms.proofs.Shifts.{low_of_signed_shift, low_of_shift}
use Rattle.vg_terms.proofs.Resizing.{low-width, low-formed, low-value, low-weight}
use Rattle.vg_rules_width.specs.Rules.{truncate_arithmetic_shift, truncate_logical_shift}
use Rattle.vg_terms.specs.Table.{Promises, IsSound}
use Rattle.vg_terms.proofs.Tables.{given_if}

cut_signed_shift : (n z m k : ℕ) (x : Tree) → WellFormed (one Trunc n z (one Ashr m k x)) → n + k ≤ m →
    Promises (one Trunc n z (one Ashr m k x)) (one Trunc n 0 (one Lshr m k x))
cut_signed_shift n z m k x f h = record {
  keeps = record {
    well_formed = (f.0, (f.1.0, refl), f.2);
    width = refl;
    value =
        λ env. let below : value env x < 2 ^ m = subst (λ w. value env x < 2 ^ w) f.2.1.0 (value-below env x f.2.2) in
        sym (ap (λ w. residue m (floor_shift (signed_at w (value env x)) k) % 2 ^ n) f.2.1.0
        ∙ low_of_signed_shift m n k (value env x) h below);
  };
  falls = inl (omega arith);
}

cut_shift : (n z m k : ℕ) (x : Tree) → WellFormed (one Trunc n z (one Lshr m k x)) → n + k < m →
    Promises (one Trunc n z (one Lshr m k x)) (low n (one Lshr (n + k) k (low (n + k) x)))
cut_shift n z m k x f h =
    let some : 0 < n + k = omega (arith, f.0.0) in
    let few : n + k ≤ 128 = omega (arith, f.2.0.1) in
    let below : n + k ≤ width_of x = omega (arith, f.2.1.0) in
    let less : k < n + k = omega (arith, f.0.0) in
    let n_less : n ≤ n + k = omega arith in
    let same : n ≤ n = omega arith in
    let s = one Lshr (n + k) k (low (n + k) x) in
    let g : WellFormed s = ((some, few), (low-width (n + k) x, less), low-formed (n + k) x some below f.2.2) in
    record {
      keeps = record {
        well_formed = low-formed n s f.0.0 n_less g;
        width = low-width n s;
        value =
            λ env. low-value env n s n_less g
            ∙ ap (λ v. v / 2 ^ k % 2 ^ n) (low-value env (n + k) x below f.2.2)
            ∙ ap (λ v. v % 2 ^ n) (sym (low_of_shift n k (value env x))) ∙ low-low (value env x / 2 ^ k) n n same;
      };
      falls = inl (omega (arith, low-weight n s, low-weight (n + k) x));
    }

pub truncate_arithmetic_shift-sound : IsSound truncate_arithmetic_shift
unfolding truncate_arithmetic_shift
truncate_arithmetic_shift-sound (one Trunc n z (one Ashr m k x)) new f e =
    given_if (nat_le (n + k) m) _ _ new (λ t. cut_signed_shift n z m k x f (leb-true (n + k) m t)) e
truncate_arithmetic_shift-sound _ new f e = absurd (cc)

pub truncate_logical_shift-sound : IsSound truncate_logical_shift
unfolding truncate_logical_shift
truncate_logical_shift-sound (one Trunc n z (one Lshr m k x)) new f e =
    given_if (nat_lt (n + k) m) _ _ new (λ t. cut_shift n z m k x f (ltb-true (n + k) m t)) e
truncate_logical_shift-sound _ new f e = absurd (cc)
