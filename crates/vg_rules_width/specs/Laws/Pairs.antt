-- Parts of one term above another, and 0 above a term.
use Rattle.std.proofs.Common.{◌≡◌, ℕ, ◌+◌, ◌-◌, ◌*◌, ◌/◌, ◌^◌, ◌<◌, ◌≤◌, refl, sym, ap, ◌∙◌, arith, inl}
use Rattle.std.specs.Prelude.{nat_le, nat_eq}
use Rattle.std.proofs.lemmas.Bool.{leb-true, leb-false, eqb-true, cond_both}
use Rattle.vg_terms.specs.declared.term.OneOp.TheVariants.{Zext, Trunc, Lshr}
use Rattle.vg_terms.specs.declared.term.TwoOp.TheVariants.{Cat}
use Rattle.vg_terms.specs.declared.value.Env.{Env}
use Rattle.vg_terms.specs.Term.{Tree, one, two, constant, width_of, WellFormed}
use Rattle.vg_terms.specs.Value.{value}
use Rattle.vg_terms.specs.Resize.{low}
use Rattle.vg_terms.proofs.Measures.{weight_some}
use Rattle.vg_terms.proofs.Values.{value-below}
use Rattle.vg_terms.proofs.Shifts as Shifts
use Rattle.vg_terms.proofs.Soundness.{width_some}
use Rattle.vg_terms.proofs.Resizing.{low-width, low-formed, low-value, low-weight}
use Rattle.vg_rules_width.specs.Rules.{low_of_pair, shifted_pair, part_of_concatenation, zero_on_top}
use Rattle.vg_terms.specs.Table.{Promises, IsSound}
use Rattle.vg_terms.proofs.Tables.{given, given_if}

cut_pair : (n z w : ℕ) (h l : Tree) → WellFormed (one Trunc n z (two Cat w h l)) →
    Promises (one Trunc n z (two Cat w h l)) (low_of_pair n h l)
cut_pair n z w h l f =
    let g = f.2 in
    cond_both (nat_le n (width_of l)) (low n l) (two Cat n (low (n - width_of l) h) l) (Promises (one Trunc n z (two Cat w h l)))
    (λ t. let less = leb-true n (width_of l) t in
    record {
      keeps = record {
        well_formed = low-formed n l f.0.0 less g.3;
        width = low-width n l;
        value =
            λ env. low-value env n l less g.3
            ∙ sym (Shifts.low_of_pair (value env h) (value env l) (width_of l) n less);
      };
      falls = inl (omega (arith, low-weight n l, g.0.0, weight_some h));
    })
    (λ t. let more = leb-false n (width_of l) t in
    let k = n - width_of l in
    let some : 0 < k = omega arith in
    let few : k ≤ width_of h = omega (arith, f.1.0, g.1) in
    let whole : n ≡ k + width_of l = omega arith in
    let m : width_of l ≤ n = omega arith in
    record {
      keeps = record {
        well_formed = (f.0, whole ∙ ap (λ j. j + width_of l) (sym (low-width k h)), low-formed k h some few g.2, g.3);
        width = refl;
        value =
            λ env. ap (λ v. v * 2 ^ width_of l + value env l) (low-value env k h few g.2)
            ∙ sym (Shifts.more_of_pair (value env h) (value env l) (width_of l) n (value-below env l g.3) m);
      };
      falls = inl (omega (arith, low-weight k h, f.1.0));
    })

shift_pair : (w k m : ℕ) (h l : Tree) → WellFormed (one Lshr w k (two Cat m h l)) → width_of l ≤ k →
    Promises (one Lshr w k (two Cat m h l)) (shifted_pair w k h l)
shift_pair w k m h l f past =
    let g = f.2 in
    let j = k - width_of l in
    let narrower : width_of h < w = omega (arith, f.1.0, g.1, (width_some l g.3).0) in
    let same : (env : Env) → (value env h * 2 ^ width_of l + value env l) / 2 ^ k ≡ value env h / 2 ^ j =
    λ env. Shifts.shift_of_pair (value env h) (value env l) (width_of l) k (value-below env l g.3) past in
    cond_both (nat_eq j 0) (one Zext w 0 h) (one Zext w 0 (one Lshr (width_of h) j h)) (Promises (one Lshr w k (two Cat m h l)))
    (λ t. record {
      keeps = record {
        well_formed = (f.0, (narrower, refl), g.2);
        width = refl;
        value = λ env. sym (same env ∙ ap (λ i. value env h / 2 ^ i) (eqb-true j 0 t) ∙ omega arith);
      };
      falls = inl (omega (arith, f.0.0, weight_some l));
    })
    (λ t. let less : j < width_of h = omega (arith, f.1.0, f.1.1, g.1) in
    record {
      keeps = record {
        well_formed = (f.0, (narrower, refl), (width_some h g.2, (refl, less), g.2));
        width = refl;
        value = λ env. sym (same env);
      };
      falls = inl (omega (arith, weight_some l, g.0.0));
    })

pub part_of_concatenation-sound : IsSound part_of_concatenation
unfolding part_of_concatenation
part_of_concatenation-sound (one Trunc n z (two Cat w h l)) new f e = given _ _ new (cut_pair n z w h l f) e
part_of_concatenation-sound (one Lshr w k (two Cat m h l)) new f e =
    given_if (nat_le (width_of l) k) _ _ new (λ t. shift_pair w k m h l f (leb-true (width_of l) k t)) e
part_of_concatenation-sound _ new f e = absurd (cc)

zero_above : (w m v : ℕ) (l : Tree) → WellFormed (two Cat w (constant m v) l) → v ≡ 0 →
    Promises (two Cat w (constant m v) l) (one Zext w 0 l)
zero_above w m v l f z =
    let narrower : width_of l < w = omega (arith, f.1, f.2.0.0) in
    record {
      keeps = record {
        well_formed = (f.0, (narrower, refl), f.3);
        width = refl;
        value = λ env. sym (ap (λ n. n * 2 ^ width_of l + value env l) z ∙ omega arith);
      };
      falls = inl (omega (arith, f.0.0));
    }

pub zero_on_top-sound : IsSound zero_on_top
unfolding zero_on_top
zero_on_top-sound (two Cat w (constant m v) l) new f e =
    given_if (nat_eq v 0) _ _ new (λ t. zero_above w m v l f (eqb-true v 0 t)) e
zero_on_top-sound _ new f e = absurd (cc)
