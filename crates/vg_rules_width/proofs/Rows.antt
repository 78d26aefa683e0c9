-- Where a row applies, its parts are those that stand below the root.
use Rattle.std.proofs.Common.{◌≡◌, ◌+◌, ◌<◌, true, false, refl, sym, ap, ◌∙◌, inl, inr}
use Rattle.std.specs.Prelude.{Some, None, IsSome, nat_lt, if◌then◌else◌}
use Rattle.std.proofs.lemmas.Bool.{cases_Bool, ltb-true}
use Rattle.vg_terms.specs.declared.term.OneOp.TheVariants.{Zext, Sext, Trunc, Lshr, Ashr}
use Rattle.vg_terms.specs.declared.term.TwoOp.TheVariants.{Add, Cat}
use Rattle.vg_terms.specs.Known.{known}
use Rattle.vg_terms.specs.Root.{amount_of, below, first_of, is_one, one_op_or, second_of}
use Rattle.vg_terms.specs.Term.{Tree, one, two, width_of}
use Rattle.vg_rules_width.specs.Rules.{low_of_pair, low_of_shift, narrow_extended_sum, narrowed, part_of_concatenation, shift_of_shift, shifted_far, truncate_logical_shift}

pub shift_of_shift_is : (t : Tree) → IsSome (shift_of_shift t) → shift_of_shift t ≡ Some (shifted_far (one_op_or Lshr t) (width_of t) (amount_of (below t) + amount_of t) (below (below t)))
unfolding shift_of_shift
shift_of_shift_is (one Lshr w k (one Lshr m j x)) h = refl
shift_of_shift_is (one Ashr w k (one Ashr m j x)) h = refl
shift_of_shift_is _ h = absurd (cc)

pub truncate_logical_shift_fits : (t : Tree) → IsSome (truncate_logical_shift t) → width_of t + amount_of (below t) < width_of (below t)
unfolding truncate_logical_shift
truncate_logical_shift_fits (one Trunc n z (one Lshr m k x)) h =
    elim (cases_Bool (nat_lt (n + k) m)) [ inl t ↦ ltb-true (n + k) m t | inr f ↦ absurd (cc) ]
truncate_logical_shift_fits _ h = absurd (cc)

pub truncate_logical_shift_is : (t : Tree) → IsSome (truncate_logical_shift t) → truncate_logical_shift t ≡ Some (low_of_shift (width_of t) (amount_of (below t)) (below (below t)))
unfolding truncate_logical_shift
truncate_logical_shift_is (one Trunc n z (one Lshr m k x)) h =
    elim (cases_Bool (nat_lt (n + k) m)) [ inl t ↦ rw t refl | inr f ↦ absurd (cc) ]
truncate_logical_shift_is _ h = absurd (cc)

pub narrow_extended_sum_is : (t : Tree) → IsSome (narrow_extended_sum t) → narrow_extended_sum t ≡ narrowed (known (below t)) (width_of (below t)) (width_of t) Add (first_of (below t)) (second_of (below t))
unfolding narrow_extended_sum
narrow_extended_sum_is (one Sext m z (two Add w x y)) h = refl
narrow_extended_sum_is (one Zext m z (two Add w x y)) h =
    elim (cases_Bool (nat_lt (known (two Add w x y)).unsigned w)) [ inl t ↦ rw t refl | inr f ↦ absurd (cc) ]
narrow_extended_sum_is _ h = absurd (cc)

pub part_of_concatenation_cut : (t : Tree) → is_one Trunc t ≡ true → IsSome (part_of_concatenation t) → part_of_concatenation t ≡ Some (low_of_pair (width_of t) (first_of (below t)) (second_of (below t)))
unfolding part_of_concatenation
part_of_concatenation_cut (one Trunc n z (two Cat w h l)) c s = refl
part_of_concatenation_cut _ c s = absurd (cc)
