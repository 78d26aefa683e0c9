-- Two words that are turned by a call, one of them five times by a sum: all that the law of the checker wants
-- with more is met.
use Rattle.std.proofs.Common.{◌≡◌, ◌∙◌, true, false, inl, [], ◌∷◌, Option, Some, None, refl, sym, ap, Box, Global, lit<, lit≤}
use Rattle.std.specs.Prelude.{codes, is_some, map}
use Rattle.std.specs.Option.{option_map}
use denote.RawPtr.{null_ptr}
use Rattle.vg_base.specs.Bits.{bits, bytes, num}
use Rattle.vg_canon.specs.Canonical.{canonical, canonical_within, first_rule}
use Rattle.vg_rules_sum.specs.Rules.{fold_constants, merge_constants, neutral_or_absorbing, same_operands, sort_chain}
use Rattle.vg_rules_width.specs.Rules.{extend_extend, first_row, narrow_extended_sum, narrow_product, part_of_concatenation, shift_by_zero, shift_of_extension, shift_of_shift, sign_of_nonnegative, truncate_arithmetic_shift, truncate_extension, truncate_logical_shift, truncate_operation, truncate_selection, truncate_truncate, zero_on_top}
use Rattle.vg_rules_choice.specs.Rules.{known_selection, narrow_comparison, narrow_least_or_greatest, negated_selection, selection_is_least_or_greatest}
use Rattle.vg_names.specs.Written.{ResolvedAreProper}
use Rattle.vg_interval.specs.Interval.{fit}
use Rattle.vg_sums.specs.Arithmetic.{fit as fit_number}
use Rattle.vg_range.specs.Acceptance.{checked}
use Rattle.vg_terms.specs.declared.term.Term.{Term}
use Rattle.vg_terms.specs.declared.term.Term.TheVariants.{Const, Leaf, Two'}
use Rattle.vg_terms.specs.declared.term.TwoOp.TheVariants as term
use Rattle.vg_shapes.specs.declared.ssa.Ssa.{Ssa}
use Rattle.vg_shapes.specs.Sound.{IsSound, load_key}
use Rattle.vg_ssa.specs.Numbering.{IsNumbering, param_of, units_of}
use Rattle.vg_ssa.proofs.Enough.{stands-for}
use Rattle.vg_ssa.proofs.Soundness.{can-same, kernel-can, numbered-sound}
use Rattle.vg_kernel.specs.WellFormed.{IsWellFormed}
use Rattle.vg_kernel.specs.Words.{is_reserved, plain_named}
use Rattle.vg_catalog.specs.Called.{called_by, headers_of}
use Rattle.vg_program.specs.Valid.{KeepsRules}
use Rattle.vg_known.specs.Difference.{difference_by, equal_terms}
use Rattle.vg_known.specs.Laws.{SameMeansUnits}
use Rattle.vg_known.specs.WiderDifference.{equal_wider}
use Rattle.vg_check.specs.Compared.{told_difference}
use Rattle.vg_check.specs.Told.{difference_text}
use Rattle.vg_check.proofs.Numbered.{means_kernel, told_numbered}
use Rattle.vg_instance_laws.specs.Swap.{at, swap_entries}
use Rattle.vg_instance_laws.specs.SummedSwap.{summed_kernel, summed_program, SummedSwapIsSame}
use Rattle.vg_instance_laws.proofs.Swap.{calls-told, names}

-- ---- the kernel

formed : IsWellFormed summed_kernel
unfolding is_reserved plain_named
formed = record {
  name = refl;
  names = (refl, (refl, tt));
  distinct = names;
  params = lit≤ tt;
  each = (
    (record { pointer = lit< tt; offset = lit< tt }, lit≤ tt),
    (
      (record { pointer = lit< tt; offset = lit< tt }, lit≤ tt),
      (
        (record { pointer = lit< tt; offset = lit< tt }, (refl, refl, refl, lit< tt), lit≤ tt, refl),
        (
          (record { pointer = lit< tt; offset = lit< tt }, refl, lit≤ tt, refl),
          tt,
        ),
      ),
    ),
  );
  statements = lit≤ tt;
  uses = lit≤ tt;
}

-- a box that stands nowhere
nowhere : Box (Unit {0}) Global
nowhere = record { ptr = null_ptr; alloc = record { memory = record { seal = tt } }; value = tt }

abbrev fivefold : Term
fivefold = Two' term.Mul 64 nowhere (Leaf 64 (load_key (at 1 8) 1)) nowhere (Const 64 5)

abbrev summed_ssa : Ssa
summed_ssa = record {
  name = codes "turn";
  params = map param_of summed_kernel.params;
  units = units_of summed_kernel;
  terms =
      Leaf 64 (load_key (at 1 0) 0)
      ∷ Leaf 64 (load_key (at 1 8) 1)
      ∷ fivefold
      ∷ Const 8 0
      ∷ Const 8 0
      ∷ [];
  cuts = [];
}

numbering : IsNumbering summed_kernel summed_ssa
unfolding canonical canonical_within first_rule bits num bytes fold_constants merge_constants neutral_or_absorbing same_operands sort_chain extend_extend first_row narrow_extended_sum narrow_product part_of_concatenation shift_by_zero shift_of_extension shift_of_shift sign_of_nonnegative truncate_arithmetic_shift truncate_extension truncate_logical_shift truncate_operation truncate_selection truncate_truncate zero_on_top known_selection narrow_comparison narrow_least_or_greatest negated_selection selection_is_least_or_greatest lib.Count.count_leading_zeros
numbering = record { name = refl; params = refl; units = refl; terms = refl }

sound : IsSound summed_ssa
sound = numbered-sound summed_ssa (can-same summed_ssa (kernel-can summed_kernel formed)) numbering.terms (inl refl)

-- ---- the program

rules : KeepsRules (headers_of swap_entries) summed_program
rules = record {
  name = refl;
  params = record { few = lit≤ tt; names = (refl, (refl, tt)); distinct = names };
  lines = (
    record { pointer = lit< tt; offset = lit< tt },
    (
      (refl, record { passed = refl; immediate = tt; width = refl; charge = refl }),
      (
        (lit< tt, lit< tt),
        (
          (refl, lit< tt),
          (
            (refl, refl),
            (
              (record { pointer = lit< tt; offset = lit< tt }, refl),
              (
                (lit< tt, lit< tt),
                (
                  (record { pointer = lit< tt; offset = lit< tt }, refl),
                  tt,
                ),
              ),
            ),
          ),
        ),
      ),
    ),
  );
  cost = refl;
  small = lit< tt;
  scalar = lit≤ tt;
}

-- ---- both

a-difference : is_some (difference_by equal_terms swap_entries summed_ssa summed_program) ≡ true
unfolding difference_by canonical canonical_within first_rule bits num bytes fit checked fold_constants merge_constants neutral_or_absorbing same_operands sort_chain extend_extend first_row narrow_extended_sum narrow_product part_of_concatenation shift_by_zero shift_of_extension shift_of_shift sign_of_nonnegative truncate_arithmetic_shift truncate_extension truncate_logical_shift truncate_operation truncate_selection truncate_truncate zero_on_top known_selection narrow_comparison narrow_least_or_greatest negated_selection selection_is_least_or_greatest lib.Count.count_leading_zeros
a-difference = refl

no-wider : difference_by equal_wider swap_entries summed_ssa summed_program ≡ None
unfolding difference_by fit_number canonical canonical_within first_rule bits num bytes fit checked fold_constants merge_constants neutral_or_absorbing same_operands sort_chain extend_extend first_row narrow_extended_sum narrow_product part_of_concatenation shift_by_zero shift_of_extension shift_of_shift sign_of_nonnegative truncate_arithmetic_shift truncate_extension truncate_logical_shift truncate_operation truncate_selection truncate_truncate zero_on_top known_selection narrow_comparison narrow_least_or_greatest negated_selection selection_is_least_or_greatest lib.Count.count_leading_zeros
no-wider = refl

kept-some : {A B : Type 0} (f : A → B) (o : Option A) → is_some (option_map f o) ≡ is_some o
kept-some f None = refl
kept-some f (Some x) = refl

pub summed-swap-is-same : ResolvedAreProper → SameMeansUnits → SummedSwapIsSame
summed-swap-is-same proper law =
    record {
      formed = formed;
      rules = rules;
      differs = told-where-some;
      same = sym (told_numbered swap_entries summed_kernel summed_ssa summed_program true None numbering
          (sym no-wider));
      means =
          means_kernel swap_entries summed_kernel summed_ssa summed_program numbering
          (stands-for summed_kernel summed_ssa formed numbering)
          (record { name = refl; params = refl })
          (law true (called_by swap_entries) swap_entries summed_ssa summed_program sound rules (calls-told proper)
          no-wider);
    }
  where
    told-where-some : is_some (told_difference swap_entries summed_kernel summed_program false) ≡ true
    told-where-some =
        let found = difference_by equal_terms swap_entries summed_ssa summed_program in
        sym (ap is_some (told_numbered swap_entries summed_kernel summed_ssa summed_program false found numbering refl))
        ∙ kept-some (difference_text summed_program.params) found ∙ a-difference
