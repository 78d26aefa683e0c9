-- What the table of widths promises as a rule: it is sound, as each of its rows is. The laws of an impl
-- are proved here, since it can cite nothing in proofs/.
pub mod Extensions
pub mod Narrowing
pub mod Pairs
pub mod Shifts
pub mod TruncatedShifts
pub mod Truncations
use Rattle.vg_terms.specs.Table.{IsSound}
use Rattle.vg_terms.proofs.Tables.{first-sound}
use Rattle.vg_rules_width.specs.Rules.{rows, first_row}
use Rattle.vg_rules_width.specs.Laws.Extensions.{extend_extend-sound, sign_of_nonnegative-sound}
use Rattle.vg_rules_width.specs.Laws.Narrowing.{narrow_product-sound, narrow_extended_sum-sound}
use Rattle.vg_rules_width.specs.Laws.Pairs.{part_of_concatenation-sound, zero_on_top-sound}
use Rattle.vg_rules_width.specs.Laws.Shifts.{shift_by_zero-sound, shift_of_extension-sound, shift_of_shift-sound}
use Rattle.vg_rules_width.specs.Laws.TruncatedShifts.{truncate_arithmetic_shift-sound, truncate_logical_shift-sound}
use Rattle.vg_rules_width.specs.Laws.Truncations.{truncate_truncate-sound, truncate_extension-sound, truncate_operation-sound, truncate_selection-sound}

pub first_row-sound : IsSound first_row
unfolding first_row
first_row-sound =
    first-sound rows (
      truncate_truncate-sound,
      (
        truncate_extension-sound,
        (
          extend_extend-sound,
          (
            truncate_operation-sound,
            (
              truncate_selection-sound,
              (
                truncate_arithmetic_shift-sound,
                (
                  truncate_logical_shift-sound,
                  (
                    shift_by_zero-sound,
                    (
                      shift_of_extension-sound,
                      (
                        shift_of_shift-sound,
                        (narrow_product-sound, (narrow_extended_sum-sound, (sign_of_nonnegative-sound, (part_of_concatenation-sound, (zero_on_top-sound, tt))))),
                      ),
                    ),
                  ),
                ),
              ),
            ),
          ),
        ),
      ),
    )
