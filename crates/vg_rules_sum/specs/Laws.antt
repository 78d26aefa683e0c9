-- What the table of sums promises as a rule: it is sound, as each of its rows is. The laws of an impl are
-- proved here, since it can cite nothing in proofs/.
pub mod FoldConstants
pub mod MergeConstants
pub mod NeutralOrAbsorbing
pub mod SameOperands
pub mod SortChain
use Rattle.vg_terms.specs.Table.{IsSound}
use Rattle.vg_terms.proofs.Tables.{first-sound}
use Rattle.vg_rules_sum.specs.Rules.{rows, first_row}
use Rattle.vg_rules_sum.specs.Laws.FoldConstants.{fold_constants-sound}
use Rattle.vg_rules_sum.specs.Laws.MergeConstants.{merge_constants-sound}
use Rattle.vg_rules_sum.specs.Laws.NeutralOrAbsorbing.{neutral_or_absorbing-sound}
use Rattle.vg_rules_sum.specs.Laws.SameOperands.{same_operands-sound}
use Rattle.vg_rules_sum.specs.Laws.SortChain.{sort_chain-sound}

pub first_row-sound : IsSound first_row
first_row-sound =
    first-sound rows (fold_constants-sound, (sort_chain-sound, (merge_constants-sound, (neutral_or_absorbing-sound, (same_operands-sound, tt)))))
