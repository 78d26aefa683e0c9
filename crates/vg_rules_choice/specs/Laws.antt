-- What the table of choices promises as a rule: it is sound, as each of its rows is. The laws of an impl
-- are proved here, since it can cite nothing in proofs/.
pub mod LeastOrGreatest
pub mod Narrowing
pub mod Selections
pub mod Stretched
use Rattle.vg_terms.specs.Table.{IsSound}
use Rattle.vg_terms.proofs.Tables.{first-sound}
use Rattle.vg_rules_choice.specs.Rules.{rows, first_row}
use Rattle.vg_rules_choice.specs.Laws.LeastOrGreatest.{selection_is_least_or_greatest-sound}
use Rattle.vg_rules_choice.specs.Laws.Narrowing.{narrow_least_or_greatest-sound, narrow_comparison-sound}
use Rattle.vg_rules_choice.specs.Laws.Selections.{known_selection-sound, negated_selection-sound}

pub first_row-sound : IsSound first_row
first_row-sound =
    first-sound rows (known_selection-sound, (negated_selection-sound, (selection_is_least_or_greatest-sound, (narrow_least_or_greatest-sound, (narrow_comparison-sound, tt)))))
