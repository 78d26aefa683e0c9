use Rattle.vg_match.proofs.OneTable.{one-table}
use Rattle.vg_match.proofs.law.there_is_one_table.Goals as goal

pub returns : goal.returns
returns c = one-table
