use Rattle.vg_group_laws.proofs.Runs.{whole-run}
use Rattle.vg_group_laws.proofs.law.runs_cannot_be_longer.Goals as goal

pub returns : goal.returns
returns c = whole-run
