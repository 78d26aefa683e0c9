use Rattle.vg_group_laws.proofs.Starts.{in-runs}
use Rattle.vg_group_laws.proofs.law.first_loads_are_in_runs.Goals as goal

pub returns : goal.returns
returns c = in-runs
