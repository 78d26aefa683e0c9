use Rattle.vg_group_laws.proofs.Cutting.{groups-cut}
use Rattle.vg_group_laws.proofs.law.groups_are_cut_from_runs.Goals as goal

pub returns : goal.returns
returns c = groups-cut
