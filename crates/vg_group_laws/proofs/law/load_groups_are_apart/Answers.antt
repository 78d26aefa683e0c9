use Rattle.vg_group_laws.proofs.Parted.{groups-apart}
use Rattle.vg_group_laws.proofs.law.load_groups_are_apart.Goals as goal

pub returns : goal.returns
returns c = groups-apart
