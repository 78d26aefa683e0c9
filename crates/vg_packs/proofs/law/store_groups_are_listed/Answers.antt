use Rattle.vg_packs.proofs.Once.{groups-listed}
use Rattle.vg_packs.proofs.law.store_groups_are_listed.Goals as goal

pub returns : goal.returns
returns c = groups-listed
