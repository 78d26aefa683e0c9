use Rattle.vg_group_laws.proofs.Tiles.{groups-tile}
use Rattle.vg_group_laws.proofs.law.aligned_groups_tile.Goals as goal

pub returns : goal.returns
returns c = groups-tile
