use Rattle.vg_group_laws.proofs.Tiles.{groups-are-tiles, tiles-are-aligned}
use Rattle.vg_group_laws.proofs.law.aligned_groups_are_tiles.Goals as goal

pub returns : goal.returns
returns c ssa = record { tiles = groups-are-tiles ssa; all = tiles-are-aligned ssa }
