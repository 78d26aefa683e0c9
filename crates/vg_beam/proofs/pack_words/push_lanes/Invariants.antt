use Rattle.std.proofs.Common.{◌≡◌, ◌++◌, flat_map, take}
use Rattle.vg_beam.specs.PackWords.{lane_words}
use Rattle.vg_beam.proofs.pack_words.push_lanes.Given as goal

abbrev pub invariant-lanes : goal.invariant-lanes
invariant-lanes l = l.words.items ≡ l.fn.words.items ++ flat_map lane_words (take l.lane-index l.lanes)
