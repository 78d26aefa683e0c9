use Rattle.std.proofs.Common.{◌≡◌, take}
use Rattle.vg_packs.specs.Floor.{IsGrown}
use Rattle.vg_packs.proofs.completing.growing.Given as goal

abbrev pub invariant-packs : goal.invariant-packs
invariant-packs l = record {
  packs : l.plan.packs.items ≡ take l.pack-index l.packs;
  grown : IsGrown l.table l.ssa l.deps l.plan;
}
