use Rattle.std.proofs.Common.{◌≡◌, length, take}
use Rattle.vg_order.specs.Graphs.{AreOwners}
use Rattle.vg_order.proofs.graph.owners.Given as goal

abbrev pub invariant-packs : goal.invariant-packs
invariant-packs l = record {
  long : length l.owners.items ≡ l.end;
  owners : AreOwners l.packs (take l.pack l.packs) l.owners.items;
}
