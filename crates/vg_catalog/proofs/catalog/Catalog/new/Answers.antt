use Rattle.vg_catalog.proofs.EntryLists.{kept_none}
use Rattle.vg_catalog.proofs.Kept.{none-read}
use Rattle.vg_catalog.proofs.catalog.Catalog.new.Goals as goal

pub invariant_of-result : goal.invariant_of-result
invariant_of-result c = record {
  kept = rw (c.new.ensures.items, c.new-2.ensures.items, c.new-3.ensures.empty) kept_none;
  read = rw c.new.ensures.items none-read;
}
