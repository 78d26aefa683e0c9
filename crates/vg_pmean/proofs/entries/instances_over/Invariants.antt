-- the instances of the immediates so far
use Rattle.std.proofs.Common.{◌≡◌, length, map}
use Rattle.vg_range.specs.Checks.{header_in, operation_in}
use Rattle.vg_pmean.specs.Entries.{AreInstances}
use Rattle.vg_pmean.proofs.entries.instances_over.Given as goal

abbrev pub invariant-immediates : goal.invariant-immediates
invariant-immediates l = record {
  all : AreInstances (header_in l.checked) (operation_in l.checked) l.range.lo (map (λ i. i.whole) l.instances.items);
  count : length l.instances.items ≡ l.step;
}
