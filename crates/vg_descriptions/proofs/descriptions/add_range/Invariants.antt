use Rattle.std.proofs.Common.{◌≡◌, ◌≤◌, ◌-◌, ◌++◌, map}
use Rattle.std.specs.List.{flat_map}
use Rattle.vg_catalog.specs.Entries.{entry_of}
use Rattle.vg_range.specs.Checks.{header_in, operation_in}
use Rattle.vg_shapes.specs.Description.{description_of}
use Rattle.vg_shapes.specs.Order.{numbers_from}
use Rattle.vg_descriptions.specs.Descriptions.{StayOf, instance_description}
use Rattle.vg_descriptions.proofs.descriptions.add_range.Given as goal

abbrev pub invariant-immediates : goal.invariant-immediates
invariant-immediates l = record {
  is : map description_of l.to.descriptions.items ≡ map description_of l.initial.to.descriptions.items
      ++ flat_map (instance_description (header_in l.entry) (operation_in l.entry)) (numbers_from l.first (l.imm - l.first));
  stay : StayOf (entry_of l.entry) (map description_of l.initial.to.descriptions.items) (map description_of l.to.descriptions.items);
  within : l.imm - l.first ≤ l.end - l.first;
}
