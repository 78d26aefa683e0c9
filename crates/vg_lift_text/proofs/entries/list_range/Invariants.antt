use Rattle.std.proofs.Common.{◌≡◌, ◌≤◌, ◌-◌, ◌++◌}
use Rattle.std.specs.List.{flat_map}
use Rattle.vg_range.specs.Checks.{header_in, operation_in}
use Rattle.vg_shapes.specs.Order.{numbers_from}
use Rattle.vg_lift_text.specs.Listed.{lines_of}
use Rattle.vg_lift_text.proofs.entries.list_range.Given as goal

abbrev pub invariant-immediates : goal.invariant-immediates
invariant-immediates l = record {
  lines : l.to.items ≡ l.initial.to.items ++ flat_map (lines_of (header_in l.entry) (operation_in l.entry)) (numbers_from l.first (l.imm - l.first));
  within : l.imm - l.first ≤ l.end - l.first;
}
