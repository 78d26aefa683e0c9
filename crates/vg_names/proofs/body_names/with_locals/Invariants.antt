-- the locals that are left, after those that are sorted, give what all do
use Rattle.std.proofs.Common.{◌≡◌, ◌++◌, [], drop}
use Rattle.vg_names.specs.Bodies.{registers_from, variables_behind}
use Rattle.vg_names.proofs.body_names.with_locals.Given as goal

abbrev pub invariant-locals : goal.invariant-locals
invariant-locals l = record {
  number : l.number ≡ l.local-index;
  registers : l.names.registers ++ registers_from l.marked l.flags l.forms l.local-index (drop l.local-index l.locals) ≡ l.initial.names.registers ++ registers_from l.marked l.flags l.forms 0 l.locals;
  variables : variables_behind l.marked l.names.variables (drop l.local-index l.locals) ≡ variables_behind l.marked [] l.locals;
}
