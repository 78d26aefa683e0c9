-- the assignments of what is left, after those that are found, are those of all
use Rattle.std.proofs.Common.{◌≡◌, ◌≤◌, ◌++◌, map, filter}
use Rattle.vg_pseudo.specs.Names.{assignments}
use Rattle.vg_pseudo.specs.Tree.{statements_of}
use Rattle.vg_pseudo.specs.declared.statement.Stmt.{size-Stmt}
use Rattle.vg_names.specs.Assigned.{assignment_view, is_local}
use Rattle.vg_names.proofs.assignments.+assignments.Given as goal

abbrev pub invariant-collect-statements : goal.invariant-collect-statements
invariant-collect-statements l = record {
  same : map assignment_view l.found.items ++ filter (is_local l.given) (assignments (map (λ t. t.now) l.turns) (statements_of l.left))
      ≡ map assignment_view l.initial.found.items ++ filter (is_local l.given) (assignments (map (λ t. t.now) l.turns) (statements_of l.fn.code));
  inside : size-Stmt l.left ≤ size-Stmt l.fn.code;
}
