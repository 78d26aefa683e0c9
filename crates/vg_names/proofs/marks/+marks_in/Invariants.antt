use Rattle.std.proofs.Common.{◌≡◌, ◌≤◌, map}
use Rattle.vg_pseudo.specs.Tree.{statements_of}
use Rattle.vg_pseudo.specs.declared.statement.Stmt.{size-Stmt}
use Rattle.vg_names.specs.Marks.{marked_in}
use Rattle.vg_names.proofs.marks.+marks_in.Given as goal

abbrev pub invariant-mark_in-statements : goal.invariant-mark_in-statements
invariant-mark_in-statements l = record {
  same : marked_in (map (λ t. t.now) l.turns) (statements_of l.left) l.names ≡ marked_in (map (λ t. t.now) l.turns) (statements_of l.fn.code) l.initial.names;
  inside : size-Stmt l.left ≤ size-Stmt l.fn.code;
}
