-- what is resolved from here on, after the statements that are done, is what all statements are
use Rattle.std.proofs.Common.{◌≡◌, ◌≤◌, map}
use Rattle.vg_pseudo.specs.Resolve.{code_of}
use Rattle.vg_pseudo.specs.Tree.{statements_of}
use Rattle.vg_pseudo.specs.declared.statement.Stmt.{size-Stmt}
use Rattle.vg_names.specs.Pieces.{behind, code_done}
use Rattle.vg_names.proofs.code.+code.Given as goal

abbrev pub invariant-code_of-statements : goal.invariant-code_of-statements
invariant-code_of-statements l = record {
  same : code_done (map behind l.done.items) (code_of l.scope (statements_of l.left)) ≡ code_of l.scope (statements_of l.fn.code);
  inside : size-Stmt l.left ≤ size-Stmt l.fn.code;
}
