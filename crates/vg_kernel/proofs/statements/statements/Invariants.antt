-- what is left, read after those that are done, is what the whole was
use Rattle.std.proofs.Common.{◌≡◌, ◌≤◌, ◌-◌, [], length, map, vec_len}
use Rattle.vg_kernel.specs.Names.{names_of}
use Rattle.vg_kernel.specs.Scanning.{scan_of}
use Rattle.vg_kernel.specs.Tree.{statement_of}
use Rattle.vg_kernel.specs.Statements.{statements_at}
use Rattle.vg_kernel.proofs.statements.statements.Given as goal

abbrev pub invariant-statements : goal.invariant-statements
invariant-statements l = record {
  room : vec_len l.done ≤ 4096;
  params : l.names.params ≡ l.fn.params;
  assigned : length l.names.assigned ≤ vec_len l.done;
  read : statements_at (4096 - vec_len l.done) l.names (map statement_of l.done.items) (scan_of l.scan) ≡ statements_at 4096 (names_of l.fn.params) [] (scan_of l.initial.scan);
}

abbrev pub decreases-statements : goal.decreases-statements
decreases-statements l = 4096 - vec_len l.done
