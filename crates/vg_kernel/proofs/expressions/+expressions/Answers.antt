use Rattle.std.proofs.Common.{◌≡◌, ℕ, suc, ◌+◌, ◌-◌, Some, sym, ◌∙◌, ap, subst, arith, add-one}
use Rattle.std.proofs.lemmas.Result.{err_from_is_err_and}
use Rattle.vg_text.specs.Words.{Reading}
use Rattle.vg_kernel.specs.Expressions.{Operator, operator_at, expression_at}
use Rattle.vg_kernel.specs.Scanning.{scan_of, part_of, operator_view}
use Rattle.vg_kernel.specs.Gives.{Fails}
use Rattle.vg_kernel.proofs.Joins.{joined-deep, joined-full, joined-more, joined-fails, level-more, level-fails, levels-fail, operand-fails, first_level}
use Rattle.vg_kernel.proofs.expressions.+expressions.Goals as goal

-- an operator that the code found one level looser
found : (level : ℕ) (r : Reading) (o : Operator) → Some o ≡ operator_at (level + 1) r → operator_at (suc level) r ≡ Some o
found level r o e = ap (λ (n : ℕ). operator_at n r) (sym (add-one level)) ∙ sym e

pub joined-returns-then-left-room-clause-read : goal.joined-returns-then-left-room-clause-read
joined-returns-then-left-room-clause-read t c =
    sym c.joins.invariant.read
    ∙ joined-deep (expression_at c.args.names.now c.args.room) c.args.level c.args.room c.joins.joins (part_of c.joins.left) (operator_view c.in-Some.operator) (found c.args.level _ _ c.in-Some.ensures) c.if-left-room.true

pub joined-returns-in-Err-clause-read : goal.joined-returns-in-Err-clause-read
joined-returns-in-Err-clause-read t c =
    subst (λ r. Fails c.in-Err.fault r) c.joins.invariant.read
    (joined-fails (expression_at c.args.names.now c.args.room) c.args.level c.args.room c.joins.joins (part_of c.joins.left) (operator_view c.in-Some.operator) c.in-Err.fault (found c.args.level _ _ c.in-Some.ensures) c.if-left-room.false c.joins-test.true c.in-Err.ensures.read)

pub joined-joins-preserved : goal.joined-joins-preserved
joined-joins-preserved t c = record {
  read = joined-more (expression_at c.args.names.now c.args.room) c.args.level c.args.room c.joins.joins (part_of c.joins.left) (part_of c.in-Ok.next) (operator_view c.in-Some.operator) (found c.args.level _ _ c.in-Some.ensures) c.if-left-room.false c.joins-test.true c.in-Ok.ensures.read ∙ c.joins.invariant.read;
  shallow = c.in-Ok.ensures.deep;
}

pub joined-returns-in-Some-next_operator-clause-read : goal.joined-returns-in-Some-next_operator-clause-read
joined-returns-in-Some-next_operator-clause-read t c =
    let none : c.joins.joins ≡ 0 = omega arith in
    sym c.joins.invariant.read
    ∙ rw none (joined-full (expression_at c.args.names.now c.args.room) c.args.level c.args.room (part_of c.joins.left) (operator_view c.in-Some-next_operator.operator) (found c.args.level _ _ c.in-Some-next_operator.ensures))

pub at_level-returns-in_err-left-clause-read : goal.at_level-returns-in_err-left-clause-read
at_level-returns-in_err-left-clause-read t c =
    let exit = err_from_is_err_and c.from_residual.result c.from_residual.ensures.1 in
    rw (exit.1, exit.2) (operand-fails c.args.names.now (expression_at c.args.names.now c.args.room) c.args.room c.args.level (scan_of c.args.scan) c.in_err-left.field-0.0 c.in_err-left.ensures.read)

pub at_level-levels-init : goal.at_level-levels-init
at_level-levels-init t c = record {
  some = omega arith;
  read = first_level c.args.names.now (expression_at c.args.names.now c.args.room) c.args.room (scan_of c.args.scan) ∙ c.in_ok-left.ensures.read;
  shallow = c.in_ok-left.ensures.deep;
}

pub at_level-returns-in_err-next-clause-read : goal.at_level-returns-in_err-next-clause-read
at_level-returns-in_err-next-clause-read t c =
    let exit = err_from_is_err_and c.from_residual-in_err-next.result c.from_residual-in_err-next.ensures.1 in
    let inner = expression_at c.args.names.now c.args.room in
    let above = c.args.level - suc c.levels.done in
    let all : above + suc c.levels.done ≡ c.args.level = omega (arith, c.levels-test.true) in
    rw (exit.1, exit.2) (rw all at (levels-fail c.args.names.now inner c.args.room above (suc c.levels.done) (scan_of c.args.scan) c.in_err-next.field-0.0
    (level-fails c.args.names.now inner c.args.room c.levels.done (scan_of c.args.scan) (part_of c.levels.left) c.in_err-next.field-0.0 c.levels.invariant.read c.in_err-next.ensures.read)))

pub at_level-levels-preserved : goal.at_level-levels-preserved
at_level-levels-preserved t c = record {
  some = omega (arith, c.levels-test.true);
  read = rw (add-one c.levels.done) (level-more c.args.names.now (expression_at c.args.names.now c.args.room) c.args.room c.levels.done (scan_of c.args.scan) (part_of c.levels.left) (part_of c.in_ok-next.next) c.levels.invariant.read c.in_ok-next.ensures.read);
  shallow = c.in_ok-next.ensures.deep;
}
