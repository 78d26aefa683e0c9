use Rattle.std.proofs.Common.{sym, ◌∙◌, arith}
use Rattle.vg_deps.proofs.Rows.{few_values, row_arguments, row_ends, row_step}
use Rattle.vg_deps.proofs.dependences.row.Goals as goal

pub returns-then-value-first : goal.returns-then-value-first
returns-then-value-first c =
    c.from_vec.ensures ∙ c.new-row.ensures.items
    ∙ sym (row_arguments c.args.ssa.now c.args.value c.args.value
    (let first = c.requires.first in let below = c.if-value-first.true in omega arith))

pub overflow_cast-number : goal.overflow_cast-number
overflow_cast-number c =
    let few = few_values c.args.ssa.now c.requires.sound in
    let first = c.requires.first in
    let value = c.requires.value in
    let below = c.earlier.invariant.below in
    omega arith

pub earlier-preserved : goal.earlier-preserved
earlier-preserved c =
    let some = c.earlier-test.true in
    let below = c.earlier.invariant.below in
    record {
      below = omega arith;
      so_far = row_step c.args.ssa.now c.as_slice-units.result.now c.args.first c.args.value c.earlier.left c.args.flags.now
          c.earlier.row.items c.push_where.new.numbers.items c.depends_by-dependent.result _ _
          c.as_slice-units.ensures c.requires.first (let low = c.if-value-first.false in omega arith) c.requires.value (omega arith) below
          c.requires.flags c.depends_by-dependent.ensures c.in_ok-push_where.ensures c.earlier.invariant.so_far;
    }

pub returns : goal.returns
returns c =
    c.from_vec-2.ensures
    ∙ row_ends c.args.ssa.now c.args.first c.args.value c.earlier.left c.earlier.row.items c.requires.first
    (let low = c.if-value-first.false in omega arith) (let end = c.earlier-test.false in omega arith) c.earlier.invariant.so_far
