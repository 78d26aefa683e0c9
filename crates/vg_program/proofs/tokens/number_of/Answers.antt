use Rattle.std.proofs.Common.{◌^◌, ◌∙◌, arith}
use Rattle.vg_program.proofs.Numbers.{value_behind-step, number_of-end}
use Rattle.vg_program.proofs.tokens.number_of.Goals as goal

pub digits-preserved : goal.digits-preserved
digits-preserved c = record {
  same = value_behind-step (2 ^ 64) c.digits.number c.min-number.result c.digits.rest.now c.in-len1-up.len_at_least (omega arith) ∙ c.digits.invariant.same;
  capped = omega arith;
}

pub returns-clause-value : goal.returns-clause-value
returns-clause-value c = number_of-end c.digits.number c.digits.rest.now c.args.digits.now c.in_default.len_below c.digits.invariant.capped c.digits.invariant.same
