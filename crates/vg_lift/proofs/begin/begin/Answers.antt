use Rattle.vg_lift.specs.Passed.{all_passed}
use Rattle.vg_lift.proofs.Begins.{begun_state}
use Rattle.vg_lift.proofs.begin.begin.Goals as goal

pub returns-clause-begins : goal.returns-clause-begins
returns-clause-begins c =
    begun_state c.entered.new.pool c.zeros.new.pool (record { registers = c.in_ok-registers.registers; variables = c.in_ok-variables.variables })
    c.args.widths.now c.args.variables (all_passed c.args.pool.now c.args.given.now) c.zeros.ensures.keeps
    c.in_ok-registers.ensures.is c.in_ok-registers.ensures.fit c.in_ok-variables.ensures.is c.in_ok-variables.ensures.nodes
