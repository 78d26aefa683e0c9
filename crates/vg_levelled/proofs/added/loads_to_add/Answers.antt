use Rattle.std.proofs.Common.{subst}
use Rattle.vg_levelled.specs.Adding.{FindsUnits}
use Rattle.vg_levelled.proofs.Found.{added-are}
use Rattle.vg_levelled.proofs.added.loads_to_add.Goals as goal

pub returns : goal.returns
returns c =
    added-are c.args.ssa.now c.args.program.now c.in_ok-sides.sides c.added_units.new.sides c.loads_for.new.sides
    c.as_slice-units.result.now c.in-Some.added c.as_slice.result.now
    c.in_ok-loads-in-Some.loads.items c.in_ok-sides.ensures c.as_slice-units.ensures
    (subst (FindsUnits c.in_ok-sides.sides c.added_units.new.sides c.as_slice-units.result.now) c.in-Some.is
    c.in_ok-added_units.ensures) c.as_slice.ensures c.in_ok-loads-in-Some.ensures
