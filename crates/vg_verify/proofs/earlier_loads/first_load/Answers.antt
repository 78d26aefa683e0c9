use Rattle.std.proofs.Common.{◌-◌, ◌∙◌, ap, sym, arith}
use Rattle.vg_verify.specs.Loads.{is_disturbed}
use Rattle.vg_verify.proofs.Loads.{looked_out}
use Rattle.vg_verify.proofs.earlier_loads.first_load.Goals as goal

pub returns-then-is_disturbed : goal.returns-then-is_disturbed
returns-then-is_disturbed c =
    let u = c.unit_at-unit.result.now in
    let n = c.units.place - 1 in
    looked_out c.args.flags.now c.args.address c.args.width c.args.first c.args.own c.args.done.now c.units.place n c.units.found u c.units.invariant
    (omega (arith, c.units-test.true)) (omega (arith, c.units-test.true, c.units.invariant.within)) c.unit_at-unit.ensures
    (ap (λ x. is_disturbed c.args.flags.now x u) (sym c.read_of-read.ensures) ∙ sym c.is_disturbed.ensures ∙ c.if-is_disturbed.true)
