use Rattle.std.proofs.Common.{◌∙◌, ◌-◌, arith, sym}
use Rattle.vg_cost.proofs.Settled.{settling-end, settling-first, settling-next, settling-skip}
use Rattle.vg_cost.proofs.settling.settle.Goals as goal

pub units-init : goal.units-init
units-init c =
    settling-skip c.args.change.now _ c.args.lines _ _ _ _ _ c.changed_end-left.ensures.bound c.changed_end-left.ensures.still
    (settling-first c.args.change.now _ c.args.lines _ _
    (c.requires.fits.marked ∙ sym c.requires.fits.counted) c.requires.fits c.requires.stands)

pub judge-requires : goal.judge-requires
judge-requires c = record {
  first = c.requires.first;
  fits = c.units.invariant.fits;
  number = let i = c.units.invariant.inside in let t = c.units-test.true in omega (arith, i, t);
}

pub changed_end-left-requires-in-units : goal.changed_end-left-requires-in-units
changed_end-left-requires-in-units c =
    let i = c.units.invariant.inside in
    let t = c.units-test.true in
    let f = c.units.invariant.fits.marked in
    let m = c.in_ok-lines.ensures.counts.marks in
    omega (arith, i, t, f, m)

pub units-preserved : goal.units-preserved
units-preserved c =
    let t = c.units-test.true in
    settling-skip c.args.change.now _ c.args.lines _ _ _ _ _ c.changed_end-left-in-units.ensures.bound c.changed_end-left-in-units.ensures.still
    (settling-next c.args.change.now _ c.args.lines c.units.counts _ c.units.changed _ c.units.left (c.units.left - 1) c.units.lines _
    (omega (arith, t)) c.units.invariant c.in_ok-lines.ensures.counts c.in_ok-lines.ensures.lines)

pub returns : goal.returns
returns c = settling-end c.args.change.now _ c.args.lines c.units.counts c.units.changed c.units.left c.units.lines c.units-test.false c.units.invariant
