use Rattle.std.proofs.Common.{◌∙◌, ap, length, arith}
use Rattle.vg_shapes.specs.Order.{numbers_from}
use Rattle.vg_order.specs.Paths.{IsInside}
use Rattle.vg_order.proofs.Rising.{placed-more, rises}
use Rattle.vg_order.proofs.scheduling.place_units.Goals as goal

pub units-preserved : goal.units-preserved
units-preserved c =
    let deps = c.args.deps.now in
    let g = c.args.graph.now in
    let so = c.units.invariant in
    let e = c.in_ok-place.ensures in
    let more = c.units-test.true in
    let long = ap length c.as_slice-end.ensures in
    let low = c.units.auto.unit in
    let inside : IsInside g c.units.unit = (omega arith, omega arith) in
    record {
      valid = e.valid;
      rest = e.rest;
      placed = placed-more g c.units.progress.placed.items c.place.new.progress.placed.items c.units.unit so.placed e.stays e.placed;
      rising = rises deps g c.units.progress c.place.new.progress c.units.unit so.valid inside e.ready so.rising;
      next = e.next;
    }

pub returns-clause-rising : goal.returns-clause-rising
returns-clause-rising c = λ r.
    let so = c.units.invariant.rising r in
    let past = c.units-test.false in
    let long = ap length c.as_slice-end.ensures in
    let all = r.1 in
    let begins = c.requires.graph.begins in
    let low = c.units.auto.unit in
    let high = c.units.auto.unit-end in
    so ∙ ap (numbers_from 0) (omega arith)
