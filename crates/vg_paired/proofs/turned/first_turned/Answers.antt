use Rattle.std.proofs.Common.{◌≡◌, ◌+◌, ◌-◌, ◌≤◌, arith, ap, length, map, sym, ◌∙◌}
use Rattle.std.specs.Prelude.{slice_index}
use Rattle.std.specs.List.{find}
use Rattle.std.proofs.lemmas.List.{length-map}
use Rattle.vg_paired.specs.ByteLabels.{label_of}
use Rattle.vg_paired.specs.Sweeps.{between, is_turned, is_turned_unit}
use Rattle.vg_paired.proofs.Sweeping.{between-none, rows-begin, unit-turned, units-turn}
use Rattle.vg_paired.proofs.turned.first_turned.Goals as goal

pub units-init : goal.units-init
units-init c =
    let ls = map label_of c.args.labels.now in
    let long = length-map c.args.labels.now label_of in
    let units = length c.args.begins.now - 1 in (
      omega (arith, c.requires.rising.some),
      rows-begin ls (slice_index c.args.lines.now) c.new-rows.result (slice_index c.args.begins.now units) (omega (arith, c.requires.rising.last)) (c.new-rows.ensures ls (slice_index c.args.lines.now)),
      sym (ap (find (is_turned_unit c.args.flags.now ls c.args.lines.now c.args.begins.now)) (between-none units units (omega arith))),
    )

pub units-preserved : goal.units-preserved
units-preserved c =
    let ls = map label_of c.args.labels.now in
    let long = length-map c.args.labels.now label_of in
    let flags = c.args.flags.now in
    let begins = c.args.begins.now in
    let line = slice_index c.args.lines.now in
    let left = c.units.left in
    let room : left + 1 ≤ length begins = c.units.invariant.0 in
    let within = c.requires.rising.inside left (omega arith) in
    let step : left ≡ (left - 1) + 1 = omega arith in (
      omega arith,
      c.in_ok-put_all.ensures (length ls) (omega arith) (omega arith) c.units.invariant.1,
      units-turn (is_turned_unit flags ls c.args.lines.now begins) (left - 1) left (length begins - 1) c.is_any_early-turned.result c.units.found c.pick-found.result (omega arith) (omega arith)
          (c.is_any_early-turned.ensures
          ∙ unit-turned flags ls line c.units.rows (slice_index begins (left - 1)) (slice_index begins left) (omega arith) c.units.invariant.1 c.requires.pointers
          ∙ ap (λ n. is_turned flags ls line (slice_index begins (left - 1)) (slice_index begins n)) step)
          c.pick-found.ensures c.units.invariant.2,
    )

pub returns : goal.returns
returns c =
    let zero : c.units.left ≡ 0 = omega arith in
    c.units.invariant.2
    ∙ ap (λ n. find (is_turned_unit c.args.flags.now (map label_of c.args.labels.now) c.args.lines.now c.args.begins.now) (between n (length c.args.begins.now - 1))) zero
