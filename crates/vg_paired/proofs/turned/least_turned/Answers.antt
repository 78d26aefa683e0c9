use Rattle.std.proofs.Common.{◌-◌, ◌+◌, arith, length, map}
use Rattle.vg_paired.specs.ByteLabels.{label_of}
use Rattle.vg_paired.specs.Sweeps.{has_early, is_turned_unit}
use Rattle.vg_paired.proofs.Turning.{found-inside, none-or-inside}
use Rattle.vg_paired.proofs.turned.least_turned.Goals as goal

pub second_turned-requires-clause-unit : goal.second_turned-requires-clause-unit
second_turned-requires-clause-unit c =
    let turned = is_turned_unit c.args.flags.now (map label_of c.args.labels.now) c.args.lines.now c.args.begins.now in
    omega (arith, found-inside turned 0 (length c.args.begins.now - 1) c.in-Some.unit c.in_ok-found.found (omega arith) c.in_ok-found.ensures c.in-Some.is)

pub pair-requires-clause-unit : goal.pair-requires-clause-unit
pair-requires-clause-unit c =
    let turned = is_turned_unit c.args.flags.now (map label_of c.args.labels.now) c.args.lines.now c.args.begins.now in
    omega (arith, found-inside turned 0 (length c.args.begins.now - 1) c.in-Some.unit c.in_ok-found.found (omega arith) c.in_ok-found.ensures c.in-Some.is, c.requires.few)

pub pair-requires-clause-later : goal.pair-requires-clause-later
pair-requires-clause-later c =
    let turned = is_turned_unit c.args.flags.now (map label_of c.args.labels.now) c.args.lines.now c.args.begins.now in
    let early = has_early c.args.flags.now (map label_of c.args.labels.now) c.args.lines.now c.args.begins.now c.in-Some.unit in
    let inside = found-inside turned 0 (length c.args.begins.now - 1) c.in-Some.unit c.in_ok-found.found (omega arith) c.in_ok-found.ensures c.in-Some.is in
    none-or-inside early (c.in-Some.unit + 1) (length c.args.begins.now - 1) _ c.in_ok-later-in-Some.later (omega arith) (omega (arith, c.requires.few)) c.in_ok-later-in-Some.ensures
