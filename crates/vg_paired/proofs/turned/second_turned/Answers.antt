use Rattle.std.proofs.Common.{◌-◌, arith, length, map, refl, sym, ◌∙◌}
use Rattle.vg_paired.specs.ByteLabels.{label_of}
use Rattle.vg_paired.specs.Sweeps.{has_early}
use Rattle.vg_paired.proofs.Sweeping.{find-end, find-here, find-next}
use Rattle.vg_paired.proofs.turned.second_turned.Goals as goal

pub units-init : goal.units-init
units-init c = refl

pub units-preserved : goal.units-preserved
units-preserved c =
    let p = has_early c.args.flags.now (map label_of c.args.labels.now) c.args.lines.now c.args.begins.now c.args.unit in
    sym (find-next p c.units.later (length c.args.begins.now - 1) (omega arith) (sym c.in_ok-early.ensures ∙ c.if-early.false)) ∙ c.units.invariant

pub returns-then-early : goal.returns-then-early
returns-then-early c =
    let p = has_early c.args.flags.now (map label_of c.args.labels.now) c.args.lines.now c.args.begins.now c.args.unit in
    sym (find-here p c.units.later (length c.args.begins.now - 1) (omega arith) (sym c.in_ok-early.ensures ∙ c.if-early.true)) ∙ c.units.invariant

pub returns : goal.returns
returns c =
    let p = has_early c.args.flags.now (map label_of c.args.labels.now) c.args.lines.now c.args.begins.now c.args.unit in
    sym (find-end p c.units.later (length c.args.begins.now - 1) (omega arith)) ∙ c.units.invariant
