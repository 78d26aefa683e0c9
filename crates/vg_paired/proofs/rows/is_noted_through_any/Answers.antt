use Rattle.std.proofs.Common.{◌-◌, arith, sym, ◌∙◌}
use Rattle.vg_paired.specs.ByteLabels.{label_of}
use Rattle.vg_paired.specs.Rows.{is_noted_through}
use Rattle.vg_paired.proofs.Lowering.{below-next}
use Rattle.vg_paired.proofs.rows.is_noted_through_any.Goals as goal

pub pointers-preserved : goal.pointers-preserved
pointers-preserved c =
    below-next (is_noted_through c.args.flags.now c.args.row.now (label_of c.args.label) c.args.line) c.pointers.left (c.pointers.left - 1) (omega arith) (sym c.if-is_noted_through.ensures)
    ∙ c.pointers.invariant
