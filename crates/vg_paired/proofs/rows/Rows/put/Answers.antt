use Rattle.vg_paired.specs.ByteLabels.{label_of}
use Rattle.vg_paired.proofs.Lowering.{rows-more}
use Rattle.vg_paired.proofs.rows.Rows.put.Goals as goal

pub returns : goal.returns
returns c =
    rows-more c.args.self.now (record { bytes = c.lower.new.row; pointers = c.lower-2.new.row }) (label_of c.args.label) (label_of c.by_pointer-pointer.result) c.args.line
    c.by_pointer-pointer.ensures c.in_ok-lower.ensures c.in_ok-lower-2.ensures
