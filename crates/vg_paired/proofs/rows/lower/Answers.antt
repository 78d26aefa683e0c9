use Rattle.std.proofs.Common.{sym}
use Rattle.vg_paired.specs.ByteLabels.{label_of}
use Rattle.vg_paired.proofs.Lowering.{lower-none, lower-set}
use Rattle.vg_paired.proofs.rows.lower.Goals as goal

pub returns-then-is_within : goal.returns-then-is_within
returns-then-is_within c = lower-none c.args.row.now (label_of c.args.label) c.args.line (sym c.if-is_within.ensures)

pub returns : goal.returns
returns c = lower-set c.args.row.now c.set.new.self (label_of c.args.label) c.args.line (sym c.if-is_within.ensures) c.in_ok-set.ensures
