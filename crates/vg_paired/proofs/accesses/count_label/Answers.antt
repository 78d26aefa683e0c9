use Rattle.std.proofs.Common.{sym, ◌∙◌}
use Rattle.vg_paired.specs.ByteLabels.{label_of}
use Rattle.vg_paired.proofs.Holding.{count-labels}
use Rattle.vg_paired.proofs.accesses.count_label.Goals as goal

pub returns : goal.returns
returns c = c.count_having.ensures ∙ sym (count-labels (label_of c.args.label) c.args.accesses.now)
