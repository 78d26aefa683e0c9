use Rattle.std.proofs.Common.{◌+◌, ap}
use Rattle.vg_paired.specs.ByteLabels.{label_of}
use Rattle.vg_paired.proofs.Tallying.{adds-one}
use Rattle.vg_paired.proofs.tally.Tally.add.Goals as goal

pub returns : goal.returns
returns c =
    adds-one c.args.self.now.numbers c.set.new.self (label_of c.args.label) _ (ap (λ n. n + 1) c.count-count.ensures)
    c.in_ok-set.ensures
