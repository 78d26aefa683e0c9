use Rattle.vg_paired.proofs.Noting.{noted-behind}
use Rattle.vg_paired.proofs.label_numbers.LabelNumbers.set.Goals as goal

pub returns : goal.returns
returns c =
    noted-behind c.args.self.now.numbers.entries c.insert.new.self.entries c.args.label c.args.number
    c.in_ok-insert.ensures.updates.0
