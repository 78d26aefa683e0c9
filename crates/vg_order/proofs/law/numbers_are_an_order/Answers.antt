use Rattle.vg_order.proofs.AllDependences.{numbers-are_an_order}
use Rattle.vg_order.proofs.law.numbers_are_an_order.Goals as goal

pub returns : goal.returns
returns c = numbers-are_an_order
