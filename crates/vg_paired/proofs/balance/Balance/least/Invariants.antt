use Rattle.std.proofs.Common.{map, take}
use Rattle.std.specs.Option.{option_map}
use Rattle.vg_paired.specs.Balances.{WithLeft}
use Rattle.vg_paired.specs.ByteLabels.{label_of}
use Rattle.vg_paired.proofs.balance.Balance.least.Given as goal

abbrev pub invariant-labels : goal.invariant-labels
invariant-labels l = WithLeft l.self.left (map label_of (take l.label-index l.labels)) (option_map label_of l.self.least) (option_map label_of l.least)
