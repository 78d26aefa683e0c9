use Rattle.std.proofs.Common.{◌≡◌, map, take}
use Rattle.vg_paired.specs.Balances.{number_of}
use Rattle.vg_paired.specs.ByteLabels.{label_of}
use Rattle.vg_events.specs.Events.{Label}
use Rattle.vg_events.specs.Ranks.{count_label}
use Rattle.vg_paired.proofs.balance.tally.Given as goal

abbrev pub invariant-labels : goal.invariant-labels
invariant-labels l = (x : Label) → number_of l.counts x ≡ count_label x (map label_of (take l.label-index l.labels))
