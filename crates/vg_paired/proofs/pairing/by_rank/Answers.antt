use Rattle.std.proofs.Common.{[], map}
use Rattle.vg_paired.specs.ByteLabels.{label_of}
use Rattle.vg_paired.proofs.pairing.by_rank.Goals as goal

pub returns : goal.returns
returns c = (c.in_ok-pairs.ensures (map label_of c.args.labels.now) [] c.in_ok-heads.ensures).0
