use Rattle.std.proofs.Common.{◌∙◌, ap, map}
use Rattle.std.specs.Prelude.{◌&&◌}
use Rattle.std.specs.List.{list_all}
use Rattle.std.proofs.lemmas.List.{take_all}
use Rattle.vg_paired.specs.ByteLabels.{label_of}
use Rattle.vg_levelled.specs.Levelled.{has_offset}
use Rattle.vg_levelled.proofs.Bytes.{offsets-turn}
use Rattle.vg_levelled.proofs.loads.have_offsets.Goals as goal

pub loads-preserved : goal.loads-preserved
loads-preserved c =
    offsets-turn c.args.loads.now c.loads.load-index _ c.loads.all c.both-all.result c.loads-test.true
    c.loads.invariant (c.both-all.ensures ∙ ap (λ b. c.loads.all && b) c.has_offset.ensures)

pub returns : goal.returns
returns c = c.loads.invariant ∙ ap (λ l. list_all has_offset (map label_of l))
    (take_all c.loads.load-index c.args.loads.now c.loads-test.false)
