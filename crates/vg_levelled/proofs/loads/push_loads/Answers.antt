use Rattle.std.proofs.Common.{◌++◌, ◌∙◌, ap, map}
use Rattle.std.proofs.lemmas.List.{take_all}
use Rattle.vg_paired.specs.ByteLabels.{label_of}
use Rattle.vg_levelled.specs.Levelled.{byte_load}
use Rattle.vg_levelled.proofs.Bytes.{loads-turn}
use Rattle.vg_levelled.proofs.loads.push_loads.Goals as goal

pub loads-preserved : goal.loads-preserved
loads-preserved c =
    loads-turn c.args.loads.now c.loads.load-index _ c.args.lines.now.items c.loads.lines.items c.push.new.self.items
    c.in_ok-byte_load.field-0 c.loads-test.true c.loads.invariant
    c.in_ok-byte_load.ensures c.in_ok-push.ensures.items

pub returns : goal.returns
returns c =
    c.loads.invariant ∙ ap (λ l. c.args.lines.now.items ++ map byte_load (map label_of l))
    (take_all c.loads.load-index c.args.loads.now c.loads-test.false)
