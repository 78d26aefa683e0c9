use Rattle.std.proofs.Common.{◌∙◌}
use Rattle.vg_emit.proofs.Marking.{marked-packs}
use Rattle.vg_emit.proofs.marks.Marks.mark_packs.Goals as goal

pub packs-preserved : goal.packs-preserved
packs-preserved c =
    marked-packs c.packs.self c.mark_pack.new.self c.args.packs.now c.packs.pack-index c.pack-item.result
    c.packs-test.true c.pack-item.is c.mark_pack.ensures
    ∙ c.packs.invariant
