use Rattle.std.proofs.Common.{subst, sym}
use Rattle.vg_cost.proofs.Marking.{marked_all, marked_none, marked_step}
use Rattle.vg_cost.proofs.marks.mark_packs.Goals as goal
use Rattle.std.specs.List.{flat_map}
use Rattle.std.proofs.lemmas.Grind.{flat_map-append}
use Rattle.std.proofs.lemmas.List.{append-nil}
use Rattle.vg_shapes.specs.Pack.{units_of}
use Rattle.vg_cost.specs.Marks.{Marked}

pub packs-init : goal.packs-init
packs-init c = marked_none _

pub packs-preserved : goal.packs-preserved
packs-preserved c =
    marked_step (flat_map units_of) c.args.packs.now c.packs.pack-index c.pack-item.result c.pack-item.result _ _ _ (flat_map-append units_of) c.packs-test.true
    c.pack-item.is c.packs.invariant
    (subst (λ l. Marked l c.packs.marks c.mark_pack.new.marks) (sym (append-nil (units_of c.pack-item.result))) c.mark_pack.ensures)

pub returns : goal.returns
returns c = marked_all (flat_map units_of) c.args.packs.now c.packs.pack-index _ _ c.packs-test.false c.packs.invariant
