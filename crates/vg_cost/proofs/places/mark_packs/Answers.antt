use Rattle.std.proofs.Common.{map, subst, sym}
use Rattle.std.specs.List.{flat_map}
use Rattle.std.proofs.lemmas.Grind.{flat_map-append}
use Rattle.std.proofs.lemmas.List.{append-nil}
use Rattle.vg_shapes.specs.Description.{description_of}
use Rattle.vg_cost.specs.Marks.{Marked}
use Rattle.vg_cost.specs.Places.{places_of}
use Rattle.vg_cost.proofs.Marking.{marked_all, marked_none, marked_step}
use Rattle.vg_cost.proofs.places.mark_packs.Goals as goal

pub packs-init : goal.packs-init
packs-init c = marked_none _

pub packs-preserved : goal.packs-preserved
packs-preserved c =
    let f = places_of (map description_of c.args.descriptions.now) c.args.ssa.now in
    marked_step (flat_map f) c.args.packs.now c.packs.pack-index c.pack-item.result c.pack-item.result _ _ _ (flat_map-append f) c.packs-test.true
    c.pack-item.is c.packs.invariant
    (subst (λ l. Marked l c.packs.marks c.mark_pack.new.marks) (sym (append-nil (f c.pack-item.result))) c.mark_pack.ensures)

pub returns : goal.returns
returns c =
    marked_all (flat_map (places_of (map description_of c.args.descriptions.now) c.args.ssa.now)) c.args.packs.now c.packs.pack-index _ _
    c.packs-test.false c.packs.invariant
