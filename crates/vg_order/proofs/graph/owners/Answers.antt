use Rattle.std.proofs.Common.{◌∙◌, None, subst, arith}
use Rattle.std.specs.Prelude.{slice_index_or}
use Rattle.vg_shapes.specs.Order.{Stands}
use Rattle.vg_order.proofs.Building.{owner-more, packed-has}
use Rattle.vg_order.proofs.graph.owners.Goals as goal

pub own-requires : goal.own-requires
own-requires c = λ x s.
    let below = c.requires.inside x (packed-has c.args.packs.now c.packs.pack x c.index-packs-pack.result c.packs-test.true c.index-packs-pack.is
    (subst (Stands x) (c.as_slice.ensures.value ∙ c.in_ok-units.ensures) s)) in
    let long = c.packs.invariant.long in
    omega arith

pub packs-preserved : goal.packs-preserved
packs-preserved c = record {
  long = c.own.ensures.long ∙ c.packs.invariant.long;
  owners = λ x. owner-more c.args.packs.now c.packs.pack x c.index-packs-pack.result c.as_slice.result.now
      (slice_index_or c.packs.owners.items x None) (slice_index_or c.own.new.owners.items x None) c.packs-test.true c.index-packs-pack.is
      (c.as_slice.ensures.value ∙ c.in_ok-units.ensures) (c.own.ensures.theirs x) (c.own.ensures.others x) (c.packs.invariant.owners x);
}
