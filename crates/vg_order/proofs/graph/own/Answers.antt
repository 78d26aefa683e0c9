use Rattle.std.proofs.Common.{◌<◌, length, ◌∙◌, arith}
use Rattle.std.specs.Prelude.{slice_index}
use Rattle.std.proofs.lemmas.List.{length-set}
use Rattle.vg_order.proofs.Building.{own-others, own-theirs}
use Rattle.vg_order.proofs.Counts.{stands_at}
use Rattle.vg_order.proofs.graph.own.Goals as goal

pub index_mut-requires : goal.index_mut-requires
index_mut-requires c =
    let inside : slice_index c.args.units.now c.loop-k.k < length c.args.owners.now.items = c.requires (slice_index c.args.units.now c.loop-k.k) (stands_at c.args.units.now c.loop-k.k c.loop-k-test.true) in
    let long = c.loop-k.invariant.long in
    omega arith

pub loop-k-preserved : goal.loop-k-preserved
loop-k-preserved c =
    let owners = c.loop-k.owners.items in
    let units = c.args.units.now in
    let k = c.loop-k.k in
    let more = c.loop-k-test.true in
    let long = c.loop-k.invariant.long in
    let inside : slice_index units k < length c.args.owners.now.items = c.requires (slice_index units k) (stands_at units k more) in
    record {
      theirs = own-theirs owners units k c.args.pack more (omega arith) c.loop-k.invariant.theirs;
      others = own-others owners c.args.owners.now.items units k c.args.pack more c.loop-k.invariant.others;
      long = length-set owners (slice_index units k) _ ∙ long;
    }
