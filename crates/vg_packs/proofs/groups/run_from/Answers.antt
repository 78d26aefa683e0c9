use Rattle.std.proofs.Common.{Some}
use Rattle.vg_packs.specs.Placed.{run_from as runs}
use Rattle.vg_packs.proofs.Chains.{run-goes}
use Rattle.vg_packs.proofs.groups.run_from.Goals as goal

pub places-preserved : goal.places-preserved
places-preserved c =
    run-goes c.args.links.now c.places.left c.places.at c.in-Some.link c.places.units.items c.push.new.self.items
    (runs c.args.links.now c.args.count (Some c.args.first)) c.link_behind-at.result c.places-test.true c.in-Some.is
    c.in_ok-push-in-Some.ensures.items c.link_behind-at.ensures c.places.invariant
