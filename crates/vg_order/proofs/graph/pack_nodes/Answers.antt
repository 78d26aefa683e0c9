use Rattle.vg_order.proofs.Building.{needs-more, nodes-more}
use Rattle.vg_order.proofs.graph.pack_nodes.Goals as goal

pub packs-preserved : goal.packs-preserved
packs-preserved c =
    let so = c.packs.invariant in
    record {
      nodes = nodes-more c.packs.pack c.packs.list.nodes.items c.push.new.self.nodes.items so.nodes c.in_ok-push.ensures.nodes;
      needs = needs-more c.args.first c.args.end c.args.table.now c.args.packs.now c.packs.pack c.index-packs-pack.result c.packs.list.nodes.items c.push.new.self.nodes.items
          c.packs.list.needs.items c.push.new.self.needs.items c.in_ok-needs.needs c.packs-test.true c.index-packs-pack.is c.in_ok-needs.ensures so.needs
          c.in_ok-push.ensures.nodes c.in_ok-push.ensures.needs;
    }
