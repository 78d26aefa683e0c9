use Rattle.std.proofs.Common.{◌∙◌, ap}
use Rattle.vg_packs.specs.Placed.{links_of}
use Rattle.vg_packs.proofs.Chains.{five}
use Rattle.vg_packs.proofs.groups.store_groups.Goals as goal

pub returns : goal.returns
returns c =
    five c.args.ssa.now c.as_slice-links.result.now c.new-groups.result.items c.push_groups.new.groups.items
    c.push_groups-2.new.groups.items c.push_groups-3.new.groups.items c.push_groups-4.new.groups.items
    c.push_groups-5.new.groups.items
    (c.as_slice-links.ensures.value ∙ c.in_ok-links.ensures ∙ ap links_of (c.as_slice.ensures.value ∙ c.in_ok-stores.ensures))
    c.new-groups.ensures.items c.in_ok-push_groups.ensures c.in_ok-push_groups-2.ensures c.in_ok-push_groups-3.ensures
    c.in_ok-push_groups-4.ensures c.in_ok-push_groups-5.ensures
