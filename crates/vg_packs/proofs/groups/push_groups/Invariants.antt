use Rattle.std.proofs.Common.{◌≡◌, ◌++◌, ◌/◌, take, flat_map}
use Rattle.vg_base.specs.Width.{size_of}
use Rattle.vg_packs.specs.Placed.{group_from}
use Rattle.vg_packs.proofs.groups.push_groups.Given as goal

abbrev pub invariant-links : goal.invariant-links
invariant-links l =
    l.groups.items ≡ l.initial.groups.items ++ flat_map (λ k. group_from l.links (l.size / size_of k.width) k) (take l.link-index l.links)
