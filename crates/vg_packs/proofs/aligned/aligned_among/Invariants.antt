use Rattle.std.proofs.Common.{◌≡◌, ◌++◌}
use Rattle.std.specs.Prelude.{filter}
use Rattle.std.specs.Vec.Iter.{into_iter_items}
use Rattle.vg_packs.specs.Aligned.{is_pack_aligned}
use Rattle.vg_packs.proofs.aligned.aligned_among.Given as goal

abbrev pub invariant-groups : goal.invariant-groups
invariant-groups l =
    l.aligned.items ++ filter (is_pack_aligned l.ssa l.links) (into_iter_items l.group-iterator)
    ≡ filter (is_pack_aligned l.ssa l.links) l.fn.groups.items
