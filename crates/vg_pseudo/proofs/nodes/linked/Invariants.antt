-- what is left to be linked, before what is linked, is the whole
use Rattle.std.proofs.Common.{◌≡◌, ◌≤◌, map, vec_len}
use Rattle.std.specs.List.{All}
use Rattle.vg_pseudo.specs.Expressions.{linked, linked_none}
use Rattle.vg_pseudo.specs.Views.{part_of, linked_of}
use Rattle.vg_pseudo.proofs.nodes.linked.Given as goal

abbrev pub invariant-parts : goal.invariant-parts
invariant-parts l = record {
  node : linked (map part_of l.left.items) (linked_of l.behind) ≡ linked (map part_of l.fn.parts.items) (linked_none l.fn.calls);
  shallow : All (λ p. p.depth ≤ l.fn.room) l.left.items;
  deep : l.behind.depth ≤ l.fn.room;
}

abbrev pub decreases-parts : goal.decreases-parts
decreases-parts l = vec_len l.left
