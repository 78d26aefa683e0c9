use Rattle.std.proofs.Common.{◌≡◌, ◌++◌}
use Rattle.std.specs.Prelude.{drop}
use Rattle.vg_pool.specs.Pool.{Keeps, tree_at}
use Rattle.vg_lift.specs.Join.{join, join_from}
use Rattle.vg_lift.specs.Views.{BitsFit, OpenFew, OpenFits, bits_of, open_of}
use Rattle.vg_lift.proofs.join.join.Given as goal

abbrev pub invariant-places : goal.invariant-places
invariant-places l = record {
  same : bits_of l.pool l.done.items ++ join_from (tree_at l.initial.pool l.c) (open_of l.pool l.range) l.place (bits_of l.initial.pool (drop l.place l.xs)) (bits_of l.initial.pool (drop l.place l.ys))
      ≡ join (tree_at l.initial.pool l.c) (bits_of l.initial.pool l.xs) (bits_of l.initial.pool l.ys);
  done : BitsFit l.pool l.done.items;
  range : OpenFits l.pool l.range;
  few : OpenFew l.place l.range;
  keeps : Keeps l.initial.pool l.pool;
}
