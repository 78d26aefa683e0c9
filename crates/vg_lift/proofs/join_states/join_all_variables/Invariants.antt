use Rattle.std.proofs.Common.{◌≡◌, ◌++◌, length}
use Rattle.std.specs.Prelude.{drop, map}
use Rattle.vg_pool.specs.Pool.{Keeps, tree_at}
use Rattle.vg_lift.specs.Join.{join_variables}
use Rattle.vg_lift.specs.States.{AreNodes}
use Rattle.vg_lift.proofs.join_states.join_all_variables.Given as goal

abbrev pub invariant-variables : goal.invariant-variables
invariant-variables l = record {
  same : map (tree_at l.pool) l.done.items ++ join_variables (tree_at l.initial.pool l.c) (map (tree_at l.initial.pool) (drop l.place l.xs)) (map (tree_at l.initial.pool) (drop l.place l.ys))
      ≡ join_variables (tree_at l.initial.pool l.c) (map (tree_at l.initial.pool) l.xs) (map (tree_at l.initial.pool) l.ys);
  nodes : AreNodes l.pool l.done.items;
  count : length l.done.items ≡ l.place;
  keeps : Keeps l.initial.pool l.pool;
}
