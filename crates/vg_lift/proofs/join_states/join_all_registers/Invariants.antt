use Rattle.std.proofs.Common.{◌≡◌, ◌++◌, length}
use Rattle.std.specs.Prelude.{drop, map, take}
use Rattle.vg_pool.specs.Pool.{Keeps, tree_at}
use Rattle.vg_lift.specs.Join.{join_registers}
use Rattle.vg_lift.specs.States.{AllFit}
use Rattle.vg_lift.specs.Views.{bits_of}
use Rattle.vg_lift.proofs.join_states.join_all_registers.Given as goal

abbrev pub invariant-registers : goal.invariant-registers
invariant-registers l = record {
  same : map (bits_of l.pool) l.done.items ++ join_registers (tree_at l.initial.pool l.c) (map (bits_of l.initial.pool) (drop l.place l.xs)) (map (bits_of l.initial.pool) (drop l.place l.ys))
      ≡ join_registers (tree_at l.initial.pool l.c) (map (bits_of l.initial.pool) l.xs) (map (bits_of l.initial.pool) l.ys);
  fit : AllFit l.pool l.done.items;
  widths : map length l.done.items ≡ map length (take l.place l.xs);
  keeps : Keeps l.initial.pool l.pool;
}
