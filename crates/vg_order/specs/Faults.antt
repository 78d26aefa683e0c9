-- What a refusal tells.
use Rattle.std.specs.Prelude.{ℕ, List, map}
use Rattle.std.specs.List.{AllByRecursion}
use Rattle.vg_shapes.specs.declared.match_table.Match.{Match}
use Rattle.vg_shapes.specs.declared.pack.Pack.{Pack}
use Rattle.vg_shapes.specs.declared.ssa.Ssa.{Ssa}
use Rattle.vg_order.specs.declared.fault.OrderFault.{OrderFault}
use Rattle.vg_order.specs.declared.fault.OrderFault.TheVariants.{Cycle, Memory}
use Rattle.vg_order.specs.ByList.{AreOnce, NamesCycle}
use Rattle.vg_order.specs.declared.graph.Graph.{Graph}
use Rattle.vg_order.specs.Paths.{ClosesBy, home_at, IsInside, needs_at}

-- units whose nodes are a cycle
abbrev pub Tells : List (ℕ × ℕ) → Ssa → List Match → List Pack → OrderFault → Type 0
Tells deps ssa matches packs (Cycle units) = NamesCycle deps ssa matches packs units.items
Tells deps ssa matches packs (Memory e) = Unit {0}

-- units of different nodes that lead from one to the next and back, where nodes have numbers
abbrev pub Closes : List (ℕ × ℕ) → Graph → OrderFault → Type 0
Closes deps g (Cycle units) =
    ClosesBy (needs_at deps g) (home_at g) units.items × AllByRecursion (IsInside g) units.items
    × AreOnce (map (home_at g) units.items)
Closes deps g (Memory e) = Unit {0}
