-- A plan whose cost is known.
use Rattle.std.specs.Prelude.{◌≡◌, ℕ, List, [], map, sum_by}
use Rattle.std.specs.List.{AllByRecursion, flat_map}
use Rattle.vg_plans.specs.World.{operands, plan_cost}
use Rattle.vg_shapes.specs.declared.match_table.Match.{Match}
use Rattle.vg_shapes.specs.declared.pack.Pack.{Pack}
use Rattle.vg_shapes.specs.declared.ssa.Ssa.{Ssa}
use Rattle.vg_shapes.specs.Description.{Description}
use Rattle.vg_kernel_plans.specs.Packing.{packing, price_of}
use Rattle.vg_kernel_plans.specs.Taken.{IsShort}
use Rattle.vg_cost.specs.declared.running.Running.{Running}
use Rattle.vg_cost.specs.Shuffling.{AreShuffles}
use Rattle.vg_cost.specs.declared.taken.Taken.{Taken}
use Rattle.vg_cost.specs.Needs.{AreNeedsFor}
use Rattle.vg_cost.specs.Taken.{inserted_for, taken_for}

-- the operands of the packs, each once, and what their recipes cost
abbrev pub taken_by : List Description → List Match → Ssa → List Pack → List Taken
taken_by ds matches ssa plan =
    map (taken_for ds ssa plan) (operands (packing ds matches ssa []) plan)

-- what is kept is told by the packs alone, however the plan has grown
pub record StandsFor (ds : List Description) (matches : List Match) (ssa : Ssa) (r : Running) : Type 0 where
  pub short : AllByRecursion IsShort r.packs.items
  pub cost : (deps : List (ℕ × ℕ)) → r.cost ≡ plan_cost (packing ds matches ssa deps) r.packs.items
  pub taken : r.taken.items ≡ taken_by ds matches ssa r.packs.items
  pub shuffles : AreShuffles ds r.shuffles
  pub needs : AreNeedsFor ssa r.packs.items (flat_map inserted_for r.taken.items) r.needs.counts.items r.needs.lines
  -- the lines of the packs
  pub price : r.price ≡ sum_by (price_of ds) r.packs.items
