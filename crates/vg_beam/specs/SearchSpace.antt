-- What plans are searched over.
use Rattle.std.specs.Prelude.{ℕ, List, map}
use Rattle.vg_kernel_plans.specs.declared.choice.Choice.{Choice}
use Rattle.vg_kernel_plans.specs.Fed.{packing_by}
use Rattle.vg_kernel_plans.specs.Laws.{cost_of}
use Rattle.vg_kernel_plans.specs.LoadTable.{AreLoadGroups}
use Rattle.vg_plans.specs.World.{World}
use Rattle.vg_shapes.specs.declared.operand.Operand.{Operand}
use Rattle.vg_shapes.specs.declared.pack.Pack.{Pack}
use Rattle.vg_shapes.specs.Description.{Description, description_of}
use Rattle.vg_beam.specs.declared.search_space.SearchSpace.{SearchSpace}

abbrev pub described : SearchSpace → List Description
described s = map description_of s.descriptions.now

-- which packs are tried
abbrev pub choice_of : SearchSpace → Choice
choice_of s = s.groups.now.choice

-- the plans and their costs
abbrev pub world_of : SearchSpace → World Pack Operand Operand
world_of s = packing_by (choice_of s) (described s) s.table.now s.ssa.now s.deps.now

-- the load groups are those of the kernel
abbrev pub HasGroups : SearchSpace → Type 0
HasGroups s = AreLoadGroups s.ssa.now s.groups.now

-- what a plan costs, whatever is tried
abbrev pub cost_in : SearchSpace → List Pack → ℕ
cost_in s = cost_of (described s) s.table.now s.ssa.now s.deps.now
