-- Plans of kernels in which load groups may feed operands, and whose store groups may all be aligned.
use Rattle.std.specs.Prelude.{ℕ, true, false, List, [], if◌then◌else◌}
use Rattle.vg_plans.specs.Crowded.{IsPlan}
use Rattle.vg_plans.specs.World.{World, follows, trying}
use Rattle.vg_shapes.specs.declared.match_table.Match.{Match}
use Rattle.vg_shapes.specs.declared.operand.Operand.{Operand}
use Rattle.vg_shapes.specs.declared.pack.Pack.{Pack}
use Rattle.vg_shapes.specs.declared.ssa.Ssa.{Ssa}
use Rattle.vg_shapes.specs.Description.{Description}
use Rattle.vg_kernel_plans.specs.declared.choice.Choice.{Choice}
use Rattle.vg_kernel_plans.specs.Groups.{aligned_groups, store_groups}
use Rattle.vg_kernel_plans.specs.LoadGroups.{feeders}
use Rattle.vg_kernel_plans.specs.Packing.{packing}

-- the store groups that are tried
abbrev pub groups_by : Choice → Ssa → List Pack
groups_by c ssa = if c.aligned then aligned_groups ssa else store_groups ssa

-- the load groups that are tried for an operand
abbrev pub feeders_by : Choice → Ssa → Operand → List Pack
feeders_by c ssa o = if c.fed then feeders ssa o else []

-- the packs of a kernel, of which these are tried
abbrev pub packing_by :
    Choice → List Description → List Match → Ssa → List (ℕ × ℕ) → World Pack Operand Operand
packing_by c ds matches ssa deps =
    trying (packing ds matches ssa deps) (groups_by c ssa) (feeders_by c ssa)

-- all store groups and nothing that feeds; with all that feed; with the aligned store groups alone
abbrev pub unfed : Choice
unfed = record { fed = false; aligned = false }

abbrev pub fed : Choice
fed = record { fed = true; aligned = false }

abbrev pub fed_aligned : Choice
fed_aligned = record { fed = true; aligned = true }

-- a plan of what is tried
abbrev pub IsPlanBy : Choice → List Description → List Match → Ssa → List (ℕ × ℕ) → List Pack → Type 0
IsPlanBy c ds matches ssa deps plan = IsPlan (follows (packing_by c ds matches ssa deps)) plan

-- each pack is a store group, produces an operand of an earlier pack, or feeds one
abbrev pub IsFedPlanFor : List Description → List Match → Ssa → List (ℕ × ℕ) → List Pack → Type 0
IsFedPlanFor ds matches ssa deps plan = IsPlanBy fed ds matches ssa deps plan
