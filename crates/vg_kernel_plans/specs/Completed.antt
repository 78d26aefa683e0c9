-- Completed plans of kernels, the careful plain plan, and the plan that is chosen beside them.
use Rattle.std.specs.Prelude.{ℕ, ◌*◌, List, length}
use Rattle.vg_plans.specs.Completed.{careful_plan, chosen_fed, completed}
use Rattle.vg_plans.specs.PlainPlan.{plain_plan}
use Rattle.vg_shapes.specs.declared.match_table.Match.{Match}
use Rattle.vg_shapes.specs.declared.pack.Pack.{Pack}
use Rattle.vg_shapes.specs.declared.ssa.Ssa.{Ssa}
use Rattle.vg_shapes.specs.Description.{Description}
use Rattle.vg_kernel_plans.specs.Fed.{fed_aligned, packing_by}
use Rattle.vg_kernel_plans.specs.Packing.{sizes_of}

-- no more operands wait than twice as many as there are units: a pack has at least two units, and takes at
-- most four operands
abbrev pub turns_of : Ssa → ℕ
turns_of ssa = 2 * length ssa.units

-- the plain plan of the aligned store groups
abbrev pub aligned_plain_of : List Description → List Match → Ssa → List (ℕ × ℕ) → List Pack
aligned_plain_of ds matches ssa deps =
    plain_plan (packing_by fed_aligned ds matches ssa deps) (turns_of ssa)

-- the plan, with a producer for each operand that waits, and then with what feeds those that are not there
abbrev pub completed_of : List Description → List Match → Ssa → List (ℕ × ℕ) → List Pack → List Pack
completed_of ds matches ssa deps plan =
    completed (packing_by fed_aligned ds matches ssa deps) (turns_of ssa) plan

-- the plan that takes an aligned store group, completed, only where that costs less
abbrev pub careful_of : List Description → List Match → Ssa → List (ℕ × ℕ) → List Pack
careful_of ds matches ssa deps = careful_plan (packing_by fed_aligned ds matches ssa deps) (turns_of ssa)

-- the first of least cost: the empty plan, the plain plan of the aligned store groups, the careful plain
-- plan, and in a kernel of at most 256 units all plans that are met, and each that is kept, completed
abbrev pub chosen_fed_of : List Description → List Match → Ssa → List (ℕ × ℕ) → ℕ → List Pack
chosen_fed_of ds matches ssa deps width =
    chosen_fed (packing_by fed_aligned ds matches ssa deps) (turns_of ssa) width (sizes_of ssa)
