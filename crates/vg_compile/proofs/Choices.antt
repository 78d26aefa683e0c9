-- The plain plan is a plan.
use Rattle.std.proofs.Common.{◌≡◌, ℕ, List, subst, sym}
use Rattle.vg_shapes.specs.declared.match_table.Match.{Match}
use Rattle.vg_shapes.specs.declared.pack.Pack.{Pack}
use Rattle.vg_shapes.specs.declared.ssa.Ssa.{Ssa}
use Rattle.vg_shapes.specs.Description.{Description}
use Rattle.vg_kernel_plans.specs.Laws.{IsPlanFor}
use Rattle.vg_kernel_plans.specs.Packing.{packing, plain_of}
use Rattle.vg_plans.proofs.Plain.{plain-plan}

pub plain_is_plan : (ds : List Description) (matches : List Match) (ssa : Ssa) (deps : List (ℕ × ℕ)) (plan : List Pack)
    → plan ≡ plain_of ds matches ssa deps → IsPlanFor ds matches ssa deps plan
plain_is_plan ds matches ssa deps plan e = subst (IsPlanFor ds matches ssa deps) (sym e) (plain-plan (packing ds matches ssa deps) _)
