-- Two words that are loaded and stored in each other's place: their plan is fed.
use Rattle.std.specs.Prelude.{List, [], ◌∷◌}
use Rattle.vg_base.specs.declared.width.Width.TheVariants.{W32}
use Rattle.vg_shapes.specs.declared.pack.Pack.{Pack}
use Rattle.vg_shapes.specs.declared.pack.Pack.TheVariants.{Loads, Stores}
use Rattle.vg_shapes.specs.declared.ssa.Ssa.{Ssa}
use Rattle.vg_shapes.specs.declared.ssa_unit.SsaUnit.TheVariants.{Load, Store}
use Rattle.vg_shapes.specs.declared.wanted.Wanted.TheVariants.{Value}
use Rattle.vg_kernel_plans.specs.Rows.{at, of_units}
use Rattle.vg_plan_relations.specs.Plans.{IsFedPlanByNodes, IsPlanByNodes}

-- the loads are units 0 and 1, and each is stored where the other one stands
abbrev pub swapped : Ssa
swapped =
    of_units
    (Load (at 1 0) W32
    ∷ Load (at 1 4) W32
    ∷ Store (at 0 0) W32 (Value 1)
    ∷ Store (at 0 4) W32 (Value 0)
    ∷ [])

-- both stores in one line, and both loads in one that feeds them
abbrev pub swapped_plan : List Pack
swapped_plan = Stores (2 ∷ 3 ∷ []) ∷ Loads (0 ∷ 1 ∷ []) ∷ []

-- it is a plan where load groups feed operands, and only there: the loads stand in another order than
-- the stores want them, so they produce nothing
pub record SwappedLoadsAreFed : Type 0 where
  pub fed : IsFedPlanByNodes [] [] swapped swapped_plan
  pub alone : IsPlanByNodes [] [] swapped swapped_plan → ⊥
