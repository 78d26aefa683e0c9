-- The shuffles that can be had for an operand.
use Rattle.std.specs.Prelude.{ℕ, List, [], ◌∷◌, Option, Some, None, map, filter, min}
use Rattle.vg_plans.specs.World.{can_shuffle}
use Rattle.vg_shapes.specs.declared.operand.Operand.{Operand}
use Rattle.vg_shapes.specs.declared.pack.Pack.{Pack}
use Rattle.vg_shapes.specs.declared.ssa.Ssa.{Ssa}
use Rattle.vg_shapes.specs.Description.{Description}
use Rattle.vg_kernel_plans.specs.Packing.{packing}
use Rattle.vg_cost.specs.declared.shuffle.Shuffle.{Shuffle}

-- a shuffle as its cost and what its parameters take, if there is one
abbrev pub shuffle_list : Option Shuffle → List (ℕ × List Operand)
shuffle_list None = []
shuffle_list (Some s) = (s.cost, s.parts.items) ∷ []

-- the costs of those for whose parameters the plan has packs
abbrev pub costs_had : List Description → Ssa → List Pack → List (ℕ × List Operand) → List ℕ
costs_had ds ssa plan ss = map (λ s. s.0) (filter (can_shuffle (packing ds [] ssa []) plan) ss)

-- the least of them, and at most `cost`
abbrev pub least_of : ℕ → List ℕ → ℕ
least_of cost [] = cost
least_of cost (c ∷ cs) = least_of (min c cost) cs
