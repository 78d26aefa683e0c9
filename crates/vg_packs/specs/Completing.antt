-- Plans that grow again pack by pack, and are completed.
use Rattle.std.specs.Prelude.{◌≡◌, ℕ, true, false, List, [], ◌∷◌, ◌++◌, Option, Some, None}
use Rattle.vg_plans.specs.Completed.{completed}
use Rattle.vg_plans.specs.World.{World, stays_plan}
use Rattle.vg_shapes.specs.declared.operand.Operand.{Operand}
use Rattle.vg_shapes.specs.declared.pack.Pack.{Pack}

-- after a plan each pack stays one with those before it
abbrev pub StayInTurn : World Pack Operand Operand → List Pack → List Pack → Type 0
StayInTurn w done [] = Unit {0}
StayInTurn w done (p ∷ ps) = (stays_plan w done p ≡ true) × StayInTurn w (done ++ p ∷ []) ps

-- the completed plan with the pack, where the plan stays one with it, else nothing
abbrev pub IsCompletedWith :
    World Pack Operand Operand → ℕ → List Pack → Pack → Option (List Pack) → Type 0
IsCompletedWith w turns plan p None = stays_plan w plan p ≡ false
IsCompletedWith w turns plan p (Some whole) =
    (stays_plan w plan p ≡ true) × (whole ≡ completed w turns (plan ++ p ∷ []))
