-- Turns of the plain plan.
use Rattle.std.specs.Prelude.{◌≡◌, ℕ, suc, List, []}
use Rattle.vg_plans.specs.Completed.{produced}
use Rattle.vg_plans.specs.PlainPlan.{walk, with_groups}
use Rattle.vg_plans.specs.World.{World}
use Rattle.vg_shapes.specs.declared.operand.Operand.{Operand}
use Rattle.vg_shapes.specs.declared.pack.Pack.{Pack}

-- one turn leads from a plan and the operands that wait to another plan and others that wait
abbrev pub IsTurn : World Pack Operand Operand → List Pack → List Operand → List Pack → List Operand → Type 0
IsTurn w plan queue new_plan new_queue = (n : ℕ) → walk w (suc n) plan queue ≡ walk w n new_plan new_queue

-- the plain plan of these store groups
abbrev pub plain_among : World Pack Operand Operand → ℕ → List Pack → List Pack
plain_among w turns groups = produced w turns (with_groups w [] groups)
