-- The walk of the plain plan to its end, and what it leaves.
use Rattle.std.specs.Prelude.{◌≡◌, ◌⊎◌, true, false, List, [], ◌∷◌, ◌++◌, Some, None}
use Rattle.vg_plans.specs.Members.{Has}
use Rattle.vg_plans.specs.PlainPlan.{first_producer, is_settled}
use Rattle.vg_plans.specs.World.{World}

-- The walk from a plan, with the operands that wait, to its last plan, however long it takes. The
-- first operand that waits is left where it is settled or no producer can join the plan; else its
-- first producer that can does, and the operands of that wait after the others. The walk ends
-- where no operand waits.
pub data WalksTo {P O N : Type 0} (w : World P O N) : List P → List O → List P → Type 0 where
  ended : (plan : List P) → WalksTo w plan [] plan
  settled : (plan last : List P) (o : O) (queue : List O) → is_settled w plan o ≡ true
      → WalksTo w plan queue last → WalksTo w plan (o ∷ queue) last
  left : (plan last : List P) (o : O) (queue : List O) → is_settled w plan o ≡ false
      → first_producer w plan o ≡ None
      → WalksTo w plan queue last → WalksTo w plan (o ∷ queue) last
  joined : (plan last : List P) (o : O) (queue : List O) (p : P) → is_settled w plan o ≡ false
      → first_producer w plan o ≡ Some p
      → WalksTo w (plan ++ p ∷ []) (queue ++ w.operands_of p) last → WalksTo w plan (o ∷ queue) last

module _ {P O N : Type 0} (w : World P O N) (plan : List P) (o : O) where
  -- a pack of the plan produces the operand
  abbrev pub IsProduced : Type 0
  IsProduced = (p : P) × Has p plan × Has p (w.producers o)

  -- once, while the plan grew, no producer of the operand could join it
  abbrev pub FoundNone : Type 0
  FoundNone =
      (before : List P) × (after : List P) × (plan ≡ before ++ after)
      × (first_producer w before o ≡ None)

  -- nothing is left to try for an operand
  abbrev pub IsTried : Type 0
  IsTried = (is_settled w plan o ≡ true) ⊎ (IsProduced ⊎ FoundNone)
