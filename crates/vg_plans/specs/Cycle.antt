-- When a pack after a plan closes no cycle.
use Rattle.std.specs.Prelude.{◌≡◌, ℕ, true, false, List}
use Rattle.vg_plans.specs.Members.{Has}
use Rattle.vg_plans.specs.World.{World, is_in, is_packed, needs}

module _ {P O N : Type 0} (w : World P O N) where
  -- units that have all on which the pack depends, and with each all on which its node depends, but
  -- no unit of the pack
  pub record IsAway (plan : List P) (p : P) (reached : List ℕ) : Type 0 where
    pub starts : (x : ℕ) → Has x (w.needs_of p) → Has x reached
    pub closed : (v x : ℕ) → Has v reached → Has x (needs w plan v) → Has x reached
    pub away : (v : ℕ) → Has v reached → is_in v (w.units_of p) ≡ false

  -- a way from v down to a unit of the pack
  pub data Reaches (plan : List P) (p : P) : ℕ → Type 0 where
    there : (v : ℕ) → Has v w.units → is_in v (w.units_of p) ≡ true → Reaches plan p v
    down : (v x : ℕ) → Has v w.units → Has x (needs w plan v) → Reaches plan p x → Reaches plan p v

  -- no unit of the pack is in the plan
  abbrev pub IsNew : List P → P → Type 0
  IsNew plan p = (v : ℕ) → is_in v (w.units_of p) ≡ true → is_packed w plan v ≡ false
