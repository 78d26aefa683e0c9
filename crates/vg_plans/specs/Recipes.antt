-- What a pack after a plan changes of the recipes.
use Rattle.std.specs.Prelude.{◌≡◌, ℕ, true, false, List}
use Rattle.vg_plans.specs.Members.{Has}
use Rattle.vg_plans.specs.World.{World, is_in}

module _ {P O N : Type 0} (w : World P O N) where
  -- a pack holds or gives only what has one of the operand's values among its units
  pub record GivesOwnValues : Type 0 where
    pub holds_one : (p : P) (o : O) → w.holds p o ≡ true
        → (v : ℕ) × Has v (w.values_of o) × (is_in v (w.units_of p) ≡ true)
    pub gives_one : (p : P) (o : O) (s : ℕ × List N) (n : N)
        → Has s (w.shuffles o) → Has n s.1 → w.gives p n ≡ true
        → (v : ℕ) × Has v (w.values_of o) × (is_in v (w.units_of p) ≡ true)

  -- the pack has none of the operand's values
  abbrev pub IsOther : P → O → Type 0
  IsOther p o = (v : ℕ) → Has v (w.values_of o) → is_in v (w.units_of p) ≡ false
