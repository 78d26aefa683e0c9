-- When packs and dependences may be put into an order.
use Rattle.std.specs.Prelude.{◌≡◌, length, ℕ, ◌||◌, Bool, true, false, List, [], ◌∷◌, nat_eq, nat_le, nat_lt, if◌then◌else◌}
use Rattle.std.specs.List.{list_all, list_any}
use Rattle.vg_shapes.specs.declared.ssa.Ssa.{Ssa}
use Rattle.vg_shapes.specs.Units.{arguments}

-- numbers below this one, each once
abbrev pub are_once : ℕ → List ℕ → Bool
are_once n [] = true
are_once n (u ∷ us) = if nat_le n u || list_any (λ x. nat_eq x u) us then false else are_once n us

-- in each row
abbrev pub are_below : ℕ → List (List ℕ) → Bool
are_below n rows = list_all (λ row. list_all (λ x. nat_lt x n) row) rows

-- a kernel without integer parameters
pub record HasUnits (ssa : Ssa) (count : ℕ) : Type 0 where
  pub first : arguments ssa ≡ 0
  pub long : length ssa.units ≡ count
