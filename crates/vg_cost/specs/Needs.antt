-- How often values are needed as scalars, and the lines of units by that.
--
-- A value is needed as often as inserts take it and units above it that are written use it; a unit is
-- written where no pack has it and it is an access or its value is needed. Each unit is decided by those
-- above it, so for the packs and the inserts of a plan there is one such count, and the lines are told by it.
use Rattle.std.specs.Prelude.{◌≡◌, ◌<◌, ℕ, ◌+◌, Bool, false, List, [], ◌∷◌, filter, length, get_or, nat_eq, nat_lt, sum_by, if◌then◌else◌}
use Rattle.vg_shapes.specs.declared.pack.Pack.{Pack}
use Rattle.vg_shapes.specs.declared.ssa.Ssa.{Ssa}
use Rattle.vg_shapes.specs.Depends.{numbers_below}
use Rattle.vg_shapes.specs.Units.{arguments, unit_at}
use Rattle.vg_cost.specs.Lines.{line_of, values_of}
use Rattle.vg_cost.specs.Marks.{Has}
use Rattle.vg_shapes.specs.Pack.{units_of}
use Rattle.std.specs.List.{flat_map}

-- how often a number stands in a list
abbrev pub times_in : ℕ → List ℕ → ℕ
times_in v [] = 0
times_in v (x ∷ xs) = (if nat_eq v x then 1 else 0) + times_in v xs

-- the numbers of a list that are below a number
abbrev pub under : ℕ → List ℕ → List ℕ
under n xs = filter (λ x. nat_lt x n) xs

abbrev pub is_needed : List ℕ → ℕ → Bool
is_needed counts v = nat_lt 0 (get_or counts v 0)

-- the values below it that the unit of a number uses, where it is written
abbrev pub used_at : Ssa → List Bool → List ℕ → ℕ → List ℕ
used_at ssa packed counts u = under u (values_of (unit_at ssa u) (get_or packed u false) (is_needed counts u))

-- how often the units below an end that are written use a value below them
abbrev pub uses_of : Ssa → List Bool → List ℕ → ℕ → ℕ → ℕ
uses_of ssa packed counts v end = sum_by (λ u. times_in v (used_at ssa packed counts u)) (numbers_below end)

abbrev pub line_at : Ssa → List Bool → List ℕ → ℕ → ℕ
line_at ssa packed counts u = line_of (unit_at ssa u) (get_or packed u false) (is_needed counts u)

-- the lines of the units below an end
abbrev pub lines_by : Ssa → List Bool → List ℕ → ℕ → ℕ
lines_by ssa packed counts end = sum_by (line_at ssa packed counts) (numbers_below end)

-- how often the values of a kernel are needed, where inserts take these, and the lines of its units
pub record AreNeeds (ssa : Ssa) (packed : List Bool) (inserted counts : List ℕ) (lines : ℕ) : Type 0 where
  pub long : length counts ≡ length packed
  pub needed :
      (v : ℕ) → v < length packed
      → get_or counts v 0 ≡ times_in v inserted + uses_of ssa packed counts v (length packed)
  pub written : lines ≡ lines_by ssa packed counts (length packed)

-- the same for the packs of a plan, by their marks
abbrev pub AreNeedsFor : Ssa → List Pack → List ℕ → List ℕ → ℕ → Type 0
AreNeedsFor ssa plan inserted counts lines =
    (packed : List Bool) → Has (arguments ssa + length ssa.units) (flat_map units_of plan) packed
    → AreNeeds ssa packed inserted counts lines
