-- Marks of numbers.
use Rattle.std.specs.Prelude.{◌≡◌, ◌<◌, ℕ, ◌||◌, ◌&&◌, Bool, false, List, length, get_or, nat_le, nat_lt, if◌then◌else◌}
use Rattle.vg_shapes.specs.declared.pack.Pack.{Pack}
use Rattle.vg_packs.specs.Walk.{is_in_plan}

-- so many marks, each set exactly where the test holds of its number
pub record AreMarks (count : ℕ) (own : ℕ → Bool) (marks : List Bool) : Type 0 where
  pub long : length marks ≡ count
  pub at : (v : ℕ) → v < count → get_or marks v false ≡ own v

-- the marks of the numbers that the test holds of are set as well
pub record AddsMarks (own : ℕ → Bool) (marks new_marks : List Bool) : Type 0 where
  pub long : length new_marks ≡ length marks
  pub at : (v : ℕ) → v < length marks → get_or new_marks v false ≡ (get_or marks v false || own v)

-- a unit is one of a plan, by the marks of its units as far as they go
abbrev pub is_packed_by : List Bool → List Pack → ℕ → Bool
is_packed_by packed plan v =
    if nat_lt v (length packed) then get_or packed v false else is_in_plan plan v

-- a number lies above one, and not above another
abbrev pub is_within : ℕ → ℕ → ℕ → Bool
is_within least greatest v = nat_lt least v && nat_le v greatest
