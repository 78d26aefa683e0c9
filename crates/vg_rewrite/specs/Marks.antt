-- Marks of numbers, and what the code knows of the uses of values.
use Rattle.std.specs.Prelude.{◌≡◌, ◌<◌, ◌≤◌, ◌+◌, ◌-◌, ◌&&◌, ◌||◌, not, ℕ, Bool, false, List, length, get_or}
use Rattle.std.specs.List.{list_any}
use Rattle.vg_rewrite.specs.declared.kept.Kept.{Kept}
use Rattle.vg_rewrite.specs.Meetings.{reaches_of}
use Rattle.vg_rewrite.specs.Repeated.{is_free, is_needed, is_number, is_read, source_of, takes, unit_list}
use Rattle.vg_shapes.specs.declared.ssa.Ssa.{Ssa}
use Rattle.vg_shapes.specs.declared.wanted.Wanted.{Wanted}
use Rattle.vg_shapes.specs.Order.{numbers_from}
use Rattle.vg_shapes.specs.Units.{arguments, is_value}

-- as many marks, and those of numbers of which this holds are set too
pub record AddsMarks (p : ℕ → Bool) (old new : List Bool) : Type 0 where
  pub long : length new ≡ length old
  pub each : (v : ℕ) → v < length old → get_or new v false ≡ (get_or old v false || p v)

-- a mark is set exactly where this holds
pub record Marked (count : ℕ) (p : ℕ → Bool) (marks : List Bool) : Type 0 where
  pub long : length marks ≡ count
  pub each : (v : ℕ) → v < count → get_or marks v false ≡ p v

-- how many numbers there are
abbrev pub numbers : Ssa → ℕ
numbers ssa = arguments ssa + length ssa.units

-- an operand is the value, and its use by the unit of a number is not free
abbrev pub needs_operand : Ssa → ℕ → Wanted → ℕ → Bool
needs_operand ssa user x v = is_value v x && not (is_free ssa user v)

-- a use by the unit of a number that is not free
abbrev pub needs : Ssa → ℕ → ℕ → Bool
needs ssa user v = takes ssa user v && not (is_free ssa user v)

-- a value is used
abbrev pub is_used : Ssa → ℕ → Bool
is_used ssa v = list_any (λ user. takes ssa user v) (unit_list ssa)

-- a value is the load or an extension of it, and is used
abbrev pub reads : Ssa → ℕ → ℕ → Bool
reads ssa v load = is_number load (source_of ssa v) && is_used ssa v

-- the same, and is needed where it stood
abbrev pub keeps : Ssa → ℕ → ℕ → Bool
keeps ssa v load = is_number load (source_of ssa v) && is_needed ssa v

-- a value that is the load, or an extension of it, is needed
abbrev pub is_kept : Ssa → ℕ → Bool
is_kept ssa load = list_any (λ v. keeps ssa v load) (unit_list ssa)

-- the marks that the first units add, of which the first has this number
pub record MarkedSoFar (p : ℕ → ℕ → Bool) (count first user : ℕ) (marks : List Bool) : Type 0 where
  pub begun : first ≤ user
  pub inside : user ≤ count
  pub long : length marks ≡ count
  pub each :
      (v : ℕ) → v < count →
      get_or marks v false ≡ list_any (λ u. p u v) (numbers_from first (user - first))

-- what is known of the uses of values is so
pub record IsKept (ssa : Ssa) (kept : Kept) : Type 0 where
  pub reaches : kept.reaches.items ≡ reaches_of ssa
  pub needed : Marked (numbers ssa) (is_needed ssa) kept.needed.items
  pub read : Marked (numbers ssa) (is_read ssa) kept.read.items
  pub loads : Marked (numbers ssa) (is_kept ssa) kept.loads.items
