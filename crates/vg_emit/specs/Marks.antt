-- Marks on numbers: a list with `true` where a number is marked.
use Rattle.std.specs.Prelude.{◌≡◌, ◌<◌, ℕ, zero, suc, ◌&&◌, ◌||◌, not, Bool, true, false, List, [], ◌∷◌, length, slice_set, slice_index_or, if◌then◌else◌}
use Rattle.std.specs.Option.{is_some}
use Rattle.vg_plans.specs.World.{is_in}
use Rattle.vg_shapes.specs.declared.ssa.Ssa.{Ssa}
use Rattle.vg_shapes.specs.Layout.{access_at}
use Rattle.vg_shapes.specs.Units.{unit_at}
use Rattle.vg_kernel_plans.specs.Packing.{used_by}

-- a number is marked; one past the end is not
abbrev pub is_marked : List Bool → ℕ → Bool
is_marked marks v = slice_index_or marks v false

-- these are marked too
abbrev pub marked : List Bool → List ℕ → List Bool
marked marks [] = marks
marked marks (v ∷ vs) = marked (slice_set marks v true) vs

-- so many marks, which stand at the numbers of a list
pub record Mark (n : ℕ) (marks : List Bool) (numbers : List ℕ) : Type 0 where
  pub long : length marks ≡ n
  pub at : (v : ℕ) → v < n → is_marked marks v ≡ is_in v numbers

-- by the marks of the units in packs and of what is needed a unit is emitted as a scalar
abbrev pub is_marked_scalar : Ssa → List Bool → List Bool → ℕ → Bool
is_marked_scalar ssa packed marks v =
    not (is_marked packed v) && (is_some (access_at ssa v) || is_marked marks v)

-- marked too: what such a unit uses
abbrev pub with_uses : Ssa → List Bool → List Bool → ℕ → List Bool
with_uses ssa packed marks v =
    if is_marked_scalar ssa packed marks v then marked marks (used_by (unit_at ssa v)) else marks

-- the same of all numbers below this one, falling
abbrev pub with_uses_below : Ssa → List Bool → List Bool → ℕ → List Bool
with_uses_below ssa packed marks zero = marks
with_uses_below ssa packed marks (suc n) =
    with_uses_below ssa packed (with_uses ssa packed marks n) n
