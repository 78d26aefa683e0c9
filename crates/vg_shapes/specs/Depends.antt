-- Which units depend on which.
use Rattle.std.specs.Prelude.{ℕ, zero, suc, ◌+◌, ◌||◌, ◌&&◌, not, Bool, true, false, List, [], ◌∷◌, map, filter, length, Option, Some, None, pos, ◌+ℤ◌, nat_eq, nat_lt, int_lt, if◌then◌else◌}
use Rattle.std.specs.List.{flat_map}
use Rattle.std.specs.Option.{option_map_or}
use Rattle.vg_shapes.specs.declared.access.Access.{Access}
use Rattle.vg_shapes.specs.declared.ssa.Ssa.{Ssa}
use Rattle.vg_shapes.specs.Layout.{access_at, is_noalias, noalias_flags}
use Rattle.vg_shapes.specs.Order.{numbers_from}
use Rattle.vg_shapes.specs.Units.{arguments, is_unit, unit_at, uses_value}

-- two accesses through one pointer share a byte
abbrev pub overlap : Access → Access → Bool
overlap x y =
    int_lt x.address.offset (y.address.offset +ℤ pos y.size)
    && int_lt y.address.offset (x.address.offset +ℤ pos x.size)

-- two accesses may share a byte in a layout that respects noalias, by the flags of all pointers
abbrev pub may_share : List Bool → Access → Access → Bool
may_share flags x y =
    if nat_eq x.address.pointer y.address.pointer then overlap x y
    else not (is_noalias flags x || is_noalias flags y)

-- one of two accesses writes, and they may share a byte
abbrev pub conflict : List Bool → Access → Access → Bool
conflict flags x y = (x.writes || y.writes) && may_share flags x y

-- the same of what two units access, if they do
abbrev pub conflict_of : List Bool → Option Access → Option Access → Bool
conflict_of flags None y = false
conflict_of flags (Some x) None = false
conflict_of flags (Some x) (Some y) = conflict flags x y

abbrev pub conflict_at : Ssa → ℕ → ℕ → Bool
conflict_at ssa x y = conflict_of (noalias_flags ssa) (access_at ssa x) (access_at ssa y)

-- the unit of one number uses the value of another
abbrev pub uses_at : Ssa → ℕ → ℕ → Bool
uses_at ssa v x = option_map_or (uses_value x) (unit_at ssa v) false

-- A unit depends on an earlier unit: it uses its value, or both are accesses, one of them writes,
-- and they may share a byte.
abbrev pub depends_on : Ssa → ℕ → ℕ → Bool
depends_on ssa later earlier =
    is_unit ssa earlier
    && (nat_lt earlier later
    && (uses_at ssa later earlier || conflict_at ssa earlier later))

-- the numbers below this one, falling
abbrev pub numbers_below : ℕ → List ℕ
numbers_below zero = []
numbers_below (suc n) = n ∷ numbers_below n

-- the earlier units on which a unit depends, the greatest first
abbrev pub depended : Ssa → ℕ → List ℕ
depended ssa v = filter (depends_on ssa v) (numbers_below v)

-- each unit with each unit on which it depends
abbrev pub dependences : Ssa → List (ℕ × ℕ)
dependences ssa =
    flat_map (λ v. map (λ x. (v, x)) (depended ssa v))
    (numbers_from 0 (arguments ssa + length ssa.units))
