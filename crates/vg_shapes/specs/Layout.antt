-- The accesses of a kernel, and the layouts that keep what `noalias` says.
use Rattle.std.specs.Prelude.{ℕ, ◌≡◌, ◌≢◌, ◌||◌, ◌⊎◌, Bool, true, false, List, [], ◌∷◌, Option, Some, None, unwrap_or, slice_get, Contains, pos, ◌+ℤ◌, ◌≤ℤ◌}
use Rattle.std.specs.List.{filter_map}
use Rattle.vg_base.specs.Address.{place_of}
use Rattle.vg_base.specs.Trap.{◌>>=◌}
use Rattle.vg_base.specs.Width.{size_of}
use Rattle.vg_shapes.specs.declared.access.Access.{Access}
use Rattle.vg_shapes.specs.declared.ssa.SsaParamKind.{SsaParamKind}
use Rattle.vg_shapes.specs.declared.ssa.SsaParamKind.TheVariants.{Pointer, Integer}
use Rattle.vg_shapes.specs.declared.ssa.Ssa.{Ssa}
use Rattle.vg_shapes.specs.declared.ssa_unit.SsaUnit.{SsaUnit}
use Rattle.vg_shapes.specs.declared.ssa_unit.SsaUnit.TheVariants.{Load, Store, Operation}
use Rattle.vg_shapes.specs.Units.{unit_at}

-- what a unit reads or writes
abbrev pub access_of : SsaUnit → Option Access
access_of (Load a w) = Some (record { address = a; size = size_of w; writes = false })
access_of (Store a w x) = Some (record { address = a; size = size_of w; writes = true })
access_of (Operation op w k xs) = None

-- the access of the unit of a number
abbrev pub access_at : Ssa → ℕ → Option Access
access_at ssa v = unit_at ssa v >>= access_of

-- in the order of the units
abbrev pub accesses : Ssa → List Access
accesses ssa = filter_map access_of ssa.units

-- of a pointer, whether it is `noalias`
abbrev pub noalias_of : SsaParamKind → Option Bool
noalias_of (Pointer noalias) = Some noalias
noalias_of (Integer w) = None

-- of each pointer, in order
abbrev pub noalias_flags : Ssa → List Bool
noalias_flags ssa = filter_map (λ p. noalias_of p.kind) ssa.params

-- the pointer of an access is `noalias`, by the flags of all pointers
abbrev pub is_noalias : List Bool → Access → Bool
is_noalias flags x = unwrap_or (slice_get flags x.address.pointer) false

-- two accesses that have to stay apart: through different pointers, one of them noalias, and one
-- access writes
abbrev pub AreBound : Ssa → Access → Access → Type 0
AreBound ssa x y =
    (x.address.pointer ≢ y.address.pointer)
    × (is_noalias (noalias_flags ssa) x || is_noalias (noalias_flags ssa) y ≡ true)
    × (x.writes || y.writes ≡ true)

-- the bytes of two accesses are apart
abbrev pub AreApart : List ℕ → Access → Access → Type 0
AreApart places x y =
    ((place_of places x.address +ℤ pos x.size) ≤ℤ place_of places y.address)
    ⊎ ((place_of places y.address +ℤ pos y.size) ≤ℤ place_of places x.address)

-- each access stays apart from those from which it has to
abbrev pub Respects : Ssa → List ℕ → Type 0
Respects ssa places =
    (x y : Access) → Contains (accesses ssa) x → Contains (accesses ssa) y → AreBound ssa x y
    → AreApart places x y
