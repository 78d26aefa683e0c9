-- The store groups of a kernel, in the order in which they are tried.
use Rattle.std.specs.Prelude.{ℕ, zero, suc, pos, ◌-ℤ◌, ◌*◌, ◌/◌, ◌%◌, ◌&&◌, Bool, false, List, [], ◌∷◌, length, filter, Option, Some, None, is_some, slice_get, nat_eq, nat_le, if◌then◌else◌}
use Rattle.std.specs.List.{filter_map, flat_map, list_all}
use Rattle.vg_base.specs.declared.address.Address.{Address}
use Rattle.vg_base.specs.declared.width.Width.{Width}
use Rattle.vg_base.specs.Width.{size_of}
use Rattle.vg_shapes.specs.declared.pack.Pack.{Pack}
use Rattle.vg_shapes.specs.declared.pack.Pack.TheVariants.{Stores, Loads, Call}
use Rattle.vg_shapes.specs.declared.ssa.Ssa.{Ssa}
use Rattle.vg_shapes.specs.declared.ssa_unit.SsaUnit.{SsaUnit}
use Rattle.vg_shapes.specs.declared.ssa_unit.SsaUnit.TheVariants.{Load, Store, Operation}
use Rattle.vg_shapes.specs.Order.{numbers_from}
use Rattle.vg_shapes.specs.Pack.{behind, stores_before, stores_to}
use Rattle.vg_shapes.specs.Units.{arguments, unit_at}
use Rattle.vg_kernel_plans.specs.Taken.{first_width}

-- the numbers of all units, rising
abbrev pub unit_numbers : Ssa → List ℕ
unit_numbers ssa = numbers_from (arguments ssa) (length ssa.units)

-- the stores of a width to an address, in order
abbrev pub stores_at : Ssa → Address → Width → List ℕ
stores_at ssa a w = filter (λ v. stores_to a w (unit_at ssa v)) (unit_numbers ssa)

-- for so many consecutive places the store of this rank to each, where there is one
abbrev pub stores_from : Ssa → Address → Width → ℕ → ℕ → List (Option ℕ)
stores_from ssa a w rank zero = []
stores_from ssa a w rank (suc n) =
    slice_get (stores_at ssa a w) rank ∷ stores_from ssa (behind a (size_of w)) w rank n

-- The group of so many bytes that a store begins: it and the stores after it in memory, each with
-- as many before it to its own place.
abbrev pub group_of : Ssa → ℕ → ℕ → Option SsaUnit → List Pack
group_of ssa size v None = []
group_of ssa size v (Some (Load a w)) = []
group_of ssa size v (Some (Operation op w k xs)) = []
group_of ssa size v (Some (Store a w x)) =
    let found = stores_from ssa a w (stores_before ssa a w v) (size / size_of w) in
    if nat_le 2 (length found) && list_all is_some found
    then Stores (filter_map (λ u. u) found) ∷ []
    else []

-- the groups of so many bytes, by rising first unit
abbrev pub groups_of : Ssa → ℕ → List Pack
groups_of ssa size = flat_map (λ v. group_of ssa size v (unit_at ssa v)) (unit_numbers ssa)

-- by falling size in bytes
abbrev pub store_groups : Ssa → List Pack
store_groups ssa = flat_map (groups_of ssa) (64 ∷ 32 ∷ 16 ∷ 8 ∷ 4 ∷ [])

-- ---- aligned groups

-- so many bytes nearer to the least offset
abbrev pub ahead : Address → ℕ → Address
ahead a n = record { pointer = a.pointer; offset = a.offset -ℤ pos n }

-- how many stores of this rank stand beside each other right ahead of a place, counted to at most so many
abbrev pub stores_ahead : Ssa → Address → Width → ℕ → ℕ → ℕ
stores_ahead ssa a w rank zero = 0
stores_ahead ssa a w rank (suc n) =
    elim (slice_get (stores_at ssa (ahead a (size_of w)) w) rank) as (λ u. ℕ) [
      | None ↦ 0
      | Some u ↦ suc (stores_ahead ssa (ahead a (size_of w)) w rank n)
    ]

-- a store stands a multiple of so many bytes after the first of its run: of the stores of one pointer,
-- width and rank beside each other
abbrev pub is_aligned_at : Ssa → ℕ → ℕ → Option SsaUnit → Bool
is_aligned_at ssa size v None = false
is_aligned_at ssa size v (Some (Load a w)) = false
is_aligned_at ssa size v (Some (Operation op w k xs)) = false
is_aligned_at ssa size v (Some (Store a w x)) =
    nat_eq ((stores_ahead ssa a w (stores_before ssa a w v) (length ssa.units) * size_of w) % size) 0

-- the first store of a group stands a multiple of the group's size after the first of its run
abbrev pub is_aligned : Ssa → Pack → Bool
is_aligned ssa (Stores []) = false
is_aligned ssa (Stores (v ∷ us)) =
    is_aligned_at ssa (length (v ∷ us) * first_width ssa (v ∷ us) / 8) v (unit_at ssa v)
is_aligned ssa (Loads us) = false
is_aligned ssa (Call d lanes) = false

-- the aligned store groups, in the same order
abbrev pub aligned_groups : Ssa → List Pack
aligned_groups ssa = filter (is_aligned ssa) (store_groups ssa)
