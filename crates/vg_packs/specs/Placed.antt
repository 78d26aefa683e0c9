-- The stores of a kernel by their places in memory, and which stands after which.
use Rattle.std.specs.Prelude.{ℕ, zero, suc, ◌/◌, ◌&&◌, Bool, List, [], ◌∷◌, length, filter, map, Option, Some, None, nat_eq, nat_le, position, slice_get, if◌then◌else◌}
use Rattle.std.specs.List.{flat_map}
use Rattle.std.specs.Ordering.{int_eq}
use Rattle.vg_base.specs.declared.address.Address.{Address}
use Rattle.vg_base.specs.declared.width.Width.{Width}
use Rattle.vg_base.specs.Width.{bits_of, size_of}
use Rattle.vg_packs.specs.declared.placed.Link.{Link}
use Rattle.vg_packs.specs.declared.placed.PlacedStore.{PlacedStore}
use Rattle.vg_shapes.specs.declared.pack.Pack.{Pack}
use Rattle.vg_shapes.specs.declared.pack.Pack.TheVariants.{Stores}
use Rattle.vg_shapes.specs.declared.ssa.Ssa.{Ssa}
use Rattle.vg_shapes.specs.declared.ssa_unit.SsaUnit.{SsaUnit}
use Rattle.vg_shapes.specs.declared.ssa_unit.SsaUnit.TheVariants.{Load, Store, Operation}
use Rattle.vg_shapes.specs.Order.{numbers_from}
use Rattle.vg_shapes.specs.Pack.{behind, stores_before}
use Rattle.vg_shapes.specs.Units.{arguments, unit_at}

-- a store of this width to this place
abbrev pub stands_at : Address → Width → PlacedStore → Bool
stands_at a w s =
    nat_eq s.address.pointer a.pointer
    && (int_eq s.address.offset a.offset && nat_eq (bits_of s.width) (bits_of w))

-- with so many before it there
abbrev pub is_ranked : Address → Width → ℕ → PlacedStore → Bool
is_ranked a w rank s = nat_eq s.rank rank && stands_at a w s

-- the second stands right after the first in memory, with as many before it to its own place
abbrev pub is_next : PlacedStore → PlacedStore → Bool
is_next s t = is_ranked (behind s.address (size_of s.width)) s.width s.rank t

-- a unit as a store of this rank, if it is one
abbrev pub placed_as : ℕ → (Address → Width → ℕ) → Option SsaUnit → List PlacedStore
placed_as v rank None = []
placed_as v rank (Some (Load a w)) = []
placed_as v rank (Some (Operation op w k xs)) = []
placed_as v rank (Some (Store a w x)) =
    record { unit = v; address = a; width = w; rank = rank a w } ∷ []

-- after these stores
abbrev pub placed_here : List PlacedStore → ℕ → Option SsaUnit → List PlacedStore
placed_here before v unit = placed_as v (λ a w. length (filter (stands_at a w) before)) unit

-- so many units from this number on, as far as they are stores
abbrev pub placed_from : Ssa → ℕ → ℕ → List PlacedStore
placed_from ssa first n =
    flat_map (λ v. placed_as v (λ a w. stores_before ssa a w v) (unit_at ssa v)) (numbers_from first n)

-- the stores of a kernel
abbrev pub placed : Ssa → List PlacedStore
placed ssa = placed_from ssa (arguments ssa) (length ssa.units)

abbrev pub link_in : List PlacedStore → PlacedStore → Link
link_in stores s = record { unit = s.unit; width = s.width; next = position (is_next s) stores }

abbrev pub links_of : List PlacedStore → List Link
links_of stores = map (link_in stores) stores

abbrev pub link_behind : List Link → Option ℕ → Option Link
link_behind links None = None
link_behind links (Some k) = slice_get links k

-- the units of the stores from this one on, each right after the one before, at most so many
abbrev pub run_from : List Link → ℕ → Option Link → List ℕ
run_from links zero at = []
run_from links (suc n) None = []
run_from links (suc n) (Some l) = l.unit ∷ run_from links n (link_behind links l.next)

-- as a pack, if there are so many, at least two
abbrev pub group_from : List Link → ℕ → Link → List Pack
group_from links count l =
    let us = run_from links count (Some l) in
    if nat_le 2 count && nat_eq (length us) count then Stores us ∷ [] else []

-- the groups of so many bytes that stores begin
abbrev pub groups_among : List Link → ℕ → List Pack
groups_among links size =
    flat_map (λ l. group_from links (size / size_of l.width) l) links
