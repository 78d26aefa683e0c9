-- Packs: units that one vector line does together.
use Rattle.std.specs.Prelude.{◌≡◌, ◌≤◌, ℕ, ◌+◌, ◌*◌, ◌&&◌, Bool, true, false, List, [], ◌∷◌, ◌++◌, length, filter, find, Option, Some, None, pos, ◌+ℤ◌, nat_eq, nat_lt, IsTrue}
use Rattle.std.specs.List.{AllByRecursion, filter_map, list_any}
use Rattle.std.specs.Option.{option_map_or}
use Rattle.std.specs.Ordering.{int_eq}
use Rattle.vg_base.specs.declared.address.Address.{Address}
use Rattle.vg_base.specs.declared.width.Width.{Width}
use Rattle.vg_base.specs.Width.{bits_of, size_of}
use Rattle.vg_shapes.specs.declared.match_table.Bound.{Bound}
use Rattle.vg_shapes.specs.declared.match_table.Match.{Match}
use Rattle.vg_shapes.specs.declared.pack.Pack.{Pack}
use Rattle.vg_shapes.specs.declared.pack.Pack.TheVariants.{Stores, Loads, Call}
use Rattle.vg_shapes.specs.declared.ssa.Ssa.{Ssa}
use Rattle.vg_shapes.specs.declared.ssa_unit.SsaUnit.{SsaUnit}
use Rattle.vg_shapes.specs.declared.ssa_unit.SsaUnit.TheVariants.{Load, Store, Operation}
use Rattle.vg_shapes.specs.declared.wanted.Wanted.{Wanted}
use Rattle.vg_shapes.specs.Order.{numbers_from}
use Rattle.vg_shapes.specs.Units.{arguments, unit_at}

-- the units of a pack, lane 0 first
abbrev pub units_of : Pack → List ℕ
units_of (Stores us) = us
units_of (Loads us) = us
units_of (Call d lanes) = filter_map (λ v. v) lanes

-- so many bytes further on
abbrev pub behind : Address → ℕ → Address
behind a n = record { pointer = a.pointer; offset = a.offset +ℤ pos n }

-- loads of a width that are consecutive in memory, the first at this address
abbrev pub AreLoads : Ssa → Width → Address → List ℕ → Type 0
AreLoads ssa w a [] = Unit {0}
AreLoads ssa w a (u ∷ us) =
    (unit_at ssa u ≡ Some (Load a w)) × AreLoads ssa w (behind a (size_of w)) us

-- stores of a width that are consecutive in memory, and what they store
abbrev pub AreStores : Ssa → Width → Address → List ℕ → List Wanted → Type 0
AreStores ssa w a [] xs = xs ≡ []
AreStores ssa w a (u ∷ us) [] = ⊥
AreStores ssa w a (u ∷ us) (x ∷ xs) =
    (unit_at ssa u ≡ Some (Store a w x)) × AreStores ssa w (behind a (size_of w)) us xs

-- what a vector line can load or store at once, in bytes
abbrev pub is_pack_size : ℕ → Bool
is_pack_size n = list_any (nat_eq n) (4 ∷ 8 ∷ 16 ∷ 32 ∷ 64 ∷ [])

abbrev pub IsLoadPack : Ssa → List ℕ → Type 0
IsLoadPack ssa us =
    (w : Width) × (a : Address) × AreLoads ssa w a us
    × (2 ≤ length us)
    × IsTrue (is_pack_size (length us * size_of w))

-- a store of this width to this address
abbrev pub stores_to : Address → Width → Option SsaUnit → Bool
stores_to a w None = false
stores_to a w (Some (Load b v)) = false
stores_to a w (Some (Operation op v k xs)) = false
stores_to a w (Some (Store b v x)) =
    nat_eq b.pointer a.pointer && (int_eq b.offset a.offset && nat_eq (bits_of v) (bits_of w))

-- how many of the units before this one store to this place and in this width
abbrev pub stores_before : Ssa → Address → Width → ℕ → ℕ
stores_before ssa a w v =
    length (filter (λ u. nat_lt u v && stores_to a w (unit_at ssa u))
    (numbers_from (arguments ssa) (length ssa.units)))

-- each store has as many before it to its own place, in its width
abbrev pub HaveRank : Ssa → Width → Address → ℕ → List ℕ → Type 0
HaveRank ssa w a k [] = Unit {0}
HaveRank ssa w a k (u ∷ us) =
    (stores_before ssa a w u ≡ k) × HaveRank ssa w (behind a (size_of w)) k us

abbrev pub IsStoreGroup : Ssa → List ℕ → Type 0
IsStoreGroup ssa us =
    (w : Width) × (a : Address) × (xs : List Wanted) × (k : ℕ) × AreStores ssa w a us xs
    × HaveRank ssa w a k us
    × (2 ≤ length us)
    × IsTrue (is_pack_size (length us * size_of w))

-- the match of a lane of a description with a value
abbrev pub match_at : List Match → ℕ → ℕ → ℕ → Option Match
match_at matches d lane v =
    find (λ m. nat_eq m.description d && (nat_eq m.lane lane && nat_eq m.value v)) matches

-- what the leaves of the matched lanes are bound to, the first lane having this number
abbrev pub bounds_from : List Match → ℕ → ℕ → List (Option ℕ) → List Bound
bounds_from matches d lane [] = []
bounds_from matches d lane (None ∷ lanes) = bounds_from matches d (lane + 1) lanes
bounds_from matches d lane (Some v ∷ lanes) =
    option_map_or (λ m. m.bound) (match_at matches d lane v) []
    ++ bounds_from matches d (lane + 1) lanes
