-- The descriptions of the instances of a file that packs may call.
use Rattle.std.specs.Prelude.{◌≡◌, ℕ, ◌/◌, ◌%◌, ◌^◌, Bool, List, [], ◌∷◌, filter, Some, nat_eq}
use Rattle.std.specs.List.{AllByRecursion, flat_map}
use Rattle.vg_pseudo.specs.declared.header.Header.{Header}
use Rattle.vg_pseudo.specs.Tree.{Operation}
use Rattle.vg_shapes.specs.Description.{Description}
use Rattle.vg_lift.specs.Instances.{instance_lanes}
use Rattle.vg_lanes.specs.Described.{Described, packable, not_packable, described, immediate}
use Rattle.vg_catalog.specs.Called.{called_by, entry_named, headers_of, imm_number}
use Rattle.vg_catalog.specs.Entries.{Entry, name_of}
use Rattle.vg_entry_lanes.specs.Immediates.{immediates_of}
use Rattle.vg_emission.specs.Fit.{HasHeader}
use Rattle.vg_emission.specs.Truth.{IsCallable, IsTrueOf}

-- the extension of this place is in a set, of which bit i stands for the extension at place i
abbrev pub is_in_set : ℕ → ℕ → Bool
is_in_set set place = nat_eq (set / 2 ^ place % 2) 1

-- the description of an instance, where packs may call it
abbrev pub callable : Described → List Description
callable (packable d) = d ∷ []
callable (not_packable lanes cause) = []

-- of the instance of an entry for an immediate
abbrev pub instance_description : Header → Operation → ℕ → List Description
instance_description h o imm = callable (described h imm (instance_lanes h o imm))

-- of all its instances, by rising immediate
abbrev pub entry_descriptions : Entry → List Description
entry_descriptions e =
    flat_map (instance_description e.header e.operation) (immediates_of e.header.imm)

-- The descriptions of all instances that packs may call, of the entries whose extension is in a set: in
-- the order of the entries, and by rising immediate.
abbrev pub descriptions : ℕ → List Entry → List Description
descriptions set entries =
    flat_map entry_descriptions (filter (λ e. is_in_set set e.header.extension) entries)

-- the number of an immediate of an entry; 0 where it has none
abbrev pub IsNumbered : Header → ℕ → Type 0
IsNumbered h imm = imm_number (immediate h.imm imm) ≡ imm

-- a description of an instance of these entries, which packs may call: it is true of what the calls of
-- the entries give
pub record IsOf (entries : List Entry) (d : Description) : Type 0 where
  pub is_true : IsTrueOf (called_by entries) d
  pub callable : IsCallable d
  pub header : HasHeader (headers_of entries) d

abbrev pub AreOf : List Entry → List Description → Type 0
AreOf entries ds = AllByRecursion (IsOf entries) ds

-- wherever an entry is called by its name, descriptions are of entries with more after them
abbrev pub StayOf : Entry → List Description → List Description → Type 0
StayOf e old new =
    (entries : List Entry) → entry_named entries (name_of e) ≡ Some e → AreOf entries old →
    AreOf entries new
