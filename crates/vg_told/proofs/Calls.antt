-- What lanes that all have terms say of a call.
use Rattle.std.proofs.Common.{◌≡◌, ℕ, ◌*◌, Bool, false, List, [], ◌∷◌, length, map, refl}
use Rattle.std.specs.Prelude.{Some}
use Rattle.std.specs.List.{list_any}
use Rattle.vg_pseudo.specs.declared.header.Header.{Header}
use Rattle.vg_pseudo.specs.Tree.{Operation}
use Rattle.vg_shapes.specs.Lane.{Lane, known, big, dynamic}
use Rattle.vg_lift.specs.Instances.{MeanLanes}
use Rattle.vg_lanes.specs.Described.{AreLanes, canonical_lane, description}
use Rattle.vg_entry_lanes.proofs.Lanes.{all-may-be}
use Rattle.vg_catalog.specs.Called.{called_by, entry_named}
use Rattle.vg_catalog.specs.Entries.{Entry, name_of}
use Rattle.vg_emission.specs.Truth.{IsTrueOf}
use Rattle.vg_descriptions.specs.Descriptions.{IsNumbered}
use Rattle.vg_descriptions.proofs.Truth.{AllKnown, is-true}
use Rattle.vg_known.specs.Calls.{is_opaque}

-- where no lane is opaque, each has a term
all-known : (ls : List Lane) → list_any is_opaque ls ≡ false → AllKnown (map canonical_lane ls)
all-known [] clear = record { static = refl; small = refl }
all-known (known t ∷ ls) clear =
    let rest = all-known ls clear in record { static = rest.static; small = rest.small }
all-known (big ∷ ls) clear = absurd (cc)
all-known (dynamic ∷ ls) clear = absurd (cc)

-- lanes that all have terms are true of what a call gives
pub are-true : (entries : List Entry) (e : Entry) (imm : ℕ) (ls : List Lane) → entry_named entries (name_of e) ≡ Some e
    → IsNumbered e.header imm → MeanLanes e.header e.operation imm 0 ls
    → length ls * e.header.lane_width ≡ e.header.register → list_any is_opaque ls ≡ false
    → IsTrueOf (called_by entries) (description e.header imm (map canonical_lane ls))
are-true entries e imm ls named at m fill clear = is-true entries e imm ls named at m fill (all-known ls clear)

pub are-lanes : (h : Header) (o : Operation) (imm : ℕ) (ls : List Lane) → MeanLanes h o imm 0 ls → length ls * h.lane_width ≡ h.register → AreLanes h ls
are-lanes h o imm ls m e = record { fill = e; each = all-may-be h o imm 0 ls m }
