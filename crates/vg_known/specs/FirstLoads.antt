-- Loads of one address and width, between which no store stands on which the later one depends, read what
-- the first of them reads.
use Rattle.std.specs.Prelude.{ℕ, ◌+◌, Bool, false, ◌&&◌, not, nat_eq, List, [], ◌∷◌, Option, Some, None, unwrap_or, if◌then◌else◌}
use Rattle.std.specs.List.{filter_map, list_any}
use Rattle.std.specs.Ordering.{int_eq}
use Rattle.vg_base.specs.declared.address.Address.{Address}
use Rattle.vg_base.specs.declared.width.Width.{Width}
use Rattle.vg_base.specs.Width.{bits_of, size_of}
use Rattle.vg_shapes.specs.declared.access.Access.{Access}
use Rattle.vg_shapes.specs.declared.ssa_unit.SsaUnit.{SsaUnit}
use Rattle.vg_shapes.specs.declared.ssa_unit.SsaUnit.TheVariants.{Load, Store, Operation}
use Rattle.vg_shapes.specs.Depends.{conflict}
use Rattle.vg_shapes.specs.Layout.{access_of}

abbrev pub read_of : Address → Width → Access
read_of a w = record { address = a; size = size_of w; writes = false }

-- none of these units is one on which such a load depends
abbrev pub are_quiet : List Bool → Access → List SsaUnit → Bool
are_quiet flags x us = not (list_any (λ y. conflict flags y x) (filter_map access_of us))

-- the load of this address and width
abbrev pub is_load : Address → Width → SsaUnit → Bool
is_load a w (Load b v) =
    nat_eq (bits_of w) (bits_of v) && (nat_eq a.pointer b.pointer && int_eq a.offset b.offset)
is_load a w (Store b v x) = false
is_load a w (Operation op v k xs) = false

-- the number of the first such load after which all units are quiet, the first unit having this number
abbrev pub first_in : List Bool → Address → Width → ℕ → List SsaUnit → Option ℕ
first_in flags a w v [] = None
first_in flags a w v (u ∷ us) =
    if is_load a w u && are_quiet flags (read_of a w) us then Some v
    else first_in flags a w (v + 1) us

-- the first load of one that stands after these units and has the number own
abbrev pub first_load : List Bool → ℕ → List SsaUnit → ℕ → Address → Width → ℕ
first_load flags first done own a w = unwrap_or (first_in flags a w first done) own
