-- Byte events: each access cut into its bytes, one event a byte.
use Rattle.std.specs.Prelude.{ℕ, zero, suc, pos, ◌+ℤ◌, Bool, false, List, [], ◌∷◌, ◌++◌, map, get_or, Option, Some, None}
use Rattle.vg_base.specs.declared.address.Address.{Address}
use Rattle.vg_shapes.specs.declared.access.Access.{Access}
use Rattle.vg_shapes.specs.declared.ssa.Ssa.{Ssa}
use Rattle.vg_shapes.specs.declared.ssa_unit.SsaUnit.{SsaUnit}
use Rattle.vg_shapes.specs.Layout.{access_of}

-- what a byte event does, and to which byte of which pointer
pub record Label : Type 0 where
  pub writes : Bool
  pub address : Address

-- the next byte
abbrev pub next : Address → Address
next a = record { pointer = a.pointer; offset = a.offset +ℤ pos 1 }

-- the labels of so many bytes from an address on
abbrev pub labels_from : Bool → Address → ℕ → List Label
labels_from w a zero = []
labels_from w a (suc n) = record { writes = w; address = a } ∷ labels_from w (next a) n

abbrev pub labels_of : Access → List Label
labels_of x = labels_from x.writes x.address x.size

-- of a unit or a line that accesses nothing there are none
abbrev pub labels_in : Option Access → List Label
labels_in None = []
labels_in (Some x) = labels_of x

-- of units or lines, one after the other
abbrev pub labels : List (Option Access) → List Label
labels [] = []
labels (x ∷ xs) = labels_in x ++ labels xs

-- the events of units; the number of an event is its place in this list
abbrev pub unit_labels : List SsaUnit → List Label
unit_labels us = labels (map access_of us)

abbrev pub kernel_labels : Ssa → List Label
kernel_labels ssa = unit_labels ssa.units

abbrev pub no_label : Label
no_label = record { writes = false; address = record { pointer = 0; offset = pos 0 } }

-- the label of the event of this number
abbrev pub label_at : List Label → ℕ → Label
label_at ls e = get_or ls e no_label

-- the access of this one byte
abbrev pub byte_access : Label → Access
byte_access l = record { address = l.address; size = 1; writes = l.writes }
