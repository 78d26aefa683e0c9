-- The accesses that have an event of a label.
use Rattle.std.specs.Prelude.{◌&&◌, Bool, false, not, nat_eq, int_lt, pos, ◌+ℤ◌, Option, Some, None}
use Rattle.vg_shapes.specs.declared.access.Access.{Access}
use Rattle.vg_events.specs.Events.{Label}
use Rattle.vg_events.specs.Ranks.{same_bool}

-- a byte of the label is one of those of an access through that pointer
abbrev pub lies_within : Label → Access → Bool
lies_within l x =
    not (int_lt l.address.offset x.address.offset)
    && int_lt l.address.offset (x.address.offset +ℤ pos x.size)

abbrev pub has_label : Label → Option Access → Bool
has_label l None = false
has_label l (Some x) =
    same_bool l.writes x.writes
    && (nat_eq l.address.pointer x.address.pointer && lies_within l x)
