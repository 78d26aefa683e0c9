-- Labels of byte events as the code has them.
use Rattle.std.specs.Prelude.{Bool, ◌&&◌, ◌||◌, nat_eq, nat_lt, int_lt}
use Rattle.vg_base.specs.declared.address.Address.{Address}
use Rattle.vg_paired.specs.declared.byte_label.ByteLabel.{ByteLabel}
use Rattle.vg_events.specs.Events.{Label}

abbrev pub label_of : ByteLabel → Label
label_of l = record { writes = l.writes; address = record { pointer = l.pointer; offset = l.offset } }

-- by pointer, then by offset
abbrev pub is_below : Address → Address → Bool
is_below a b =
    nat_lt a.pointer b.pointer || (nat_eq a.pointer b.pointer && int_lt a.offset b.offset)
