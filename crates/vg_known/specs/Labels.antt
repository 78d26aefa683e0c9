-- The order of labels: loads before stores, then by pointer, then by offset.
use Rattle.std.specs.Prelude.{Bool, ◌&&◌, ◌||◌, not, nat_eq, nat_lt, int_lt, List, [], ◌∷◌, Option, Some, None, if◌then◌else◌}
use Rattle.vg_events.specs.Events.{Label}
use Rattle.vg_events.specs.Ranks.{same_bool}

abbrev pub is_before : Label → Label → Bool
is_before l m =
    (not l.writes && m.writes)
    || (same_bool l.writes m.writes
    && (nat_lt l.address.pointer m.address.pointer
    || (nat_eq l.address.pointer m.address.pointer && int_lt l.address.offset m.address.offset)))

abbrev pub lesser : Label → Option Label → Label
lesser l None = l
lesser l (Some m) = if is_before m l then m else l

-- the least of a list, if there is one
abbrev pub least_label : List Label → Option Label
least_label [] = None
least_label (l ∷ ls) = Some (lesser l (least_label ls))
