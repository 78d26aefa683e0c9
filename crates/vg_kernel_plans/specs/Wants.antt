-- What operands want in their slots.
use Rattle.std.specs.Prelude.{ℕ, Bool, true, false, not, List, filter, Option, Some, None}
use Rattle.std.specs.List.{filter_map, list_any}
use Rattle.vg_shapes.specs.declared.operand.Operand.{Operand}
use Rattle.vg_shapes.specs.declared.operand.Slot.{Slot}
use Rattle.vg_shapes.specs.declared.wanted.Wanted.{Wanted}
use Rattle.vg_shapes.specs.declared.wanted.Wanted.TheVariants.{Value, Constant, Nothing}

abbrev pub slot : ℕ → ℕ → Wanted → Slot
slot low width x = record { low = low; width = width; wanted = x }

-- the value that is wanted, if it is one
abbrev pub value_of : Wanted → Option ℕ
value_of (Value v) = Some v
value_of (Constant w n) = None
value_of Nothing = None

abbrev pub is_wanted : Wanted → Bool
is_wanted (Value v) = true
is_wanted (Constant w n) = true
is_wanted Nothing = false

abbrev pub wants_value : Wanted → Bool
wants_value (Value v) = true
wants_value (Constant w n) = false
wants_value Nothing = false

-- the slots that want something
abbrev pub wanted_slots : Operand → List Slot
wanted_slots o = filter (λ s. is_wanted s.wanted) o.slots

-- the values that an operand wants, one for each slot that wants a value
abbrev pub wanted_values : Operand → List ℕ
wanted_values o = filter_map (λ s. value_of s.wanted) o.slots

-- no slot wants a value
abbrev pub is_constant : Operand → Bool
is_constant o = not (list_any (λ s. wants_value s.wanted) o.slots)
