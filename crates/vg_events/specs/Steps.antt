-- What an event does to memory alone, where the bytes of all events are known beforehand: a load has to
-- see its byte, a store writes it.
use Rattle.std.specs.Prelude.{ℕ, ◌+◌, ℤ, pos, ◌+ℤ◌, Bool, true, false, List, [], ◌∷◌, ◌++◌, Option, Some}
use Rattle.vg_base.specs.Address.{place_of}
use Rattle.vg_base.specs.Bits.{bytes}
use Rattle.vg_base.specs.Memory.{stored}
use Rattle.vg_base.specs.Trap.{◌>>=◌}
use Rattle.vg_base.specs.Width.{size_of}
use Rattle.vg_shapes.specs.declared.ssa_unit.SsaUnit.{SsaUnit}
use Rattle.vg_shapes.specs.declared.ssa_unit.SsaUnit.TheVariants.{Load, Store, Operation}
use Rattle.vg_shapes.specs.RunUnits.{number_of}
use Rattle.vg_order_laws.specs.Steps.{seen}
use Rattle.vg_events.specs.Events.{Label, label_at}

-- one byte written, or seen to be this one
abbrev pub byte_step : Bool → ℤ → ℕ → List ℕ → Option (List ℕ)
byte_step true at b memory = stored memory at (b ∷ [])
byte_step false at b memory = seen memory at 1 b

abbrev pub label_place : List ℕ → Label → ℤ
label_place places l = place_of places l.address

-- the event of this number
abbrev pub event_step : List ℕ → List Label → (ℕ → ℕ) → ℕ → List ℕ → Option (List ℕ)
event_step places ls byte e memory =
    byte_step (label_at ls e).writes (label_place places (label_at ls e)) (byte e) memory

-- bytes from an address on, one after the other
unfoldable pub chain : Bool → ℤ → List ℕ → List ℕ → Option (List ℕ)
chain w at [] memory = Some memory
chain w at (b ∷ bs) memory = byte_step w at b memory >>= chain w (at +ℤ pos 1) bs

-- the bytes of the events of a unit of this number, where the values have these numbers
abbrev pub unit_bytes : (ℕ → ℕ) → ℕ → SsaUnit → List ℕ
unit_bytes numbers v (Load a w) = bytes (size_of w) (numbers v)
unit_bytes numbers v (Store a w x) = bytes (size_of w) (number_of numbers x)
unit_bytes numbers v (Operation op w k xs) = []

abbrev pub all_bytes : (ℕ → ℕ) → ℕ → List SsaUnit → List ℕ
all_bytes numbers v [] = []
all_bytes numbers v (u ∷ us) = unit_bytes numbers v u ++ all_bytes numbers (v + 1) us
