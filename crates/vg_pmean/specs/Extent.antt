-- Where registers lie in a list of bits.
use Rattle.std.specs.Prelude.{◌≡◌, ℕ, ◌+◌, ◌*◌, ◌^◌, ◌<◌, ◌≤◌, List, [], ◌∷◌, length, map, get_or}
use Rattle.vg_bits.specs.Range.{range}
use Rattle.vg_pmean.specs.declared.extent.Extent.{Extent}
use Rattle.vg_pmean.specs.declared.frame_room.FrameRoom.{FrameRoom}

-- one after the other, from this place on
abbrev pub IsLaid : ℕ → List Extent → Type 0
IsLaid at [] = Unit {0}
IsLaid at (e ∷ es) = (e.start ≡ at) × IsLaid (at + e.width) es

-- how many bits they have together
abbrev pub total : List ℕ → ℕ
total [] = 0
total (w ∷ ws) = w + total ws

abbrev pub widths_of : List Extent → List ℕ
widths_of es = map (λ e. e.width) es

abbrev pub nowhere : Extent
nowhere = record { start = 0; width = 0 }

abbrev pub place_in : List Extent → ℕ → Extent
place_in es r = get_or es r nowhere

abbrev pub bits_at : List ℕ → Extent → List ℕ
bits_at bits e = range e.start e.width bits

-- the bits of each
abbrev pub registers_in : List ℕ → List Extent → List (List ℕ)
registers_in bits es = map (bits_at bits) es

-- What holds of a frame with this room: its places, its bytes, as many to spare, and how many
-- places and variables there is room for.
pub record IsRoomy (room : FrameRoom) (es : List Extent) (bytes spare : List ℕ) (places variables : ℕ) : Type 0 where
  pub small : room.bits < 2 ^ 64
  pub laid : IsLaid 0 es
  pub within : total (widths_of es) ≤ room.bits
  pub bytes_hold : room.bits ≤ 8 * length bytes
  pub spare_holds : room.bits ≤ 8 * length spare
  pub places_fit : room.registers ≤ places
  pub variables_fit : room.variables ≤ variables
