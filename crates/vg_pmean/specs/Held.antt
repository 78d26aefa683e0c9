-- What a frame holds, and how much it has room for.
use Rattle.std.specs.Prelude.{◌≡◌, ℕ, ◌+◌, List, [], ◌∷◌, length, map, get_or, set}
use Rattle.vg_base.specs.Bits.{bits}
use Rattle.vg_script.specs.Cells.{Cells}
use Rattle.vg_pmean.specs.declared.frame_room.FrameRoom.{FrameRoom}

pub record Held : Type 0 where
  pub cells : Cells
  pub room : FrameRoom

abbrev pub held : Cells → FrameRoom → Held
held c r = record { cells = c; room = r }

-- the widths of the registers
abbrev pub widths_in : Cells → List ℕ
widths_in c = map (λ r. length r) c.registers

-- a register becomes the low bits of a number
abbrev pub entered_at : ℕ → ℕ → Cells → Cells
entered_at r n c = record {
  registers = set c.registers r (bits (length (get_or c.registers r [])) n);
  variables = c.variables;
}

-- registers from one on become the low bits of numbers, one after the other
abbrev pub filled : ℕ → List ℕ → Cells → Cells
filled r [] c = c
filled r (n ∷ ns) c = filled (r + 1) ns (entered_at r n c)

-- frames that all have this room
abbrev pub Alike : FrameRoom → List Held → Type 0
Alike r [] = Unit {0}
Alike r (h ∷ hs) = (h.room ≡ r) × Alike r hs
