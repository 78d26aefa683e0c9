-- What an entry made ready to run answers.
use Rattle.std.specs.Prelude.{ℕ, ◌-◌, List, [], ◌∷◌, ◌++◌, map, take, replicate, get_or, slice_get, Option, Some, ◌≡◌}
use Rattle.std.specs.Option.{option_map_or}
use Rattle.vg_base.specs.Bits.{bits_of_bytes, num}
use Rattle.vg_bits.specs.declared.register.Reg.{Reg}
use Rattle.vg_script.specs.Cells.{Cells, entered, after}
use Rattle.vg_script.specs.Formed.{ScriptFormed}
use Rattle.vg_script.specs.Views.{Whole, whole_of}
use Rattle.vg_script.specs.declared.whole.Whole as code
use Rattle.vg_pmean.specs.declared.frame_room.FrameRoom.{FrameRoom}
use Rattle.vg_pmean.specs.FrameRoom.{Suffices, around, script_room}

-- the numbers of the parameters, and after them the immediate
abbrev pub given : {B : ℕ} → List (Reg B) → ℕ → List ℕ
given params imm = map (λ p. num (bits_of_bytes p.bytes)) params ++ imm ∷ []

-- the cells as an instance begins
abbrev pub first_cells : Whole → List ℕ → Cells
first_cells i ns = record {
  registers = entered i.widths (take i.parameters ns);
  variables = replicate i.variables 0;
}

-- the bits that an instance leaves in dst
abbrev pub left_in_dst : Whole → List ℕ → List ℕ
left_in_dst i ns = get_or (after i.script (first_cells i ns)).registers i.result []

-- The instances of an entry by rising immediates, from the least one on; an entry that has no
-- immediate has one instance.
pub record Ready : Type 0 where
  pub least : Option ℕ
  pub instances : List code.Whole

-- the place of the instance of an immediate
abbrev pub place_of : Option ℕ → ℕ → ℕ
place_of least imm = option_map_or (λ n. imm - n) least 0

-- the bits that the instance of an immediate leaves in dst; none, where there is no such instance
abbrev pub answer : Ready → ℕ → List ℕ → List ℕ
answer r imm ns =
    option_map_or (λ i. left_in_dst (whole_of i) ns) (slice_get r.instances (place_of r.least imm)) []

-- an instance that is formed, and that this room is enough for
pub record IsReady (room : FrameRoom) (i : Whole) : Type 0 where
  pub formed : ScriptFormed i.widths i.script
  pub enough : Suffices (around i.widths i.variables (script_room i.script)) room room.frames

abbrev pub AreReady : FrameRoom → List code.Whole → Type 0
AreReady room is =
    (k : ℕ) (i : code.Whole) → slice_get is k ≡ Some i → IsReady room (whole_of i)
