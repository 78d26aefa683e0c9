-- Values put into a register, one after the other.
use Rattle.std.specs.Prelude.{ℕ, ◌/◌, List, [], ◌∷◌, ◌++◌}
use Rattle.vg_program.specs.declared.line.Line.TheVariants as line
use Rattle.vg_shapes.specs.declared.operand.Operand.{Operand}
use Rattle.vg_shapes.specs.declared.operand.Slot.{Slot}
use Rattle.vg_shapes.specs.declared.wanted.Wanted.{Wanted}
use Rattle.vg_shapes.specs.declared.wanted.Wanted.TheVariants.{Value, Constant, Nothing}
use Rattle.vg_emission.specs.Draft.{Draft, with_built, with_vectors}
use Rattle.vg_emission.specs.Emission.{constant_bytes, Job, number_for, Placed, width_for}

-- the line of a slot that wants a value, and the register that it gives
abbrev pub put_one : Job → Draft → ℕ → ℕ → Slot → Wanted → Placed
put_one j d bits r s (Value v) = record {
  lines = line.Insert r bits (s.low / s.width) (width_for s.width) (number_for j d (Value v)) ∷ [];
  draft = with_vectors d 1;
  register = d.vectors;
}
put_one j d bits r s (Constant w n) = record { lines = []; draft = d; register = r }
put_one j d bits r s Nothing = record { lines = []; draft = d; register = r }

-- those of slots, each puts its value into the register that the line before gave
abbrev pub put_in : Job → Draft → ℕ → ℕ → List Slot → Placed
put_in j d bits r [] = record { lines = []; draft = d; register = r }
put_in j d bits r (s ∷ ss) =
    let first = put_one j d bits r s s.wanted in
    let rest = put_in j first.draft bits first.register ss in
    record { lines = first.lines ++ rest.lines; draft = rest.draft; register = rest.register }

-- the constants of an operand, and the values that it wants
abbrev pub put_inserts : Job → Draft → ℕ → Operand → Placed
put_inserts j d o own =
    let rest = put_in j (with_vectors d 1) own.register d.vectors own.slots in
    record {
      lines = line.Constant (constant_bytes own) ∷ rest.lines;
      draft = with_built rest.draft o rest.register;
      register = rest.register;
    }
