-- The law on which those stand who run or lift an instance: its script leaves in dst the bits that
-- the operation means.
use Rattle.std.specs.Prelude.{◌≡◌, ℕ, true, List, [], Option, Some, None, Ok, replicate, get_or, take}
use Rattle.vg_base.specs.Bits.{num}
use Rattle.vg_pseudo.specs.Resolved.{Resolved}
use Rattle.vg_pseudo.specs.Instance.{meaning}
use Rattle.vg_script.specs.Cells.{Cells, entered, after}
use Rattle.vg_script.specs.Formed.{ScriptFormed}
use Rattle.vg_names.specs.Proper.{IsProper}
use Rattle.vg_range.specs.Walk.{WalkState, imm_constant, instance_at}

-- the cells of an instance as it begins, where its parameters and after them the immediate have
-- these numbers
abbrev pub first_cells : Resolved → List ℕ → Cells
first_cells r given = record {
  registers = entered r.body.widths (take r.body.parameters given);
  variables = replicate r.body.numbers 0;
}

-- the immediate is among the numbers that are given
abbrev pub HasImmediate : Resolved → Option ℕ → List ℕ → Type 0
HasImmediate r imm given =
    (k n : ℕ) → get_or (imm_constant r.result imm r.body.widths) k None ≡ Some n
    → num (get_or (first_cells r given).registers k []) ≡ n

-- what the script of an instance does, and that it is formed
pub record ScriptMeans (r : Resolved) (w : WalkState) (given : List ℕ) : Type 0 where
  pub formed : ScriptFormed r.body.widths w.script
  pub leaves : get_or (after w.script (first_cells r given)).registers r.result [] ≡ meaning r given

-- In an accepted instance, for all numbers of the parameters.
abbrev pub InstancesMean : Type 0
InstancesMean =
    (r : Resolved) → IsProper r → (imm : Option ℕ) (w : WalkState) → instance_at true r imm ≡ Ok w
    → (given : List ℕ) → HasImmediate r imm given → ScriptMeans r w given
