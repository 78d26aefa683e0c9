-- The law on which those stand who use lane terms: the value of a lane's term is the lane.
use Rattle.std.specs.Prelude.{◌≡◌, ℕ, ◌+◌, ◌*◌, ◌<◌, ◌≤◌, List, [], ◌∷◌, ◌++◌, length, map, take, replicate, get_or}
use Rattle.vg_base.specs.Bits.{num}
use Rattle.vg_bits.specs.Range.{range}
use Rattle.vg_terms.specs.Term.{Tree, IsWidth, WellFormed, width_of}
use Rattle.vg_terms.specs.Value.{value}
use Rattle.vg_shapes.specs.Registers.{AllBits, env_of, LeavesInside}
use Rattle.vg_script.specs.Cells.{Cells, entered, after}
use Rattle.vg_script.specs.Formed.{ScriptFormed}
use Rattle.vg_script.specs.Views.{Whole}
use Rattle.vg_lift.specs.LaneTerm.{lane_term}
use Rattle.vg_range_laws.specs.Static.{IsStatic}

-- the cells as an instance begins, given the numbers of its parameters and after them the immediate
abbrev pub first_cells : Whole → List ℕ → Cells
first_cells i ns = record {
  registers = entered i.widths (take i.parameters ns);
  variables = replicate i.variables 0;
}

-- the bits that an instance leaves in dst, given the bits of its parameters and the immediate
abbrev pub left_in_dst : Whole → List (List ℕ) → ℕ → List ℕ
left_in_dst i regs imm =
    get_or (after i.script (first_cells i (map num regs ++ imm ∷ []))).registers i.result []

-- the bits of the parameters of an instance
pub record AreParameters (i : Whole) (regs : List (List ℕ)) : Type 0 where
  pub bits : AllBits regs
  pub widths : (p : ℕ) → p < length regs → p < i.parameters
      → get_or i.widths p 0 ≡ length (get_or regs p [])

-- a well-formed term of this width, whose value in the environment of the registers is this number
pub record MeansLane (t : Tree) (width : ℕ) (regs : List (List ℕ)) (lane : ℕ) : Type 0 where
  pub formed : WellFormed t
  pub wide : width_of t ≡ width
  pub means : value (env_of regs) t ≡ lane

-- In an instance of which no slice and no shift depends on data, for all bits of the parameters.
abbrev pub LaneTermsMeanTheirLanes : Type 0
LaneTermsMeanTheirLanes =
    (i : Whole) → ScriptFormed i.widths i.script → IsStatic i.script
    → (regs : List (List ℕ)) (imm : ℕ) → AreParameters i regs
    → (width lane : ℕ) → IsWidth width → lane * width + width ≤ get_or i.widths i.result 0
    → MeansLane (lane_term i (length regs) imm width lane) width regs
    (num (range (lane * width) width (left_in_dst i regs imm)))

-- The leaves of a lane's term are bits inside the parameters, which are the first registers.
abbrev pub LeavesAreParameters : Type 0
LeavesAreParameters =
    (i : Whole) (parameters imm width lane : ℕ)
    → LeavesInside (take parameters i.widths) (lane_term i parameters imm width lane)
