-- The lanes of the instances of accepted entries, and what they mean.
use Rattle.std.specs.Prelude.{◌≡◌, ℕ, ◌+◌, ◌*◌, ◌/◌, ◌%◌, ◌≤◌, Bool, true, false, if◌then◌else◌, List, [], ◌∷◌, ◌++◌, length, map, Result, Ok, Err}
use Rattle.vg_base.specs.Bits.{num}
use Rattle.vg_bits.specs.Range.{range}
use Rattle.vg_terms.specs.Term.{Tree, constant, IsWidth}
use Rattle.vg_terms.specs.Value.{value}
use Rattle.vg_shapes.specs.Description.{IsLane}
use Rattle.vg_shapes.specs.Lane.{Lane, known, dynamic}
use Rattle.vg_shapes.specs.Registers.{AllBits, env_of}
use Rattle.vg_pseudo.specs.declared.header.Header.{Header}
use Rattle.vg_pseudo.specs.Tree.{Operation}
use Rattle.vg_script.specs.Views.{Whole}
use Rattle.vg_interval.specs.declared.fault.RangeFault.{RangeFault}
use Rattle.vg_range.specs.Immediates.{has_instance, immediate_of}
use Rattle.vg_range.specs.Unrolled.{meant, unrolled}
use Rattle.vg_lift.specs.LaneTerm.{lane_term}
use Rattle.vg_lift.specs.Lanes.{lanes_from, sized}

-- a number for which an entry has an instance; every number is one where it has no immediate
abbrev pub HasInstance : Header → ℕ → Type 0
HasInstance h imm = has_instance h.imm (immediate_of h.imm imm) ≡ true

-- the instance for a number, written out
abbrev pub instance : Header → Operation → ℕ → Result Whole RangeFault
instance h o imm = unrolled h o (immediate_of h.imm imm)

abbrev pub is_dynamic_in : Result Whole RangeFault → Bool
is_dynamic_in (Ok i) = i.is_dynamic
is_dynamic_in (Err fault) = false

-- whether a slice or a shift of an instance depends on data
abbrev pub is_dynamic : Header → Operation → ℕ → Bool
is_dynamic h o imm = is_dynamic_in (instance h o imm)

abbrev pub term_in : Result Whole RangeFault → ℕ → ℕ → ℕ → ℕ → Tree
term_in (Ok i) parameters imm width lane = lane_term i parameters imm width lane
term_in (Err fault) parameters imm width lane = constant 0 0

-- the term of a lane of an instance
abbrev pub instance_term : Header → Operation → ℕ → ℕ → Tree
instance_term h o imm lane = term_in (instance h o imm) (length h.params) imm h.lane_width lane

-- a lane of an instance
abbrev pub instance_lane : Header → Operation → ℕ → ℕ → Lane
instance_lane h o imm lane =
    if is_dynamic h o imm then dynamic else sized (instance_term h o imm lane)

-- all lanes of an instance, lane 0 first
abbrev pub instance_lanes : Header → Operation → ℕ → List Lane
instance_lanes h o imm = lanes_from (instance_lane h o imm) 0 (h.register / h.lane_width)

-- the widths of the parameters
abbrev pub registers : Header → List ℕ
registers h = map (λ p. p.register) h.params

-- lanes fill the result
pub record HasLanes (h : Header) : Type 0 where
  pub width : IsWidth h.lane_width
  pub fill : h.register % h.lane_width ≡ 0

-- a lane inside the result
pub record InResult (h : Header) (lane : ℕ) : Type 0 where
  pub width : IsWidth h.lane_width
  pub inside : lane * h.lane_width + h.lane_width ≤ h.register

-- a term has this value for the bits of all parameters: the lane of what the entry means
abbrev pub IsMeant : Header → Operation → ℕ → ℕ → Tree → Type 0
IsMeant h o imm lane t =
    (regs : List (List ℕ)) → AllBits regs → map length regs ≡ registers h
    → value (env_of regs) t
    ≡ num (range (lane * h.lane_width) h.lane_width (meant h o (map num regs ++ imm ∷ [])))

-- The term of a lane: a well-formed one of its width, over bits inside the parameters, that means
-- the lane of what the entry means.
pub record IsLaneOf (h : Header) (o : Operation) (imm lane : ℕ) (t : Tree) : Type 0 where
  pub is_lane : IsLane (registers h) h.lane_width t
  pub means : IsMeant h o imm lane t

-- where a lane has a term, that is its term
abbrev pub MeansLane : Header → Operation → ℕ → ℕ → Lane → Type 0
MeansLane h o imm lane (known t) = IsLaneOf h o imm lane t
MeansLane h o imm lane _ = Unit {0}

-- these are lanes from this one on
abbrev pub MeanLanes : Header → Operation → ℕ → ℕ → List Lane → Type 0
MeanLanes h o imm lane [] = Unit {0}
MeanLanes h o imm lane (l ∷ ls) = MeansLane h o imm lane l × MeanLanes h o imm (lane + 1) ls
