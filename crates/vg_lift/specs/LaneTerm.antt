-- The terms of the lanes of an instance: its script is gone through once with terms in the place of
-- numbers, and a lane is gathered of the bits that are left in dst.
use Rattle.std.specs.Prelude.{ℕ, zero, suc, ◌-◌, ◌*◌, ◌/◌, ◌%◌, ◌^◌, if◌then◌else◌, nat_lt, List, [], ◌∷◌, ◌++◌, get_or, set, min, take, replicate, length}
use Rattle.vg_base.specs.Number.{residue}
use Rattle.vg_bits.specs.Range.{range, replaced}
use Rattle.vg_terms.specs.Term.{Tree, constant, one, two, sel}
use Rattle.vg_terms.specs.Resize.{low}
use Rattle.vg_terms.specs.declared.term.TwoOp.TheVariants.{Smax, Mul, Eq}
use Rattle.vg_script.specs.Script.{Word, Low, at, held, Frame, frame, Given, nothing, number, moved, Script, stop, put, fill, copy, copy_from, give, both, branch, way, last, pick, arm}
use Rattle.vg_script.specs.Script as script
use Rattle.vg_script.specs.Views.{Whole}
use Rattle.vg_lift.specs.Gather.{Bit, clear, of_term, gather, bits_from, inputs_from}
use Rattle.vg_lift.specs.Join.{join_registers, join_variables}

-- the bits of each register, lowest first, and the term of 128 bits of each variable
pub record State : Type 0 where
  pub registers : List (List Bit)
  pub variables : List Tree

-- ---- constants

-- The piece of a constant of w bits in which bit k lies: pieces have 64 bits, the last what is left.
abbrev pub piece : ℕ → ℕ → ℕ → Tree
piece w v k =
    let first = k / 64 * 64 in
    constant (min 64 (w - first)) (v / 2 ^ first % 2 ^ min 64 (w - first))

-- n bits of a constant of w bits from bit k on
abbrev pub pieces : ℕ → ℕ → ℕ → ℕ → List Bit
pieces w v k zero = []
pieces w v k (suc n) = of_term (piece w v k) (k % 64) ∷ pieces w v (suc k) n

-- ---- registers as a body begins

-- what a register is given: bits, a constant, or the bits of a parameter of the instance
pub data Passed : Type 0 where
  of_bits : List Bit → Passed
  of_number : ℕ → Passed
  of_parameter : ℕ → Passed

-- bits cut to a width, or zeros above them
abbrev pub padded : ℕ → List Bit → List Bit
padded w bs = take w bs ++ replicate (w - length bs) clear

-- the bits that a register of a width then has
abbrev pub bits_passed : ℕ → Passed → List Bit
bits_passed w (of_bits bs) = padded w bs
bits_passed w (of_number n) = pieces w n 0 w
bits_passed w (of_parameter p) = inputs_from p 0 w

-- registers of these widths, the first ones given these; the others are zeros
abbrev pub entered : List ℕ → List Passed → List (List Bit)
entered [] ps = []
entered (w ∷ ws) [] = replicate w clear ∷ entered ws []
entered (w ∷ ws) (p ∷ ps) = bits_passed w p ∷ entered ws ps

abbrev pub begun : List ℕ → ℕ → List Passed → State
begun ws n ps = record {
  registers = entered ws ps;
  variables = replicate n (constant 128 0);
}

-- ---- words and statements

-- x or -x, whichever is the greater signed number
abbrev pub absolute_term : Tree → Tree
absolute_term x = two Smax 128 x (two Mul 128 x (constant 128 (2 ^ 128 - 1)))

-- so many bits of a register from a bit on become these
abbrev pub with_bits : ℕ → ℕ → List Bit → State → State
with_bits r low new s = record {
  registers = set s.registers r (replaced low new (get_or s.registers r []));
  variables = s.variables;
}

-- what is left where a condition, a term of one bit, takes the way to the first state, or else to
-- the second
abbrev pub joined : Tree → State → State → State
joined c s t = record {
  registers = join_registers c s.registers t.registers;
  variables = join_variables c s.variables t.variables;
}

-- so many bits of a register from a bit on; past its end are zeros
abbrev pub part : ℕ → ℕ → List Bit → List Bit
part l w bs = padded w (range l w bs)

-- the bit at which a slice begins; an instance that has lanes has no place that a word says
abbrev pub first_bit : Low → ℕ
first_bit (at n) = n
first_bit (held x) = 0

abbrev mutual
  -- The term of a word. An instance that has lanes has no shift by a word.
  pub term : State → Word → Tree
  term s (script.constant w v) = constant w v
  term s (script.slice r l w) = gather (part (first_bit l) w (get_or s.registers r []))
  term s (script.variable k) = get_or s.variables k (constant 128 0)
  term s (script.one op w k x) = one op w k (term s x)
  term s (script.two op w x y) = two op w (term s x) (term s y)
  term s (script.sel w c x y) = sel w (term s c) (term s x) (term s y)
  term s (script.absolute x) = absolute_term (term s x)
  term s (script.shift_left x n) = term s x
  term s (script.shift_right x n) = term s x
  term s (script.block f x) = term (left_by s f) x

  -- what a call leaves of the registers and variables of its own
  pub left_by : State → Frame → State
  left_by s (frame ws n g t) = lifted t (begun ws n (passed s g))

  pub passed : State → Given → List Passed
  passed s nothing = []
  passed s (script.word x g) = of_bits (bits_from (term s x) 0 128) ∷ passed s g
  passed s (number n g) = of_number n ∷ passed s g
  passed s (moved r l w g) =
      of_bits (range (first_bit l) w (get_or s.registers r [])) ∷ passed s g

  -- what a script leaves
  pub lifted : Script → State → State
  lifted stop s = s
  lifted (put r l w x) s = with_bits r l (bits_from (low w (term s x)) 0 w) s
  lifted (fill r l w z) s = with_bits r l (pieces w (residue w z) 0 w) s
  lifted (copy r l w q m) s =
      with_bits r l (part (first_bit m) w (get_or s.registers q [])) s
  lifted (copy_from r l w f q m) s =
      with_bits r l (part (first_bit m) w (get_or (left_by s f).registers q [])) s
  lifted (give k x) s =
      record { registers = s.registers; variables = set s.variables k (term s x) }
  lifted (both x y) s = lifted y (lifted x s)
  lifted (branch ways) s = lifted ways s
  lifted (way x t ways) s = joined (term s x) (lifted t s) (lifted ways s)
  lifted (last t) s = lifted t s
  lifted (pick x arms) s = lifted_arm (term s x) arms s
  lifted (arm n t arms) s = s

  -- A CASE is a chain of IFs on whether its selector is the number of the arm. No selector is a
  -- number of more than 128 bits.
  pub lifted_arm : Tree → Script → State → State
  lifted_arm x (arm n t arms) s =
      if nat_lt n (2 ^ 128)
      then joined (two Eq 1 x (constant 128 n)) (lifted t s) (lifted_arm x arms s)
      else lifted_arm x arms s
  lifted_arm x _ s = s

-- ---- lanes

abbrev pub parameters_from : ℕ → ℕ → List Passed
parameters_from p zero = []
parameters_from p (suc n) = of_parameter p ∷ parameters_from (suc p) n

-- an instance as it begins, by how many parameters its entry has and the immediate, which stands
-- after them
abbrev pub first_state : Whole → ℕ → ℕ → State
first_state i parameters imm =
    begun i.widths i.variables
    (take i.parameters (parameters_from 0 parameters ++ of_number imm ∷ []))

-- the bits that an instance leaves in dst
abbrev pub lifted_dst : Whole → ℕ → ℕ → List Bit
lifted_dst i parameters imm =
    get_or (lifted i.script (first_state i parameters imm)).registers i.result []

-- the term of a lane, of this width, of dst
abbrev pub lane_of : List Bit → ℕ → ℕ → Tree
lane_of dst width lane = gather (range (lane * width) width dst)

abbrev pub lane_term : Whole → ℕ → ℕ → ℕ → ℕ → Tree
lane_term i parameters imm width lane = lane_of (lifted_dst i parameters imm) width lane
