-- One sum of two arguments stored to two consecutive places: a plan with a call.
use Rattle.std.specs.Prelude.{◌≡◌, ℕ, ◌*◌, true, List, [], ◌∷◌, pos, codes, Some, None}
use Rattle.vg_base.specs.declared.address.Address.{Address}
use Rattle.vg_base.specs.declared.width.Width.TheVariants.{W32}
use Rattle.vg_scalar.specs.declared.two_op.TwoOp.TheVariants.{Add}
use Rattle.vg_shapes.specs.declared.match_table.Match.{Match}
use Rattle.vg_shapes.specs.declared.pack.Pack.{Pack}
use Rattle.vg_shapes.specs.declared.pack.Pack.TheVariants.{Call, Stores}
use Rattle.vg_shapes.specs.declared.ssa.Ssa.{Ssa}
use Rattle.vg_shapes.specs.declared.ssa.SsaParamKind.TheVariants.{Integer, Pointer}
use Rattle.vg_shapes.specs.declared.ssa_unit.Operator.TheVariants.{Two}
use Rattle.vg_shapes.specs.declared.ssa_unit.SsaUnit.{SsaUnit}
use Rattle.vg_shapes.specs.declared.ssa_unit.SsaUnit.TheVariants.{Operation, Store}
use Rattle.vg_shapes.specs.declared.wanted.Wanted.TheVariants.{Nothing, Value}
use Rattle.vg_shapes.specs.Description.{Description}
use Rattle.vg_shapes.specs.Registers.{bits_key}
use Rattle.vg_shapes.specs.Sound.{argument_key}
use Rattle.vg_terms.specs.declared.term.Term.{Term}
use Rattle.vg_terms.specs.declared.term.Term.TheVariants.{Const, Leaf}
use Rattle.vg_terms.specs.declared.term.TwoOp.TheVariants as term
use Rattle.vg_terms.specs.Term.{leaf, tree, Tree, two}
use Rattle.vg_plan_relations.specs.Plans.{IsPlanByNodes}

-- ---- the kernel

abbrev pub argument : ℕ → Tree
argument v = leaf 32 (argument_key v)

-- the sum of the two arguments
abbrev pub sum_tree : Tree
sum_tree = two term.Add 32 (argument 0) (argument 1)

abbrev pub sum_unit : SsaUnit
sum_unit = Operation (Two Add) W32 0 (record { first = Value 0; second = Value 1; third = Nothing })

abbrev pub word : ℕ → Address
word offset = record { pointer = 0; offset = pos offset }

-- the sum is made twice, and each is stored; this is the term of a sum
abbrev pub two_sums : Term → Ssa
two_sums t = record {
  name = codes "sums";
  params =
      record { name = codes "p"; kind = Pointer true }
      ∷ record { name = codes "a"; kind = Integer W32 }
      ∷ record { name = codes "b"; kind = Integer W32 }
      ∷ [];
  units =
      sum_unit
      ∷ sum_unit
      ∷ Store (word 0) W32 (Value 2)
      ∷ Store (word 4) W32 (Value 3)
      ∷ [];
  terms =
      Leaf 32 (argument_key 0)
      ∷ Leaf 32 (argument_key 1)
      ∷ t
      ∷ t
      ∷ Const 8 0
      ∷ Const 8 0
      ∷ [];
  cuts = [];
}

-- ---- the instance

-- the sum of what stands from a bit on in two registers
abbrev pub sum_lane : ℕ → Tree
sum_lane low = two term.Add 32 (leaf 32 (bits_key 0 low)) (leaf 32 (bits_key 1 low))

-- an instance that adds four words
abbrev pub four_sums : Description
four_sums = record {
  name = codes "add";
  imm = None;
  cost = 1;
  params = 128 ∷ 128 ∷ [];
  register = 128;
  lane_width = 32;
  lanes = sum_lane 0 ∷ sum_lane 32 ∷ sum_lane 64 ∷ sum_lane 96 ∷ [];
}

-- each of its lanes matches each sum
abbrev pub sum_match : ℕ → ℕ → Match
sum_match v lane = record {
  description = 0;
  lane = lane;
  value = v;
  bound =
      record { key = bits_key 0 (lane * 32); width = 32; wanted = Value 0 }
      ∷ record { key = bits_key 1 (lane * 32); width = 32; wanted = Value 1 }
      ∷ [];
}

abbrev pub sum_matches : List Match
sum_matches =
    sum_match 2 0
    ∷ sum_match 2 1
    ∷ sum_match 2 2
    ∷ sum_match 2 3
    ∷ sum_match 3 0
    ∷ sum_match 3 1
    ∷ sum_match 3 2
    ∷ sum_match 3 3
    ∷ []

-- ---- the plan

-- both stores in one line, and both sums by one call, in lanes 0 and 1
abbrev pub sum_plan : List Pack
sum_plan = Stores (4 ∷ 5 ∷ []) ∷ Call 0 (Some 2 ∷ Some 3 ∷ None ∷ None ∷ []) ∷ []

-- the call produces what the stores store, and the two are a plan
abbrev pub TwoSumsArePlanned : Type 0
TwoSumsArePlanned =
    (t : Term) → tree t ≡ sum_tree →
    IsPlanByNodes (four_sums ∷ []) sum_matches (two_sums t) sum_plan
