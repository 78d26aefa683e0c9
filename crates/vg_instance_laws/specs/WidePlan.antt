-- A plan in which one call computes a sum of a sum, whose lanes fit it cut, and another a difference from a
-- number, whose lanes fit it turned.
use Rattle.std.specs.Prelude.{◌≡◌, ℕ, ◌*◌, ◌-◌, ◌^◌, true, List, [], ◌∷◌, map, pos, codes, Some, None}
use Rattle.vg_base.specs.declared.address.Address.{Address}
use Rattle.vg_base.specs.declared.width.Width.TheVariants.{W64}
use Rattle.vg_scalar.specs.declared.two_op.TwoOp.TheVariants.{Add, Sub}
use Rattle.vg_terms.specs.declared.term.Term.{Term}
use Rattle.vg_terms.specs.declared.term.TwoOp.TheVariants as term
use Rattle.vg_terms.specs.Term.{constant, leaf, Tree, two}
use Rattle.vg_shapes.specs.declared.description.Description as declared
use Rattle.vg_shapes.specs.declared.match_table.Bound.{Bound}
use Rattle.vg_shapes.specs.declared.match_table.Match.{Match}
use Rattle.vg_shapes.specs.declared.order.Node.{Node}
use Rattle.vg_shapes.specs.declared.order.Node.TheVariants.{PackAt, UnitAt}
use Rattle.vg_shapes.specs.declared.pack.Pack.{Pack}
use Rattle.vg_shapes.specs.declared.pack.Pack.TheVariants.{Call, Stores}
use Rattle.vg_shapes.specs.declared.ssa.Ssa.{Ssa}
use Rattle.vg_shapes.specs.declared.ssa.SsaParam.{SsaParam}
use Rattle.vg_shapes.specs.declared.ssa.SsaParamKind.TheVariants.{Integer, Pointer}
use Rattle.vg_shapes.specs.declared.ssa_unit.Operator.TheVariants.{Two}
use Rattle.vg_shapes.specs.declared.ssa_unit.SsaUnit.{SsaUnit}
use Rattle.vg_shapes.specs.declared.ssa_unit.SsaUnit.TheVariants.{Operation, Store}
use Rattle.vg_shapes.specs.declared.wanted.Wanted.{Wanted}
use Rattle.vg_shapes.specs.declared.wanted.Wanted.TheVariants.{Constant, Nothing, Value}
use Rattle.vg_shapes.specs.Description.{Description, description_of}
use Rattle.vg_shapes.specs.Matches.{AreMatches}
use Rattle.vg_shapes.specs.Nodes.{IsOrder}
use Rattle.vg_shapes.specs.Registers.{bits_key}
use Rattle.vg_shapes.specs.Sound.{argument_key, cut_key, cuts_of, IsSound, terms_of}
use Rattle.vg_match.specs.Values.{fit_by_turn, fit_cut, fit_whole, of_kernel}
use Rattle.vg_ssa.specs.OfUnits.{AreNumbered, HaveCuts}
use Rattle.vg_program.specs.Meaning.{Instructions}
use Rattle.vg_emission.specs.Laws.{MeansUnits}
use Rattle.vg_gather.specs.Recipes.{planned_program}
use Rattle.vg_plan_relations.specs.Plans.{IsPlanByNodes}
use Rattle.vg_plan_laws.specs.Laws.{AreTrue}

-- ---- the kernel: s = a + b, and twice u = s + a and 7 - u, which are stored

abbrev pub sum : Wanted → Wanted → SsaUnit
sum x y = Operation (Two Add) W64 0 (record { first = x; second = y; third = Nothing })

abbrev pub from_seven : Wanted → SsaUnit
from_seven y = Operation (Two Sub) W64 0 (record { first = Constant 64 7; second = y; third = Nothing })

abbrev pub word : ℕ → Address
word offset = record { pointer = 0; offset = pos offset }

abbrev pub wide_params : List SsaParam
wide_params =
    record { name = codes "p"; kind = Pointer true }
    ∷ record { name = codes "a"; kind = Integer W64 }
    ∷ record { name = codes "b"; kind = Integer W64 }
    ∷ []

abbrev pub wide_units : List SsaUnit
wide_units =
    sum (Value 0) (Value 1)
    ∷ sum (Value 2) (Value 0)
    ∷ sum (Value 2) (Value 0)
    ∷ from_seven (Value 3)
    ∷ Store (word 0) W64 (Value 5)
    ∷ from_seven (Value 4)
    ∷ Store (word 8) W64 (Value 7)
    ∷ []

-- these are the terms and the cut terms of its values
abbrev pub wide_kernel : List Term → List Term → Ssa
wide_kernel terms cuts = record {
  name = codes "wide";
  params = wide_params;
  units = wide_units;
  terms = terms;
  cuts = cuts;
}

-- ---- the terms of the values, and their cut terms

abbrev pub argument : ℕ → Tree
argument v = leaf 64 (argument_key v)

-- what stands for a value in the cut terms of later ones
abbrev pub named : ℕ → Tree
named v = leaf 64 (cut_key v)

abbrev pub sum_of : Tree → Tree → Tree
sum_of x y = two term.Add 64 x y

abbrev pub seven_less : Tree → Tree
seven_less x = sum_of (two term.Mul 64 x (constant 64 (2 ^ 64 - 1))) (constant 64 7)

abbrev pub second_sum : Tree
second_sum = sum_of (sum_of (argument 0) (argument 0)) (argument 1)

abbrev pub whole_terms : List Tree
whole_terms =
    argument 0
    ∷ argument 1
    ∷ sum_of (argument 0) (argument 1)
    ∷ second_sum
    ∷ second_sum
    ∷ seven_less second_sum
    ∷ constant 8 0
    ∷ seven_less second_sum
    ∷ constant 8 0
    ∷ []

abbrev pub cut_terms : List Tree
cut_terms =
    argument 0
    ∷ argument 1
    ∷ sum_of (argument 0) (argument 1)
    ∷ sum_of (argument 0) (named 2)
    ∷ sum_of (argument 0) (named 2)
    ∷ seven_less (named 3)
    ∷ constant 8 0
    ∷ seven_less (named 4)
    ∷ constant 8 0
    ∷ []

-- ---- the instances, of two lanes each

abbrev pub at_bit : ℕ → ℕ → Tree
at_bit parameter low = leaf 64 (bits_key parameter low)

abbrev pub sum_lane : ℕ → Tree
sum_lane low = sum_of (at_bit 0 low) (at_bit 1 low)

abbrev pub difference_lane : ℕ → Tree
difference_lane low =
    sum_of (at_bit 0 low) (two term.Mul 64 (at_bit 1 low) (constant 64 (2 ^ 64 - 1)))

abbrev pub instance_of : List ℕ → List Tree → Description
instance_of name lanes = record {
  name = name;
  imm = None;
  cost = 1;
  params = 128 ∷ 128 ∷ [];
  register = 128;
  lane_width = 64;
  lanes = lanes;
}

abbrev pub two_instances : List Description
two_instances =
    instance_of (codes "add") (sum_lane 0 ∷ sum_lane 64 ∷ [])
    ∷ instance_of (codes "sub") (difference_lane 0 ∷ difference_lane 64 ∷ [])
    ∷ []

-- ---- the matches

abbrev pub bound_to : ℕ → Wanted → Wanted → List Bound
bound_to lane x y =
    record { key = bits_key 0 (lane * 64); width = 64; wanted = x }
    ∷ record { key = bits_key 1 (lane * 64); width = 64; wanted = y }
    ∷ []

abbrev pub matched : ℕ → ℕ → ℕ → Wanted → Wanted → Match
matched description lane value x y = record {
  description = description;
  lane = lane;
  value = value;
  bound = bound_to lane x y;
}

-- The first sum fits whole. The second ones are (add (add a a) b) whole, of which no part is a value; cut they
-- are (add a s). The differences are (add (mul u -1) 7) cut, which fits with its operands exchanged.
abbrev pub wide_matches : List Match
wide_matches =
    matched 0 0 2 (Value 0) (Value 1)
    ∷ matched 0 1 2 (Value 0) (Value 1)
    ∷ matched 0 0 3 (Value 0) (Value 2)
    ∷ matched 0 1 3 (Value 0) (Value 2)
    ∷ matched 0 0 4 (Value 0) (Value 2)
    ∷ matched 0 1 4 (Value 0) (Value 2)
    ∷ matched 1 0 5 (Constant 64 7) (Value 3)
    ∷ matched 1 1 5 (Constant 64 7) (Value 3)
    ∷ matched 1 0 7 (Constant 64 7) (Value 4)
    ∷ matched 1 1 7 (Constant 64 7) (Value 4)
    ∷ []

-- ---- the plan, and an order

abbrev pub wide_plan : List Pack
wide_plan =
    Stores (6 ∷ 8 ∷ [])
    ∷ Call 1 (Some 5 ∷ Some 7 ∷ [])
    ∷ Call 0 (Some 3 ∷ Some 4 ∷ [])
    ∷ []

abbrev pub wide_order : List Node
wide_order = UnitAt 2 ∷ PackAt 2 ∷ PackAt 1 ∷ PackAt 0 ∷ []

-- ---- all that the laws on wide plans want, and what they give

pub record IsWide (called : Instructions) (ssa : Ssa) : Type 0 where
  pub sound : IsSound ssa
  pub terms : terms_of ssa ≡ whole_terms
  pub cuts : cuts_of ssa ≡ cut_terms
  pub matches : AreMatches two_instances ssa wide_matches
  pub not_whole : fit_whole (of_kernel ssa) 3 (sum_lane 0) ≡ None
  pub cut : fit_cut (of_kernel ssa) 3 (sum_lane 0) ≡ Some (bound_to 0 (Value 0) (Value 2))
  pub not_cut : fit_cut (of_kernel ssa) 5 (difference_lane 0) ≡ None
  pub turned :
      fit_by_turn (of_kernel ssa) 5 (difference_lane 0) ≡ Some (bound_to 0 (Constant 64 7) (Value 3))
  pub planned : IsPlanByNodes two_instances wide_matches ssa wide_plan
  pub order : IsOrder ssa wide_matches wide_plan wide_order
  pub means :
      AreTrue called two_instances →
      MeansUnits called (planned_program two_instances wide_matches ssa wide_plan wide_order) ssa

-- wherever the terms lie that the values and the lanes have
abbrev pub WidePlanMeansUnits : Type 0
WidePlanMeansUnits =
    (called : Instructions) (terms cuts : List Term) (ds : List declared.Description) →
    AreNumbered (codes "wide") wide_params wide_units (wide_kernel terms cuts) →
    HaveCuts wide_params wide_units (wide_kernel terms cuts) →
    map description_of ds ≡ two_instances →
    IsWide called (wide_kernel terms cuts)
