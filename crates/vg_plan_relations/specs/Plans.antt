-- When a list of packs is a plan, by its packs, their units and its nodes.
use Rattle.std.specs.Prelude.{◌≡◌, ◌⊎◌, ℕ, Bool, true, false, List, ◌∷◌, ◌++◌}
use Rattle.vg_plans.specs.Members.{Has}
use Rattle.vg_shapes.specs.declared.match_table.Match.{Match}
use Rattle.vg_shapes.specs.declared.operand.Operand.{Operand}
use Rattle.vg_shapes.specs.declared.operand.Slot.{Slot}
use Rattle.vg_shapes.specs.declared.order.Node.{Node}
use Rattle.vg_shapes.specs.declared.pack.Pack.{Pack}
use Rattle.vg_shapes.specs.declared.ssa.Ssa.{Ssa}
use Rattle.vg_shapes.specs.declared.wanted.Wanted.TheVariants.{Value}
use Rattle.vg_shapes.specs.Description.{Description}
use Rattle.vg_shapes.specs.Nodes.{IsCycle}
use Rattle.vg_shapes.specs.Pack.{units_of}
use Rattle.vg_kernel_plans.specs.declared.choice.Choice.{Choice}
use Rattle.vg_kernel_plans.specs.Fed.{fed}
use Rattle.vg_kernel_plans.specs.Groups.{is_aligned}
use Rattle.vg_kernel_plans.specs.LoadGroups.{load_groups}
use Rattle.vg_kernel_plans.specs.Taken.{operands_of}
use Rattle.vg_packs.specs.Laws.{IsGroup}
use Rattle.vg_plan_relations.specs.Produces.{Produces}

-- a pack produces an operand of one of these packs
abbrev pub ProducesFor : List Description → List Match → Ssa → List Pack → Pack → Type 0
ProducesFor ds matches ssa before p =
    (q : Pack) × (o : Operand) × Has q before
    × Has o (operands_of ds matches ssa q)
    × Produces ds matches ssa p o

-- no unit of a pack stands in one of these packs
abbrev pub IsApart : List Pack → Pack → Type 0
IsApart before p =
    (q : Pack) (v : ℕ) → Has q before → Has v (units_of q) → Has v (units_of p) → ⊥

-- the nodes of packs have no cycle
abbrev pub HasNoCycle : Ssa → List Match → List Pack → Type 0
HasNoCycle ssa matches packs = (cycle : List Node) → IsCycle ssa matches packs cycle → ⊥

-- A list of packs is a plan: each pack is a store group or produces an operand of an earlier pack,
-- no unit stands in two packs, and neither the list nor a prefix of it has a cycle among its nodes.
pub record IsPlanByNodes
    (ds : List Description) (matches : List Match) (ssa : Ssa) (packs : List Pack)
    : Type 0 where
  pub made : (before after : List Pack) (p : Pack) → packs ≡ before ++ p ∷ after →
      IsGroup ssa p ⊎ ProducesFor ds matches ssa before p
  pub apart : (before after : List Pack) (p : Pack) → packs ≡ before ++ p ∷ after →
      IsApart before p
  pub free : (before after : List Pack) → packs ≡ before ++ after → HasNoCycle ssa matches before

-- ---- plans in which load groups feed operands

-- an operand wants the value of one of these units
abbrev pub WantsOneOf : Operand → List ℕ → Type 0
WantsOneOf o us =
    (s : Slot) × (v : ℕ) × Has s o.slots × (s.wanted ≡ Value v) × Has v us

-- A load group feeds an operand: it is one of those of the operand's register, and the operand wants
-- the value of one of its loads.
pub record Feeds (ssa : Ssa) (p : Pack) (o : Operand) : Type 0 where
  pub group : Has p (load_groups ssa o.register)
  pub wanted : WantsOneOf o (units_of p)

-- a load group feeds an operand of one of these packs
abbrev pub FeedsFor : List Description → List Match → Ssa → List Pack → Pack → Type 0
FeedsFor ds matches ssa before p =
    (q : Pack) × (o : Operand) × Has q before
    × Has o (operands_of ds matches ssa q)
    × Feeds ssa p o

-- a pack is a store group, of which any may be had, or the aligned ones alone
abbrev pub IsGroupBy : Bool → Ssa → Pack → Type 0
IsGroupBy false ssa p = IsGroup ssa p
IsGroupBy true ssa p = IsGroup ssa p × (is_aligned ssa p ≡ true)

-- a load group feeds an operand of one of these packs, where load groups may
abbrev pub FeedsForBy :
    Bool → List Description → List Match → Ssa → List Pack → Pack → Type 0
FeedsForBy false ds matches ssa before p = ⊥
FeedsForBy true ds matches ssa before p = FeedsFor ds matches ssa before p

-- A list of packs is a plan by a choice of what may be had: each pack is a store group, produces an
-- operand of an earlier pack, or is a load group that feeds one. As ever no unit stands in two packs,
-- and neither the list nor a prefix of it has a cycle among its nodes.
pub record IsPlanByNodesBy
    (c : Choice) (ds : List Description) (matches : List Match) (ssa : Ssa) (packs : List Pack)
    : Type 0 where
  pub made : (before after : List Pack) (p : Pack) → packs ≡ before ++ p ∷ after →
      IsGroupBy c.aligned ssa p
      ⊎ (ProducesFor ds matches ssa before p ⊎ FeedsForBy c.fed ds matches ssa before p)
  pub apart : (before after : List Pack) (p : Pack) → packs ≡ before ++ p ∷ after →
      IsApart before p
  pub free : (before after : List Pack) → packs ≡ before ++ after → HasNoCycle ssa matches before

-- A fed plan: each pack is any store group, produces an operand of an earlier pack, or is a load
-- group that feeds one.
abbrev pub IsFedPlanByNodes : List Description → List Match → Ssa → List Pack → Type 0
IsFedPlanByNodes ds matches ssa packs = IsPlanByNodesBy fed ds matches ssa packs
