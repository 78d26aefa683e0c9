-- What the list of producers promises, what packs hold, and what plans are.
use Rattle.std.specs.Prelude.{◌≡◌, ◌↔◌, true, List}
use Rattle.std.specs.List.{AllByRecursion}
use Rattle.vg_plans.specs.Members.{AllDiffer, Has}
use Rattle.vg_shapes.specs.declared.match_table.Match.{Match}
use Rattle.vg_shapes.specs.declared.operand.Operand.{Operand}
use Rattle.vg_shapes.specs.declared.pack.Pack.{Pack}
use Rattle.vg_shapes.specs.declared.ssa.Ssa.{Ssa}
use Rattle.vg_shapes.specs.Depends.{dependences}
use Rattle.vg_shapes.specs.Description.{Description, IsPackable}
use Rattle.vg_shapes.specs.Matches.{AreMatches}
use Rattle.vg_shapes.specs.Operands.{IsOperand}
use Rattle.vg_kernel_plans.specs.declared.choice.Choice.{Choice}
use Rattle.vg_kernel_plans.specs.Fed.{IsPlanBy, unfed}
use Rattle.vg_kernel_plans.specs.Held.{holds}
use Rattle.vg_kernel_plans.specs.Laws.{IsPlanFor}
use Rattle.vg_kernel_plans.specs.Producers.{producers}
use Rattle.vg_kernel_plans.specs.SameAs.{same_pack}
use Rattle.vg_plan_relations.specs.Plans.{IsFedPlanByNodes, IsPlanByNodes, IsPlanByNodesBy}
use Rattle.vg_plan_relations.specs.Produces.{AreRising, Holds, Produces}

-- each of the list produces the operand, and each pack that does is in the list, once
pub record AreListed
    (ds : List Description) (matches : List Match) (ssa : Ssa) (o : Operand)
    : Type 0 where
  pub right : (p : Pack) → Has p (producers ds matches ssa o) → Produces ds matches ssa p o
  pub whole : (p : Pack) → Produces ds matches ssa p o → Has p (producers ds matches ssa o)
  pub once : AllDiffer same_pack (producers ds matches ssa o)

-- where the descriptions are packable, the matches are all, and the slots stand by rising low bit
abbrev pub ProducersAreListed : Type 0
ProducersAreListed =
    (ds : List Description) (matches : List Match) (ssa : Ssa) (o : Operand) →
    AllByRecursion IsPackable ds → AreMatches ds ssa matches → AreRising o.slots →
    AreListed ds matches ssa o

-- the slots of a sound operand stand by rising low bit
abbrev pub SoundOperandsRise : Type 0
SoundOperandsRise = (ssa : Ssa) (o : Operand) → IsOperand ssa o → AreRising o.slots

-- the test of what a pack holds says what it means, of any pack and operand
abbrev pub HoldsIsTold : Type 0
HoldsIsTold =
    (ds : List Description) (ssa : Ssa) (p : Pack) (o : Operand) →
    (holds ds ssa p o ≡ true) ↔ Holds ds ssa p o

-- By the list of all dependences of a kernel, the plans that grow by packs that may follow are
-- those by packs, units and nodes. The descriptions are packable, and the matches are all.
abbrev pub PlansArePlansByNodes : Type 0
PlansArePlansByNodes =
    (ds : List Description) (matches : List Match) (ssa : Ssa) (plan : List Pack) →
    AllByRecursion IsPackable ds → AreMatches ds ssa matches →
    IsPlanFor ds matches ssa (dependences ssa) plan ↔ IsPlanByNodes ds matches ssa plan

-- The same by each choice of the packs that are tried: all store groups or the aligned ones alone,
-- with the load groups that feed operands or without. So it is of fed plans.
abbrev pub PlansByChoiceArePlansByNodes : Type 0
PlansByChoiceArePlansByNodes =
    (c : Choice) (ds : List Description) (matches : List Match) (ssa : Ssa) (plan : List Pack) →
    AllByRecursion IsPackable ds → AreMatches ds ssa matches →
    IsPlanBy c ds matches ssa (dependences ssa) plan ↔ IsPlanByNodesBy c ds matches ssa plan

-- The plans without feeding are those by the choice of all store groups and no load groups; and by
-- whatever choice, a plan is a fed plan. Of any descriptions and matches.
pub record PlansByNodesMayBeFed : Type 0 where
  pub not_fed : (ds : List Description) (matches : List Match) (ssa : Ssa) (plan : List Pack) →
      IsPlanByNodes ds matches ssa plan ↔ IsPlanByNodesBy unfed ds matches ssa plan
  pub may_be_fed : (c : Choice) (ds : List Description) (matches : List Match) (ssa : Ssa)
      (plan : List Pack) →
      IsPlanByNodesBy c ds matches ssa plan → IsFedPlanByNodes ds matches ssa plan
