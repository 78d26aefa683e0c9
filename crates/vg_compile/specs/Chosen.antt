-- The chosen plan of the numbered values of a kernel, when its cost is optimal, and the plans that are
-- chosen of a kernel.
use Rattle.std.specs.Prelude.{◌≡◌, ◌≤◌, ◌<◌, ℕ, Bool, true, false, List, [], length, nat_le, Option, Some, None, if◌then◌else◌}
use Rattle.std.specs.List.{AllByRecursion}
use Rattle.vg_kernel.specs.Tree.{Tree}
use Rattle.vg_ssa.specs.Cuts.{HasCuts}
use Rattle.vg_ssa.specs.Numbering.{IsNumbering}
use Rattle.vg_shapes.specs.declared.match_table.Match.{Match}
use Rattle.vg_shapes.specs.declared.pack.Pack.{Pack}
use Rattle.vg_shapes.specs.declared.ssa.Ssa.{Ssa}
use Rattle.vg_shapes.specs.Bindings.{BindsInOrder}
use Rattle.vg_shapes.specs.Depends.{dependences}
use Rattle.vg_shapes.specs.Description.{Description}
use Rattle.vg_shapes.specs.Matches.{AreMatches}
use Rattle.vg_shapes.specs.MatchTable.{IsTable}
use Rattle.vg_plans.specs.Members.{AllDiffer, Every}
use Rattle.vg_plans.specs.World.{same_packs}
use Rattle.vg_kernel_plans.specs.Completed.{aligned_plain_of, careful_of, chosen_fed_of}
use Rattle.vg_kernel_plans.specs.Fed.{fed_aligned, packing_by}
use Rattle.vg_kernel_plans.specs.Laws as plan
use Rattle.vg_kernel_plans.specs.Packing.{chosen_of, packing, plain_of}
use Rattle.vg_plan_relations.specs.Plans.{IsPlanByNodes, IsPlanByNodesBy}
use Rattle.vg_compile.specs.declared.rewriting.Rewriting.{Rewriting}
use Rattle.vg_compile.specs.declared.rewriting.Rewriting.TheVariants.{Own, Repeated, Narrowed, NarrowedRepeated}
use Rattle.vg_compile.specs.Rewritten.{AreTooMany, AreWholeBy, AreWideBy}

-- the table of all matches of descriptions with the values of a kernel, each with its leaves bound in order
pub record IsTableOf (ds : List Description) (ssa : Ssa) (matches : List Match) : Type 0 where
  pub matched : AreMatches ds ssa matches
  pub ordered : IsTable matches
  pub bindings : AllByRecursion (BindsInOrder ds) matches

-- what a plan costs
abbrev pub cost_of : List Description → List Match → Ssa → List Pack → ℕ
cost_of ds matches ssa packs = plan.cost_of ds matches ssa (dependences ssa) packs

-- the plain plan
abbrev pub plain_of_units : List Description → List Match → Ssa → List Pack
plain_of_units ds matches ssa = plain_of ds matches ssa (dependences ssa)

-- more than so many plans of this number of packs, no two of the same packs
abbrev pub IsCrowded : List Description → List Match → Ssa → ℕ → ℕ → Type 0
IsCrowded ds matches ssa width size =
    (plans : List (List Pack)) × (width < length plans)
    × Every (λ packs. IsPlanByNodes ds matches ssa packs × (length packs ≡ size)) plans
    × AllDiffer (same_packs (packing ds matches ssa (dependences ssa))) plans

-- In a kernel of at most 256 units a cost is at most that of each plan, which is one by its packs, units
-- and nodes, where no lesser number of packs is crowded.
abbrev pub IsOptimalCost : List Description → List Match → Ssa → ℕ → ℕ → Type 0
IsOptimalCost ds matches ssa width cost =
    length ssa.units ≤ 256 →
    (packs : List Pack) → IsPlanByNodes ds matches ssa packs →
    ((size : ℕ) → size < length packs → IsCrowded ds matches ssa width size → ⊥) →
    cost ≤ cost_of ds matches ssa packs

-- The chosen plan, where the search keeps so many plans of each size. It is a plan by its packs, units and
-- nodes, and costs at most as much as the plain plan, as the empty plan, as a line for each unit and, in a
-- kernel of few units, as any plan where no lesser size is crowded.
pub record IsChosenPlan
    (ds : List Description) (matches : List Match) (ssa : Ssa) (width : ℕ) (packs : List Pack)
    : Type 0 where
  pub table : IsTableOf ds ssa matches
  pub is : packs ≡ chosen_of ds matches ssa (dependences ssa) width
  pub plan : IsPlanByNodes ds matches ssa packs
  pub below_plain : cost_of ds matches ssa packs ≤ cost_of ds matches ssa (plain_of_units ds matches ssa)
  pub below_empty : cost_of ds matches ssa packs ≤ cost_of ds matches ssa []
  pub below_scalar : cost_of ds matches ssa packs ≤ length ssa.units
  pub optimal : IsOptimalCost ds matches ssa width (cost_of ds matches ssa packs)

-- ---- that load groups may feed

-- a plan of aligned store groups, of producers and of load groups that feed, by its packs, units and nodes
abbrev pub IsAlignedFedPlan : List Description → List Match → Ssa → List Pack → Type 0
IsAlignedFedPlan ds matches ssa packs = IsPlanByNodesBy fed_aligned ds matches ssa packs

-- more than so many of them of this number of packs, no two of the same packs
abbrev pub IsCrowdedFed : List Description → List Match → Ssa → ℕ → ℕ → Type 0
IsCrowdedFed ds matches ssa width size =
    (plans : List (List Pack)) × (width < length plans)
    × Every (λ packs. IsAlignedFedPlan ds matches ssa packs × (length packs ≡ size)) plans
    × AllDiffer (same_packs (packing_by fed_aligned ds matches ssa (dependences ssa))) plans

-- In a kernel of at most 256 units a cost is at most that of each of them, where no lesser number of packs
-- is crowded.
abbrev pub IsOptimalFedCost : List Description → List Match → Ssa → ℕ → ℕ → Type 0
IsOptimalFedCost ds matches ssa width cost =
    length ssa.units ≤ 256 →
    (packs : List Pack) → IsAlignedFedPlan ds matches ssa packs →
    ((size : ℕ) → size < length packs → IsCrowdedFed ds matches ssa width size → ⊥) →
    cost ≤ cost_of ds matches ssa packs

-- The chosen fed plan, where the search keeps so many plans of each size. It is a plan by its packs, units
-- and nodes, and costs at most as much as the plain plan of the aligned store groups, as the careful plain
-- plan, as the empty plan, as a line for each unit and, in a kernel of few units, as any fed plan where no
-- lesser size is crowded.
pub record IsChosenFedPlan
    (ds : List Description) (matches : List Match) (ssa : Ssa) (width : ℕ) (packs : List Pack)
    : Type 0 where
  pub table : IsTableOf ds ssa matches
  pub is : packs ≡ chosen_fed_of ds matches ssa (dependences ssa) width
  pub plan : IsAlignedFedPlan ds matches ssa packs
  pub below_plain :
      cost_of ds matches ssa packs
      ≤ cost_of ds matches ssa (aligned_plain_of ds matches ssa (dependences ssa))
  pub below_careful :
      cost_of ds matches ssa packs
      ≤ cost_of ds matches ssa (careful_of ds matches ssa (dependences ssa))
  pub below_empty : cost_of ds matches ssa packs ≤ cost_of ds matches ssa []
  pub below_scalar : cost_of ds matches ssa packs ≤ length ssa.units
  pub optimal : IsOptimalFedCost ds matches ssa width (cost_of ds matches ssa packs)

-- ---- of a kernel

-- a plan of a kernel: the values that are numbered, the matches over which it is a plan, and its packs
pub record KernelPlan : Type 0 where
  pub ssa : Ssa
  pub matches : List Match
  pub packs : List Pack

-- what it costs
abbrev pub price_of : List Description → KernelPlan → ℕ
price_of ds plan = cost_of ds plan.matches plan.ssa plan.packs

-- the values of a kernel, which lanes fit whole alone
abbrev pub AreWhole : Tree → Ssa → Type 0
AreWhole k ssa = IsNumbering k ssa × (ssa.cuts ≡ [])

-- the values of a kernel with their cut terms, which lanes fit whole, cut or turned
abbrev pub AreWide : Tree → Ssa → Type 0
AreWide k ssa = IsNumbering k ssa × HasCuts k ssa

-- The chosen plan over the values of a kernel as they are numbered, where the search keeps so many plans
-- of each size.
pub record IsChosenOver
    (numbered : Tree → Ssa → Type 0) (ds : List Description) (k : Tree) (width : ℕ) (plan : KernelPlan)
    : Type 0 where
  pub values : numbered k plan.ssa
  pub chosen : IsChosenPlan ds plan.matches plan.ssa width plan.packs

-- the chosen plan of a kernel
abbrev pub IsChosenWhole : List Description → Tree → ℕ → KernelPlan → Type 0
IsChosenWhole ds k width plan = IsChosenOver AreWhole ds k width plan

-- the chosen wide plan
abbrev pub IsChosenWide : List Description → Tree → ℕ → KernelPlan → Type 0
IsChosenWide ds k width plan = IsChosenOver AreWide ds k width plan

-- The chosen fed plan over the values of a kernel as they are numbered.
pub record IsChosenFedOver
    (numbered : Tree → Ssa → Type 0) (ds : List Description) (k : Tree) (width : ℕ) (plan : KernelPlan)
    : Type 0 where
  pub values : numbered k plan.ssa
  pub chosen : IsChosenFedPlan ds plan.matches plan.ssa width plan.packs

-- the chosen fed plan, over the values with their cut terms
abbrev pub IsChosenFed : List Description → Tree → ℕ → KernelPlan → Type 0
IsChosenFed ds k width plan = IsChosenFedOver AreWide ds k width plan

-- of two plans the first where it costs no more, else the second
abbrev pub cheaper : List Description → KernelPlan → KernelPlan → KernelPlan
cheaper ds first second = if nat_le (price_of ds first) (price_of ds second) then first else second

-- ---- with more plans

-- The plan that is chosen over one list of the units of a kernel: the first of the least cost of the chosen
-- plan, the chosen wide plan and the chosen fed plan.
pub record IsChosenOf
    (ds : List Description) (k : Tree) (width : ℕ) (rewriting : Rewriting) (plan : KernelPlan)
    : Type 0 where
  pub whole : KernelPlan
  pub wide : KernelPlan
  pub whole_chosen : IsChosenOver (AreWholeBy rewriting) ds k width whole
  pub wide_chosen : IsChosenOver (AreWideBy rewriting) ds k width wide
  pub fed : KernelPlan
  pub fed_chosen : IsChosenFedOver (AreWideBy rewriting) ds k width fed
  pub is : plan ≡ cheaper ds (cheaper ds whole wide) fed

-- that of a list that is planned unless it is too long
abbrev pub IsChosenIfFew : List Description → Tree → ℕ → Rewriting → Option KernelPlan → Type 0
IsChosenIfFew ds k width rewriting None = AreTooMany rewriting k
IsChosenIfFew ds k width rewriting (Some plan) = IsChosenOf ds k width rewriting plan

-- a plan, and over which list of units
pub record ListPlan : Type 0 where
  pub rewriting : Rewriting
  pub plan : KernelPlan

-- the first, or the plan over another list where there is one and it costs less
abbrev pub or_cheaper : List Description → ListPlan → Rewriting → Option KernelPlan → ListPlan
or_cheaper ds first rewriting None = first
or_cheaper ds first rewriting (Some plan) =
    if nat_le (price_of ds first.plan) (price_of ds plan) then first
    else record { rewriting = rewriting; plan = plan }

-- The first of the least cost of the plans that are chosen over a kernel's own units, those repeated, those
-- narrowed, and the narrowed ones repeated; and over which of them it is.
pub record IsChosenMore
    (ds : List Description) (k : Tree) (width : ℕ) (rewriting : Rewriting) (plan : KernelPlan)
    : Type 0 where
  pub own : KernelPlan
  pub repeated : Option KernelPlan
  pub narrowed : Option KernelPlan
  pub both : Option KernelPlan
  pub own_chosen : IsChosenOf ds k width Own own
  pub repeated_chosen : IsChosenIfFew ds k width Repeated repeated
  pub narrowed_chosen : IsChosenIfFew ds k width Narrowed narrowed
  pub both_chosen : IsChosenIfFew ds k width NarrowedRepeated both
  pub is :
      record { rewriting = rewriting; plan = plan }
      ≡ or_cheaper ds
      (or_cheaper ds (or_cheaper ds (record { rewriting = Own; plan = own }) Repeated repeated)
      Narrowed narrowed)
      NarrowedRepeated both

-- the plan that is chosen of a kernel, with more plans or without: then over its own units
abbrev pub IsChosenFor : Bool → List Description → Tree → ℕ → Rewriting → KernelPlan → Type 0
IsChosenFor false ds k width rewriting plan = (rewriting ≡ Own) × IsChosenWhole ds k width plan
IsChosenFor true ds k width rewriting plan = IsChosenMore ds k width rewriting plan
