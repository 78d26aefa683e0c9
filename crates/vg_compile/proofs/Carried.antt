-- What the program of a plan is for a kernel.
use Rattle.std.proofs.Common.{◌≡◌, ◌∙◌, ◌↔◌, ℕ, ◌<◌, ◌≤◌, ◌^◌, List, length, [], ◌∷◌, refl, sym, ap, subst, arith}
use Rattle.vg_program.specs.declared.program.Program.{Program}
use Rattle.vg_program.specs.Cost as program
use Rattle.vg_shapes.specs.declared.match_table.Match.{Match}
use Rattle.vg_shapes.specs.declared.order.Node.{Node}
use Rattle.vg_shapes.specs.declared.pack.Pack.{Pack}
use Rattle.vg_shapes.specs.declared.ssa.Ssa.{Ssa}
use Rattle.vg_shapes.specs.Bindings.{BindsInOrder}
use Rattle.vg_shapes.specs.Depends.{dependences}
use Rattle.vg_shapes.specs.Description.{Description, IsPackable}
use Rattle.vg_shapes.specs.MatchTable.{IsTable}
use Rattle.vg_shapes.specs.Nodes.{IsOrder}
use Rattle.std.specs.List.{AllByRecursion}
use Rattle.vg_plans.specs.Members.{Every}
use Rattle.vg_kernel_plans.specs.Completed.{chosen_fed_of}
use Rattle.vg_kernel_plans.specs.Fed.{IsFedPlanFor, IsPlanBy, fed_aligned, unfed}
use Rattle.vg_kernel_plans.specs.Laws as plans
use Rattle.vg_kernel_plans.specs.Packing.{chosen_of, plain_of}
use Rattle.vg_kernel_plans.proofs.FedPlans.{may-be-fed}
use Rattle.vg_beam.specs.Chosen as found
use Rattle.vg_beam.specs.Chosen.{IsChosen}
use Rattle.vg_emission.specs.Truth.{IsCallable}
use Rattle.vg_gather.specs.Recipes.{planned_program}
use Rattle.vg_plan_laws.specs.Laws.{AreKnown}
use Rattle.vg_plan_laws.proofs.Chosen.{kernels-are-small}
use Rattle.vg_plan_laws.proofs.Packs.{match-units}
use Rattle.vg_plan_laws.proofs.Programs.{programs-call, programs-cost, programs-keep-rules, programs-mean}
use Rattle.vg_plan_relations.specs.Plans.{IsPlanByNodes}
use Rattle.vg_plan_relations.proofs.Planning.{plans-by-nodes, plans-by-nodes-by}
use Rattle.vg_compile.specs.Chosen.{IsChosenPlan, IsChosenFedPlan, IsCrowded, IsCrowdedFed, IsAlignedFedPlan, IsTableOf}
use Rattle.vg_compile.specs.Emitted.{IsEmitted, IsProgramFor, IsProgramOver}
use Rattle.vg_compile.specs.Planned.{IsPlanned}
use Rattle.vg_compile.proofs.EmptyPlan.{empty-cost}

-- what is chosen of the plans of a kernel, by a list of all dependences
pub record IsPicked (ds : List Description) (matches : List Match) (ssa : Ssa) (width : ℕ) (packs : List Pack) : Type 0 where
  pub is : packs ≡ chosen_of ds matches ssa (dependences ssa) width
  pub chosen : IsChosen ds matches ssa (dependences ssa) width packs

pub picked-by : (ds : List Description) (matches : List Match) (ssa : Ssa) (deps : List (ℕ × ℕ)) (width : ℕ)
    (packs : List Pack)
    → deps ≡ dependences ssa → packs ≡ chosen_of ds matches ssa deps width → IsChosen ds matches ssa deps width packs
    → IsPicked ds matches ssa width packs
picked-by ds matches ssa deps width packs e is chosen = record {
  is = subst (λ d. packs ≡ chosen_of ds matches ssa d width) e is;
  chosen = subst (λ d. IsChosen ds matches ssa d width packs) e chosen;
}

-- what is chosen of the fed plans, by a list of all dependences
pub record IsPickedFed (ds : List Description) (matches : List Match) (ssa : Ssa) (width : ℕ) (packs : List Pack) : Type 0 where
  pub is : packs ≡ chosen_fed_of ds matches ssa (dependences ssa) width
  pub chosen : found.IsChosenFed ds matches ssa (dependences ssa) width packs

pub picked-fed-by : (ds : List Description) (matches : List Match) (ssa : Ssa) (deps : List (ℕ × ℕ)) (width : ℕ)
    (packs : List Pack)
    → deps ≡ dependences ssa → packs ≡ chosen_fed_of ds matches ssa deps width
    → found.IsChosenFed ds matches ssa deps width packs
    → IsPickedFed ds matches ssa width packs
picked-fed-by ds matches ssa deps width packs e is chosen = record {
  is = subst (λ d. packs ≡ chosen_fed_of ds matches ssa d width) e is;
  chosen = subst (λ d. found.IsChosenFed ds matches ssa d width packs) e chosen;
}

-- ---- plans by their packs, units and nodes

packable : (ds : List Description) → AllByRecursion IsCallable ds → AllByRecursion IsPackable ds
packable [] all = tt
packable (d ∷ ds) all = (all.0.packable, packable ds all.1)

pub by-nodes : (ds : List Description) (matches : List Match) (ssa : Ssa) → AreKnown ds matches ssa
    → (packs : List Pack) → plans.IsPlanFor ds matches ssa (dependences ssa) packs ↔ IsPlanByNodes ds matches ssa packs
by-nodes ds matches ssa known packs = plans-by-nodes ds matches ssa packs (packable ds known.described) known.matched

pub fed-by-nodes : (ds : List Description) (matches : List Match) (ssa : Ssa) → AreKnown ds matches ssa
    → (packs : List Pack)
    → IsPlanBy fed_aligned ds matches ssa (dependences ssa) packs ↔ IsAlignedFedPlan ds matches ssa packs
fed-by-nodes ds matches ssa known packs = plans-by-nodes-by fed_aligned ds matches ssa packs (packable ds known.described) known.matched

each : {X : Type 0} (P Q : X → Type 0) → ((x : X) → P x → Q x) → (xs : List X) → Every P xs → Every Q xs
each P Q f [] all = tt
each P Q f (x ∷ xs) all = (f x all.0, each P Q f xs all.1)

crowded-by-nodes : (ds : List Description) (matches : List Match) (ssa : Ssa) (width size : ℕ) → AreKnown ds matches ssa
    → found.IsCrowded ds matches ssa (dependences ssa) width size → IsCrowded ds matches ssa width size
crowded-by-nodes ds matches ssa width size known (many, more, are, differ) =
    (many, more, each _ _ (λ packs is. ((by-nodes ds matches ssa known packs).0 is.0, is.1)) many are, differ)

crowded-fed : (ds : List Description) (matches : List Match) (ssa : Ssa) (width size : ℕ) → AreKnown ds matches ssa
    → found.IsCrowdedFed ds matches ssa (dependences ssa) width size → IsCrowdedFed ds matches ssa width size
crowded-fed ds matches ssa width size known (many, more, are, differ) =
    (many, more, each _ _ (λ packs is. ((fed-by-nodes ds matches ssa known packs).0 is.0, is.1)) many are, differ)

-- the chosen plan, by the list of all dependences
pub chosen-plan : (ds : List Description) (matches : List Match) (ssa : Ssa) (width : ℕ) (packs : List Pack)
    → AreKnown ds matches ssa → IsTable matches → AllByRecursion (BindsInOrder ds) matches
    → IsPicked ds matches ssa width packs
    → IsChosenPlan ds matches ssa width packs
chosen-plan ds matches ssa width packs known ordered bindings picked =
    let chosen = picked.chosen in
    record {
      table = record { matched = known.matched; ordered = ordered; bindings = bindings };
      is = picked.is;
      plan = (by-nodes ds matches ssa known packs).0 chosen.plan;
      below_plain = chosen.below_plain;
      below_empty = chosen.below_scalar;
      below_scalar = omega (arith, chosen.below_scalar, empty-cost ds matches ssa (dependences ssa));
      optimal = λ few plan is uncrowded.
          chosen.optimal (match-units ds matches ssa known.sound known.matched) few plan ((by-nodes ds matches ssa known plan).1 is)
          (λ size less crowded. uncrowded size less (crowded-by-nodes ds matches ssa width size known crowded));
    }

-- the chosen fed plan, by the list of all dependences
pub chosen-fed-plan : (ds : List Description) (matches : List Match) (ssa : Ssa) (width : ℕ) (packs : List Pack)
    → AreKnown ds matches ssa → IsTableOf ds ssa matches → IsPickedFed ds matches ssa width packs
    → IsChosenFedPlan ds matches ssa width packs
chosen-fed-plan ds matches ssa width packs known table picked =
    let chosen = picked.chosen in
    record {
      table = table;
      is = picked.is;
      plan = (fed-by-nodes ds matches ssa known packs).0 chosen.plan;
      below_plain = chosen.below_plain;
      below_careful = chosen.below_careful;
      below_empty = chosen.below_scalar;
      below_scalar = omega (arith, chosen.below_scalar, empty-cost ds matches ssa (dependences ssa));
      optimal = λ few plan is uncrowded.
          chosen.optimal (match-units ds matches ssa known.sound known.matched) few plan ((fed-by-nodes ds matches ssa known plan).1 is)
          (λ size less crowded. uncrowded size less (crowded-fed ds matches ssa width size known crowded));
    }

-- it grows from the empty one
grows : (ds : List Description) (matches : List Match) (ssa : Ssa) (width : ℕ) (packs : List Pack)
    → AreKnown ds matches ssa → IsChosenPlan ds matches ssa width packs
    → plans.IsPlanFor ds matches ssa (dependences ssa) packs
grows ds matches ssa width packs known chosen = (by-nodes ds matches ssa known packs).1 chosen.plan

-- so it is one of the plans that may be fed
pub may-feed : (ds : List Description) (matches : List Match) (ssa : Ssa) (width : ℕ) (packs : List Pack)
    → AreKnown ds matches ssa → IsChosenPlan ds matches ssa width packs
    → IsFedPlanFor ds matches ssa (dependences ssa) packs
may-feed ds matches ssa width packs known chosen =
    may-be-fed ds matches ssa (dependences ssa) unfed packs (grows ds matches ssa width packs known chosen)

pub fed-may-feed : (ds : List Description) (matches : List Match) (ssa : Ssa) (width : ℕ) (packs : List Pack)
    → AreKnown ds matches ssa → IsChosenFedPlan ds matches ssa width packs
    → IsFedPlanFor ds matches ssa (dependences ssa) packs
fed-may-feed ds matches ssa width packs known chosen =
    may-be-fed ds matches ssa (dependences ssa) fed_aligned packs ((fed-by-nodes ds matches ssa known packs).1 chosen.plan)

pub plan-grows : (ds : List Description) (matches : List Match) (ssa : Ssa) (deps : List (ℕ × ℕ)) (width : ℕ)
    (packs : List Pack)
    → AreKnown ds matches ssa → deps ≡ dependences ssa → IsChosenPlan ds matches ssa width packs
    → IsFedPlanFor ds matches ssa deps packs
plan-grows ds matches ssa deps width packs known e chosen =
    subst (λ d. IsFedPlanFor ds matches ssa d packs) (sym e) (may-feed ds matches ssa width packs known chosen)

-- ---- programs

-- the program of a plan in a legal order, where it costs at most a line for each unit
is-program : (ds : List Description) (matches : List Match) (ssa : Ssa) (packs : List Pack) (order : List Node)
    → AreKnown ds matches ssa → IsFedPlanFor ds matches ssa (dependences ssa) packs
    → plans.cost_of ds matches ssa (dependences ssa) packs ≤ length ssa.units
    → IsOrder ssa matches packs order → IsProgramOver ds ssa (planned_program ds matches ssa packs order)
is-program ds matches ssa packs order known plan most is =
    let deps = dependences ssa in
    let costs = programs-cost ds matches ssa deps packs order known plan is in
    let below : plans.cost_of ds matches ssa deps packs < 2 ^ 32 = omega (arith, most, kernels-are-small ssa known.sound) in
    record {
      name = refl;
      params = refl;
      scalar = refl;
      means = λ called true. programs-mean called ds matches ssa deps packs order known true plan is;
      rules = λ headers have. programs-keep-rules headers ds matches ssa deps packs order known have plan is below;
      calls = λ headers have. programs-call headers ds matches ssa deps packs order known have plan is;
      cost = omega (arith, costs, most);
    }

pub emitted-is : (ds : List Description) (matches : List Match) (ssa : Ssa) (packs : List Pack) (p : Program)
    → AreKnown ds matches ssa → IsFedPlanFor ds matches ssa (dependences ssa) packs
    → plans.cost_of ds matches ssa (dependences ssa) packs ≤ length ssa.units
    → IsEmitted ds matches ssa packs p → IsProgramOver ds ssa p
emitted-is ds matches ssa packs p known plan most (order, is, put, e) =
    subst (IsProgramOver ds ssa) (sym e) (is-program ds matches ssa packs order known plan most is)

-- what it costs
pub emitted-cost : (ds : List Description) (matches : List Match) (ssa : Ssa) (packs : List Pack) (p : Program)
    → AreKnown ds matches ssa → IsFedPlanFor ds matches ssa (dependences ssa) packs → IsEmitted ds matches ssa packs p
    → program.cost_of p ≡ plans.cost_of ds matches ssa (dependences ssa) packs
emitted-cost ds matches ssa packs p known plan (order, is, put, e) =
    ap program.cost_of e ∙ programs-cost ds matches ssa (dependences ssa) packs order known plan is

-- the program of the chosen plan
pub emitted-for : (ds : List Description) (matches : List Match) (ssa : Ssa) (width : ℕ) (packs : List Pack)
    (p : Program)
    → AreKnown ds matches ssa → IsChosenPlan ds matches ssa width packs → IsEmitted ds matches ssa packs p
    → IsProgramFor ds ssa width p
emitted-for ds matches ssa width packs p known chosen emitted =
    let plan = may-feed ds matches ssa width packs known chosen in
    record {
      program = emitted-is ds matches ssa packs p known plan chosen.below_scalar emitted;
      chosen = record {
        matches = matches;
        packs = packs;
        chosen = chosen;
        emitted = emitted;
        cost = emitted-cost ds matches ssa packs p known plan emitted;
      };
    }

-- what is told of the plan
pub planned-is : (ds : List Description) (matches : List Match) (ssa : Ssa) (width : ℕ) (packs : List Pack)
    (cost plain : ℕ)
    → IsChosenPlan ds matches ssa width packs
    → cost ≡ plans.cost_of ds matches ssa (dependences ssa) packs
    → plain ≡ plans.cost_of ds matches ssa (dependences ssa) (plain_of ds matches ssa (dependences ssa))
    → IsPlanned ds matches ssa width packs cost plain
planned-is ds matches ssa width packs cost plain chosen e f =
    let below = chosen.below_plain in
    let few = chosen.below_scalar in
    record {
      chosen = chosen;
      costs = e;
      plain_costs = f;
      below_plain = omega (arith, e, f, below);
      below_scalar = omega (arith, e, few);
    }
