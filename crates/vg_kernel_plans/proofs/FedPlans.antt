-- Plans in which load groups may feed operands.
use Rattle.std.proofs.Common.{◌≡◌, ◌≤◌, ◌<◌, ℕ, List, [], ◌∷◌, length, refl, subst, inl, inr, arith}
use Rattle.vg_plans.specs.Crowded.{Crowded}
use Rattle.vg_plans.specs.World.{World, follows, plan_cost, same_packs}
use Rattle.vg_plans.proofs.Completed.{below-completed, careful-plan, chosen_fed-plan, completed-plan, fed-below, optimal-fed}
use Rattle.vg_plans.proofs.Disjoint.{at-most-units, one-pack}
use Rattle.vg_plans.proofs.Optimal.{first_least-best}
use Rattle.vg_plans.proofs.Plain.{plain-plan}
use Rattle.vg_plans.proofs.Plans.{go_by_packs}
use Rattle.vg_plans.proofs.Reach.{in-has}
use Rattle.vg_plans.proofs.Trying.{cost-other, plans-other}
use Rattle.vg_plans.specs.Completed.{searched}
use Rattle.vg_shapes.specs.declared.match_table.Match.{Match}
use Rattle.vg_shapes.specs.declared.operand.Operand.{Operand}
use Rattle.vg_shapes.specs.declared.pack.Pack.{Pack}
use Rattle.vg_shapes.specs.declared.ssa.Ssa.{Ssa}
use Rattle.vg_shapes.specs.Description.{Description}
use Rattle.vg_shapes.specs.Pack.{units_of}
use Rattle.vg_kernel_plans.specs.declared.choice.Choice.{Choice}
use Rattle.vg_kernel_plans.specs.Completed.{aligned_plain_of, careful_of, chosen_fed_of, completed_of, turns_of}
use Rattle.vg_kernel_plans.specs.Fed.{IsFedPlanFor, IsPlanBy, fed_aligned, feeders_by, groups_by, packing_by}
use Rattle.vg_kernel_plans.specs.FedLaws.{ChosenFedFits, PlansHold}
use Rattle.vg_kernel_plans.specs.Groups.{store_groups}
use Rattle.vg_kernel_plans.specs.Laws.{cost_of}
use Rattle.vg_kernel_plans.specs.LoadGroups.{feeders}
use Rattle.vg_kernel_plans.specs.Packing.{packing, sizes_of}
use Rattle.vg_kernel_plans.proofs.Inside.{tried-inside_by, units-counted, units-listed}
use Rattle.vg_kernel_plans.proofs.Tried.{is-packing_by, tried-feeders, tried-groups}

module _ (ds : List Description) (matches : List Match) (ssa : Ssa) (deps : List (ℕ × ℕ)) where
  -- whatever is tried, a plan costs the same
  pub same-cost : (c : Choice) (plan : List Pack) → plan_cost (packing_by c ds matches ssa deps) plan ≡ cost_of ds matches ssa deps plan
  same-cost c plan = cost-other (packing ds matches ssa deps) (groups_by c ssa) (feeders_by c ssa) plan

  -- and it may be fed
  pub may-be-fed : (c : Choice) (plan : List Pack) → IsPlanBy c ds matches ssa deps plan → IsFedPlanFor ds matches ssa deps plan
  may-be-fed c plan m =
      plans-other (packing_by c ds matches ssa deps) (store_groups ssa) (feeders ssa)
      (λ p h. tried-groups c ssa p h) (λ o p h. tried-feeders c ssa o p h) plan m

  pub hold-by : (c : Choice) → PlansHold c ds matches ssa deps
  hold-by c =
      let w = packing_by c ds matches ssa deps in
      let is = is-packing_by c ds matches ssa deps in
      record {
        by_packs = go_by_packs w is;
        apart = λ plan m p q v a b t u. one-pack w is plan m p q v a b t u;
        short = λ plan m is_plan.
            let short = at-most-units w is
            (λ p v before h t. units-listed ssa v (tried-inside_by c ds matches ssa deps m before p h v (in-has v (units_of p) t)))
            plan is_plan
            in
            omega (arith, short, units-counted ssa);
        costs = λ plan. same-cost c plan;
        fed = λ plan m. may-be-fed c plan m;
      }

  abbrev world : World Pack Operand Operand
  world = packing_by fed_aligned ds matches ssa deps

  cost-below : (a b : List Pack) → plan_cost world a ≤ plan_cost world b → cost_of ds matches ssa deps a ≤ cost_of ds matches ssa deps b
  cost-below a b l =
      subst (λ n. n ≤ cost_of ds matches ssa deps b) (same-cost fed_aligned a)
      (subst (λ n. plan_cost world a ≤ n) (same-cost fed_aligned b) l)

  pub fed-fits : (width : ℕ) → ChosenFedFits ds matches ssa deps width
  fed-fits width =
      let turns = turns_of ssa in
      let sizes = sizes_of ssa in
      let plain = aligned_plain_of ds matches ssa deps in
      let careful = careful_of ds matches ssa deps in
      let chosen = chosen_fed_of ds matches ssa deps width in
      record {
        plain = plain-plan world turns;
        careful = careful-plan world turns;
        completed = λ plan m. completed-plan world turns plan m;
        plan = chosen_fed-plan world turns width sizes;
        below_scalar = cost-below chosen [] (first_least-best (plan_cost world) [] (plain ∷ careful ∷ searched world turns width sizes));
        below_plain = cost-below chosen plain (fed-below world turns width sizes plain (inl refl));
        below_careful = cost-below chosen careful (fed-below world turns width sizes careful (inr (inl refl)));
        below_completed = λ plan h. cost-below chosen (completed_of ds matches ssa deps plan) (below-completed world turns width sizes plan h);
      }

  pub fed-optimal : (width : ℕ) (plan : List Pack) → IsPlanBy fed_aligned ds matches ssa deps plan → length plan ≤ sizes_of ssa
      → ((e : ℕ) → e < length plan → Crowded (follows world) (same_packs world) width e → ⊥)
      → cost_of ds matches ssa deps (chosen_fed_of ds matches ssa deps width) ≤ cost_of ds matches ssa deps plan
  fed-optimal width plan m short free =
      cost-below (chosen_fed_of ds matches ssa deps width) plan
      (optimal-fed world (is-packing_by fed_aligned ds matches ssa deps) (turns_of ssa) width (sizes_of ssa) plan m short free)
