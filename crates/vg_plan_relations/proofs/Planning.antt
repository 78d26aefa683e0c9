-- A plan that grows by packs that may follow is a plan by its packs, units and nodes, and the other
-- way, by each choice of the packs that are tried.
use Rattle.std.proofs.Common.{◌≡◌, true, List, [], ◌∷◌, ◌++◌, refl, sym, ◌∙◌, ap, subst, inl, inr, append_assoc, append-nil}
use Rattle.std.specs.Prelude.{not}
use Rattle.std.specs.List.{AllByRecursion, list_any}
use Rattle.std.proofs.lemmas.Bool.{cases_Bool}
use Rattle.vg_plans.specs.Crowded.{empty, more}
use Rattle.vg_plans.specs.Members.{Has}
use Rattle.vg_plans.specs.World.{follows, has_no_cycle, is_in, is_packed, stays_plan, tried}
use Rattle.vg_plans.proofs.Disjoint.{apart}
use Rattle.vg_plans.proofs.Members.{any-found, any-is, around, from-filter, has-filter}
use Rattle.vg_plans.proofs.Reach.{has-in, in-has}
use Rattle.vg_plans.proofs.Trying.{cycle-other}
use Rattle.vg_shapes.specs.declared.match_table.Match.{Match}
use Rattle.vg_shapes.specs.declared.operand.Operand.{Operand}
use Rattle.vg_shapes.specs.declared.pack.Pack.{Pack}
use Rattle.vg_shapes.specs.declared.ssa.Ssa.{Ssa}
use Rattle.vg_shapes.specs.Depends.{dependences}
use Rattle.vg_shapes.specs.Description.{Description, IsPackable}
use Rattle.vg_shapes.specs.Matches.{AreMatches}
use Rattle.vg_shapes.specs.Pack.{units_of}
use Rattle.vg_kernel_plans.specs.declared.choice.Choice.{Choice}
use Rattle.vg_kernel_plans.specs.Fed.{IsPlanBy, feeders_by, groups_by, packing_by, unfed}
use Rattle.vg_kernel_plans.specs.Laws.{IsPlanFor}
use Rattle.vg_kernel_plans.specs.Packing.{packing}
use Rattle.vg_kernel_plans.specs.Taken.{operands_of}
use Rattle.vg_kernel_plans.proofs.FedPlans.{may-be-fed}
use Rattle.vg_kernel_plans.proofs.Tried.{is-packing_by}
use Rattle.vg_order.proofs.AllDependences.{dependences-give_orders, dependences-name_units}
use Rattle.vg_plan_orders.proofs.Cycles.{plans-have-no-cycle}
use Rattle.vg_plan_relations.specs.Laws.{PlansArePlansByNodes, PlansByChoiceArePlansByNodes, PlansByNodesMayBeFed}
use Rattle.vg_plan_relations.specs.Plans.{IsFedPlanByNodes, IsPlanByNodes, IsPlanByNodesBy}
use Rattle.vg_plan_relations.specs.Produces.{AreRising}
use Rattle.vg_plan_relations.proofs.Exact.{and-true}
use Rattle.vg_plan_relations.proofs.Prefixes.{at-pack, prefix-plan}
use Rattle.vg_plan_relations.proofs.Tries.{any-feeds, any-group, may-tried, pack-rises, tried-may}
use Rattle.vg_plan_relations.proofs.Waiting.{cycle-from}

module _ (c : Choice) (ds : List Description) (matches : List Match) (ssa : Ssa)
    (packable : AllByRecursion IsPackable ds) (are : AreMatches ds ssa matches) where
  -- ---- from a plan that grows

  pub grown-by : (plan : List Pack) → IsPlanBy c ds matches ssa (dependences ssa) plan
      → IsPlanByNodesBy c ds matches ssa plan
  grown-by plan is =
      let w = packing_by c ds matches ssa (dependences ssa) in
      record {
        made = λ before after p e.
            let h = at-pack (follows w) plan is before after p e in
            tried-may ds matches ssa packable are c before p (from-filter (stays_plan w before) p (tried w before) h).0;
        apart = λ before after p e q v hq u t.
            let h = at-pack (follows w) plan is before after p e in
            let no = apart w (is-packing_by c ds matches ssa (dependences ssa)) before p h v (has-in v (units_of p) t) in
            let yes : is_packed w before v ≡ true = any-is (λ x. is_in v (units_of x)) q before hq (has-in v (units_of q) u) in
            (cc);
        free = λ before after e cycle k.
            let names = dependences-name_units ssa in
            let part = prefix-plan (follows w) plan is before after e in
            plans-have-no-cycle ds matches ssa (dependences ssa) before cycle names.0 names.1
            (may-be-fed ds matches ssa (dependences ssa) c before part) ((dependences-give_orders ssa matches before cycle).1.1 k);
      }

  -- ---- from a plan by nodes

  module _ (packs : List Pack) (is : IsPlanByNodesBy c ds matches ssa packs) where
    -- the operands of a pack of a prefix rise
    prefix-rises : (done left : List Pack) → packs ≡ done ++ left → (q : Pack) (o : Operand) → Has q done
        → Has o (operands_of ds matches ssa q) → AreRising o.slots
    prefix-rises done left e q o hq ho =
        let k = around q done hq in
        let cut : packs ≡ k.before ++ q ∷ (k.after ++ left) = e ∙ ap (λ l. l ++ left) k.is ∙ append_assoc k.before (q ∷ k.after) left in
        pack-rises ds matches ssa packable are c k.before q o (is.made k.before (k.after ++ left) q cut) ho

    new-units : (done left : List Pack) (p : Pack) → packs ≡ done ++ p ∷ left
        → not (list_any (is_packed (packing_by c ds matches ssa (dependences ssa)) done) (units_of p)) ≡ true
    new-units done left p e =
        let w = packing_by c ds matches ssa (dependences ssa) in
        elim (cases_Bool (list_any (is_packed w done) (units_of p))) [
          | inr f ↦ ap not f
          | inl t ↦ absurd (
              let k = any-found (is_packed w done) (units_of p) t in
              let q = any-found (λ x. is_in k.0 (units_of x)) done k.2 in
              is.apart done left p e q.0 k.0 q.1 (in-has k.0 (units_of q.0) q.2) k.1)
        ]

    no-cycle : (done left : List Pack) → packs ≡ done ++ left
        → has_no_cycle (packing_by c ds matches ssa (dependences ssa)) done ≡ true
    no-cycle done left e =
        let w = packing ds matches ssa (dependences ssa) in
        elim (cases_Bool (has_no_cycle w done)) [
          | inl t ↦ cycle-other w (groups_by c ssa) (feeders_by c ssa) done ∙ t
          | inr f ↦ absurd (let k = cycle-from ds matches ssa done f in is.free done left e k.0 k.1)
        ]

    grow : (left done : List Pack) → packs ≡ done ++ left → IsPlanBy c ds matches ssa (dependences ssa) done
        → IsPlanBy c ds matches ssa (dependences ssa) packs
    grow [] done e plan = subst (IsPlanBy c ds matches ssa (dependences ssa)) (sym (e ∙ append-nil done)) plan
    grow (p ∷ left) done e plan =
        let w = packing_by c ds matches ssa (dependences ssa) in
        let next : packs ≡ (done ++ p ∷ []) ++ left = e ∙ sym (append_assoc done (p ∷ []) left) in
        let there = may-tried ds matches ssa packable are c done p (prefix-rises done (p ∷ left) e) (is.made done left p e) in
        let stays : stays_plan w done p ≡ true = and-true _ _ (new-units done left p e) (no-cycle (done ++ p ∷ []) left next) in
        grow left (done ++ p ∷ []) next (more done p plan (has-filter (stays_plan w done) p (tried w done) there stays))

    pub nodes-by : IsPlanBy c ds matches ssa (dependences ssa) packs
    nodes-by = grow packs [] refl empty

pub plans-by-nodes-by : PlansByChoiceArePlansByNodes
plans-by-nodes-by c ds matches ssa plan packable are = (
  grown-by c ds matches ssa packable are plan,
  nodes-by c ds matches ssa packable are plan,
)

-- ---- without feeding, and with all that feeds

module _ (ds : List Description) (matches : List Match) (ssa : Ssa) (plan : List Pack) where
  pub to-unfed : IsPlanByNodes ds matches ssa plan → IsPlanByNodesBy unfed ds matches ssa plan
  to-unfed is = record {
    made = λ before after p e. elim (is.made before after p e) [ inl g ↦ inl g | inr k ↦ inr (inl k) ];
    apart = is.apart;
    free = is.free;
  }

  pub from-unfed : IsPlanByNodesBy unfed ds matches ssa plan → IsPlanByNodes ds matches ssa plan
  from-unfed is = record {
    made = λ before after p e. elim (is.made before after p e) [
      | inl g ↦ inl g
      | inr k ↦ elim k [ inl m ↦ inr m | inr n ↦ absurd n ]
    ];
    apart = is.apart;
    free = is.free;
  }

  pub to-fed : (c : Choice) → IsPlanByNodesBy c ds matches ssa plan → IsFedPlanByNodes ds matches ssa plan
  to-fed c is = record {
    made = λ before after p e. elim (is.made before after p e) [
      | inl g ↦ inl (any-group c.aligned ssa p g)
      | inr k ↦ elim k [
        | inl m ↦ inr (inl m)
        | inr f ↦ inr (inr (any-feeds ds matches ssa c.fed before p f))
      ]
    ];
    apart = is.apart;
    free = is.free;
  }

pub may-be-fed-by-nodes : PlansByNodesMayBeFed
may-be-fed-by-nodes = record {
  not_fed = λ ds matches ssa plan. (to-unfed ds matches ssa plan, from-unfed ds matches ssa plan);
  may_be_fed = λ c ds matches ssa plan is. to-fed ds matches ssa plan c is;
}

pub grown-nodes : (ds : List Description) (matches : List Match) (ssa : Ssa) → AllByRecursion IsPackable ds
    → AreMatches ds ssa matches → (plan : List Pack) → IsPlanFor ds matches ssa (dependences ssa) plan
    → IsPlanByNodes ds matches ssa plan
grown-nodes ds matches ssa packable are plan is =
    from-unfed ds matches ssa plan (grown-by unfed ds matches ssa packable are plan is)

pub plans-by-nodes : PlansArePlansByNodes
plans-by-nodes ds matches ssa plan packable are = (
  grown-nodes ds matches ssa packable are plan,
  λ is. nodes-by unfed ds matches ssa packable are plan (to-unfed ds matches ssa plan is),
)
