-- The plan that is chosen of a kernel with more plans, and without.
use Rattle.std.proofs.Common.{◌≡◌, ◌∙◌, ◌⊎◌, ℕ, ◌≤◌, ◌<◌, Bool, true, false, List, length, refl, sym, ap, ap₂, subst, inl, inr, arith}
use Rattle.std.specs.Prelude.{◌&&◌, nat_le, nat_lt, Option, Some, None, if◌then◌else◌}
use Rattle.std.proofs.lemmas.Bool.Decides.{nat_tests}
use Rattle.vg_kernel.specs.Cost.{scalar_cost}
use Rattle.vg_kernel.specs.Tree.{Tree}
use Rattle.vg_program.specs.Cost as programs
use Rattle.vg_shapes.specs.declared.match_table.Match.{Match}
use Rattle.vg_shapes.specs.declared.pack.Pack.{Pack}
use Rattle.vg_shapes.specs.declared.ssa.Ssa.{Ssa}
use Rattle.vg_shapes.specs.Depends.{dependences}
use Rattle.vg_shapes.specs.Description.{Description}
use Rattle.vg_shapes.specs.Sound.{IsSound}
use Rattle.vg_ssa.specs.Numbering.{IsNumbering}
use Rattle.vg_ssa.proofs.Counts.{units-are_the_cost}
use Rattle.vg_descriptions.specs.Descriptions.{descriptions}
use Rattle.vg_compile.specs.declared.more_plans.FedPlan.{FedPlan}
use Rattle.vg_compile.specs.declared.more_plans.PlannedValues.{PlannedValues}
use Rattle.vg_compile.specs.declared.rewriting.Rewriting.{Rewriting}
use Rattle.vg_compile.specs.declared.rewriting.Rewriting.TheVariants.{Own, Repeated, Narrowed, NarrowedRepeated}
use Rattle.vg_compile.specs.Chosen.{IsChosenPlan, IsChosenFedPlan, KernelPlan, ListPlan, cost_of, price_of, AreWhole, IsChosenFed, IsChosenIfFew, IsChosenMore, IsChosenOf, cheaper, or_cheaper}
use Rattle.vg_kernel_plans.specs.Completed.{completed_of}
use Rattle.vg_kernel_plans.proofs.FedPlans.{fed-fits}
use Rattle.vg_compile.specs.Laws.{IsKeptFed, MorePlansCostNoMore}
use Rattle.vg_compile.specs.Listed.{AreUncut, IsPlannedList}
use Rattle.vg_compile.specs.Planned.{IsPlanned, IsPlannedFor, plan_seen, with_plan}

-- ---- the cheapest of three

pub at-most : (x y : ℕ) → nat_le x y ≡ true → x ≤ y
at-most x y t = grind (arith, nat_tests, t)

pub more-than : (x y : ℕ) → nat_le x y ≡ false → y ≤ x
more-than x y f = grind (arith, nat_tests, f)

pub not-more : (x y : ℕ) → nat_le x y ≡ false → y < x
not-more x y f = grind (arith, nat_tests, f)

below : (x y : ℕ) → nat_lt x y ≡ true → x < y
below x y t = grind (arith, nat_tests, t)

less-than : (x y : ℕ) → nat_lt x y ≡ false → y ≤ x
less-than x y f = grind (arith, nat_tests, f)

least-of : {X : Type 0} (f : X → ℕ) (a b : X) (t : Bool) → nat_le (f a) (f b) ≡ t
    → (f (if t then a else b) ≤ f a) × (f (if t then a else b) ≤ f b)
least-of f a b true e = (omega arith, at-most (f a) (f b) e)
least-of f a b false e = (more-than (f a) (f b) e, omega arith)

pub cheaper-below : (ds : List Description) (a b : KernelPlan)
    → (price_of ds (cheaper ds a b) ≤ price_of ds a) × (price_of ds (cheaper ds a b) ≤ price_of ds b)
cheaper-below ds a b = least-of (price_of ds) a b _ refl

-- what holds of both holds of it
either : (P : KernelPlan → Type 0) (a b : KernelPlan) (t : Bool) → P a → P b → P (if t then a else b)
either P a b true x y = x
either P a b false x y = y

pub among : (P : KernelPlan → Type 0) (ds : List Description) (a b c : KernelPlan) → P a → P b → P c
    → P (cheaper ds (cheaper ds a b) c)
among P ds a b c x y z = either P (cheaper ds a b) c _ (either P a b _ x y) z

-- a chosen plan of its values, or a chosen fed plan of them
abbrev pub IsOneOf : List Description → ℕ → KernelPlan → Type 0
IsOneOf ds width plan =
    IsChosenPlan ds plan.matches plan.ssa width plan.packs
    ⊎ IsChosenFedPlan ds plan.matches plan.ssa width plan.packs

pub list-one : (ds : List Description) (k : Tree) (width : ℕ) (rewriting : Rewriting) (plan : KernelPlan)
    → IsChosenOf ds k width rewriting plan → IsOneOf ds width plan
list-one ds k width rewriting plan list =
    subst (IsOneOf ds width) (sym list.is)
    (among (IsOneOf ds width) ds list.whole list.wide list.fed (inl list.whole_chosen.chosen) (inl list.wide_chosen.chosen) (inr list.fed_chosen.chosen))

-- the lesser of a plan and that over another list, if there is one, is one of both
or-one : (ds : List Description) (k : Tree) (width : ℕ) (first : ListPlan) (rewriting : Rewriting)
    (other : Option KernelPlan)
    → IsOneOf ds width first.plan → IsChosenIfFew ds k width rewriting other
    → IsOneOf ds width (or_cheaper ds first rewriting other).plan
or-one ds k width first rewriting None one few = one
or-one ds k width first rewriting (Some plan) one list = by (nat_le (price_of ds first.plan) (price_of ds plan))
  where
    by : (t : Bool) → IsOneOf ds width (if t then first else record { rewriting = rewriting; plan = plan }).plan
    by true = one
    by false = list-one ds k width rewriting plan list

pub more-chosen : (ds : List Description) (k : Tree) (width : ℕ) (rewriting : Rewriting) (plan : KernelPlan)
    → IsChosenMore ds k width rewriting plan → IsOneOf ds width plan
more-chosen ds k width rewriting plan more =
    let own : ListPlan = record { rewriting = Own; plan = more.own } in
    let two = or_cheaper ds own Repeated more.repeated in
    let three = or_cheaper ds two Narrowed more.narrowed in
    subst (λ (l : ListPlan). IsOneOf ds width l.plan) (sym more.is)
    (or-one ds k width three NarrowedRepeated more.both
    (or-one ds k width two Narrowed more.narrowed
    (or-one ds k width own Repeated more.repeated (list-one ds k width Own more.own more.own_chosen) more.repeated_chosen)
    more.narrowed_chosen)
    more.both_chosen)

-- ---- what it costs

or-below : (ds : List Description) (first : ListPlan) (rewriting : Rewriting) (other : Option KernelPlan)
    → price_of ds (or_cheaper ds first rewriting other).plan ≤ price_of ds first.plan
or-below ds first rewriting None = omega arith
or-below ds first rewriting (Some plan) = by (nat_le (price_of ds first.plan) (price_of ds plan)) refl
  where
    by : (t : Bool) → nat_le (price_of ds first.plan) (price_of ds plan) ≡ t
        → price_of ds (if t then first else record { rewriting = rewriting; plan = plan }).plan ≤ price_of ds first.plan
    by true e = omega arith
    by false e = more-than (price_of ds first.plan) (price_of ds plan) e

-- of four lists at most what the plan over the first costs
pub first-below : (ds : List Description) (first : ListPlan) (a b c : Option KernelPlan)
    → price_of ds (or_cheaper ds (or_cheaper ds (or_cheaper ds first Repeated a) Narrowed b) NarrowedRepeated c).plan ≤ price_of ds first.plan
first-below ds first a b c =
    let two = or_cheaper ds first Repeated a in
    let three = or_cheaper ds two Narrowed b in
    omega (arith, or-below ds first Repeated a, or-below ds two Narrowed b, or-below ds three NarrowedRepeated c)

pub more-below : (ds : List Description) (k : Tree) (width : ℕ) (rewriting : Rewriting) (plan : KernelPlan)
    (more : IsChosenMore ds k width rewriting plan)
    → price_of ds plan ≤ price_of ds more.own
more-below ds k width rewriting plan more =
    let all = first-below ds (record { rewriting = Own; plan = more.own }) more.repeated more.narrowed more.both in
    let same = ap (λ (l : ListPlan). price_of ds l.plan) more.is in
    omega (arith, all, same)

-- of three, by one test of the third and one of the first two
first-of : {X : Type 0} (f : X → ℕ) (a b c : X) (s t u v : Bool)
    → nat_le (f a) (f b) ≡ s → nat_le (f (if s then a else b)) (f c) ≡ t → nat_lt (f c) (f a) ≡ u
    → nat_lt (f c) (f b) ≡ v
    → (if t then (if s then a else b) else c) ≡ (if u && v then c else if s then a else b)
first-of f a b c s t false v e g h k = by s t e g
  where
    by : (s t : Bool) → nat_le (f a) (f b) ≡ s → nat_le (f (if s then a else b)) (f c) ≡ t
        → (if t then (if s then a else b) else c) ≡ (if s then a else b)
    by s true e g = refl
    by true false e g = absurd (let l = less-than (f c) (f a) h in let m = more-than (f a) (f c) g in let n = not-more (f a) (f c) g in omega (arith, l, n))
    by false false e g = absurd (let l = less-than (f c) (f a) h in let m = not-more (f a) (f b) e in let n = not-more (f b) (f c) g in omega (arith, l, m, n))
first-of f a b c s t true false e g h k = by s t e g
  where
    by : (s t : Bool) → nat_le (f a) (f b) ≡ s → nat_le (f (if s then a else b)) (f c) ≡ t
        → (if t then (if s then a else b) else c) ≡ (if s then a else b)
    by s true e g = refl
    by true false e g = absurd (let l = less-than (f c) (f b) k in let m = at-most (f a) (f b) e in let n = not-more (f a) (f c) g in omega (arith, l, m, n))
    by false false e g = absurd (let l = less-than (f c) (f b) k in let n = not-more (f b) (f c) g in omega (arith, l, n))
first-of f a b c s t true true e g h k = by s t e g
  where
    by : (s t : Bool) → nat_le (f a) (f b) ≡ s → nat_le (f (if s then a else b)) (f c) ≡ t
        → (if t then (if s then a else b) else c) ≡ c
    by s false e g = refl
    by true true e g = absurd (let l = below (f c) (f a) h in let n = at-most (f a) (f c) g in omega (arith, l, n))
    by false true e g = absurd (let l = below (f c) (f b) k in let n = at-most (f b) (f c) g in omega (arith, l, n))

cheapest-is : (ds : List Description) (a b c : KernelPlan)
    → cheaper ds (cheaper ds a b) c
    ≡ (if nat_lt (price_of ds c) (price_of ds a) && nat_lt (price_of ds c) (price_of ds b) then c else if nat_le (price_of ds a) (price_of ds b) then a else b)
cheapest-is ds a b c = first-of (price_of ds) a b c _ _ _ _ refl refl refl refl

-- ---- the three searches

-- a chosen plan over sound values
pub record IsValued (ds : List Description) (width : ℕ) (v : PlannedValues) : Type 0 where
  pub sound : IsSound v.ssa
  pub planned : IsPlanned ds v.planned.chosen.table v.ssa width v.planned.chosen.plan v.planned.cost v.planned.plain
  pub deps : v.planned.chosen.deps ≡ dependences v.ssa

pub valued : (ds : List Description) (width : ℕ) (ssa : Ssa) (v : PlannedValues) → IsSound ssa → v.ssa ≡ ssa
    → IsPlanned ds v.planned.chosen.table ssa width v.planned.chosen.plan v.planned.cost v.planned.plain
    → v.planned.chosen.deps ≡ dependences ssa
    → IsValued ds width v
valued ds width ssa v sound same planned deps = record {
  sound = subst IsSound (sym same) sound;
  planned = subst (λ s. IsPlanned ds v.planned.chosen.table s width v.planned.chosen.plan v.planned.cost v.planned.plain) (sym same) planned;
  deps = deps ∙ ap dependences (sym same);
}

pub units-cost : (k : Tree) (ssa : Ssa) → IsNumbering k ssa → length ssa.units ≡ scalar_cost k
units-cost k ssa is = ap (λ us. length us) is.units ∙ units-are_the_cost k

-- the chosen fed plan of values, and what it costs
pub record IsFedOf (ds : List Description) (width : ℕ) (v : PlannedValues) (f : FedPlan) : Type 0 where
  pub chosen : IsChosenFedPlan ds v.planned.chosen.table v.ssa width f.plan
  pub cost : f.cost ≡ cost_of ds v.planned.chosen.table v.ssa f.plan

module _ (ds : List Description) (width : ℕ) (values : Ssa) (a b : PlannedValues) (f : FedPlan)
    (uncut : AreUncut values a.ssa) (same : b.ssa ≡ values) (whole : IsValued ds width a) (wide : IsValued ds width b) (fed : IsFedOf ds width b f) where
  abbrev c : PlannedValues
  c = with_plan b f

  -- the tests of the code are those of the prices
  tests : (u v s : Bool) → nat_lt f.cost a.planned.cost ≡ u → nat_lt f.cost b.planned.cost ≡ v
      → nat_le a.planned.cost b.planned.cost ≡ s
      → cheaper ds (cheaper ds (plan_seen a) (plan_seen b)) (plan_seen c) ≡ (if u && v then plan_seen c else if s then plan_seen a else plan_seen b)
  tests u v s h i j =
      cheapest-is ds (plan_seen a) (plan_seen b) (plan_seen c)
      ∙ ap (λ t. if t && nat_lt (price_of ds (plan_seen c)) (price_of ds (plan_seen b)) then plan_seen c else if nat_le (price_of ds (plan_seen a)) (price_of ds (plan_seen b)) then plan_seen a else plan_seen b)
      (ap₂ nat_lt (sym fed.cost) (sym whole.planned.costs) ∙ h)
      ∙ ap (λ t. if u && t then plan_seen c else if nat_le (price_of ds (plan_seen a)) (price_of ds (plan_seen b)) then plan_seen a else plan_seen b)
      (ap₂ nat_lt (sym fed.cost) (sym wide.planned.costs) ∙ i)
      ∙ ap (λ t. if u && v then plan_seen c else if t then plan_seen a else plan_seen b)
      (ap₂ nat_le (sym whole.planned.costs) (sym wide.planned.costs) ∙ j)

  -- what the answer has whichever it is
  record Is (r : PlannedValues) : Type 0 where
    cost : r.planned.cost ≡ price_of ds (plan_seen r)
    sound : IsSound r.ssa
    deps : r.planned.chosen.deps ≡ dependences r.ssa

  list-by : (r : PlannedValues) → Is r → plan_seen r ≡ cheaper ds (cheaper ds (plan_seen a) (plan_seen b)) (plan_seen c)
      → IsPlannedList ds values width r a.planned.plain
  list-by r is e = record {
    whole = plan_seen a;
    wide = plan_seen b;
    fed = plan_seen c;
    uncut = uncut;
    wide_of = same;
    fed_of = same;
    whole_chosen = whole.planned.chosen;
    wide_chosen = wide.planned.chosen;
    fed_chosen = fed.chosen;
    is = e;
    cost = is.cost;
    plain_costs = whole.planned.plain_costs;
    sound = is.sound;
    deps = is.deps;
  }

  a-is : Is a
  a-is = record { cost = whole.planned.costs; sound = whole.sound; deps = whole.deps }

  b-is : Is b
  b-is = record { cost = wide.planned.costs; sound = wide.sound; deps = wide.deps }

  c-is : Is c
  c-is = record { cost = fed.cost; sound = wide.sound; deps = wide.deps }

  pub list-is : (r : PlannedValues)
      → r ≡ (if nat_lt f.cost a.planned.cost && nat_lt f.cost b.planned.cost then c else if nat_le a.planned.cost b.planned.cost then a else b)
      → IsPlannedList ds values width r a.planned.plain
  list-is r e = by (nat_lt f.cost a.planned.cost) (nat_lt f.cost b.planned.cost) (nat_le a.planned.cost b.planned.cost) refl refl refl e
    where
      at : (v : PlannedValues) → r ≡ v → IsPlannedList ds values width v a.planned.plain
          → IsPlannedList ds values width r a.planned.plain
      at v one is = subst (λ x. IsPlannedList ds values width x a.planned.plain) (sym one) is

      by : (u v s : Bool) → nat_lt f.cost a.planned.cost ≡ u → nat_lt f.cost b.planned.cost ≡ v
          → nat_le a.planned.cost b.planned.cost ≡ s
          → r ≡ (if u && v then c else if s then a else b) → IsPlannedList ds values width r a.planned.plain
      by true true s h i j one = at c one (list-by c c-is (sym (tests true true s h i j)))
      by true false true h i j one = at a one (list-by a a-is (sym (tests true false true h i j)))
      by true false false h i j one = at b one (list-by b b-is (sym (tests true false false h i j)))
      by false v true h i j one = at a one (list-by a a-is (sym (tests false v true h i j)))
      by false v false h i j one = at b one (list-by b b-is (sym (tests false v false h i j)))

-- ---- without more plans

pub whole-is : (ds : List Description) (k : Tree) (width : ℕ) (ssa : Ssa) (matches : List Match) (packs : List Pack)
    (cost plain : ℕ)
    → AreWhole k ssa → IsPlanned ds matches ssa width packs cost plain
    → IsPlannedFor false ds k width Own (record { ssa = ssa; matches = matches; packs = packs }) cost plain
whole-is ds k width ssa matches packs cost plain values planned =
    let few = planned.below_scalar in
    record {
      chosen = (refl, record { values = values; chosen = planned.chosen });
      costs = planned.costs;
      plain_costs = record { ssa = ssa; matches = matches; values = values; table = planned.chosen.table; is = planned.plain_costs };
      below_plain = planned.below_plain;
      below_scalar = omega (arith, few, units-cost k ssa values.0);
    }

-- ---- the law

-- the chosen fed plan costs at most what each kept plan costs when it is completed
completed-below : (ds : List Description) (k : Tree) (width : ℕ) (fed : KernelPlan) → IsChosenFed ds k width fed →
    (packs : List Pack) → IsKeptFed ds fed width packs
    → price_of ds fed ≤ cost_of ds fed.matches fed.ssa (completed_of ds fed.matches fed.ssa (dependences fed.ssa) packs)
completed-below ds k width fed chosen packs kept =
    subst (λ x. cost_of ds fed.matches fed.ssa x ≤ cost_of ds fed.matches fed.ssa (completed_of ds fed.matches fed.ssa (dependences fed.ssa) packs))
    (sym chosen.chosen.is) ((fed-fits ds fed.matches fed.ssa (dependences fed.ssa) width).below_completed packs kept)

pub more-plans-cost-no-more : MorePlansCostNoMore
more-plans-cost-no-more entries set k width p compiled =
    let ds = descriptions set entries in
    let more : IsChosenMore ds k width compiled.rewriting compiled.plan = compiled.chosen in
    let own = more.own_chosen in
    let two = cheaper-below ds own.whole own.wide in
    let three = cheaper-below ds (cheaper ds own.whole own.wide) own.fed in
    let first = more-below ds k width compiled.rewriting compiled.plan more in
    let is = ap (price_of ds) own.is in
    let cost : programs.cost_of p ≤ price_of ds (cheaper ds (cheaper ds own.whole own.wide) own.fed) = omega (arith, compiled.program.cost, first, is) in
    let below_whole : programs.cost_of p ≤ price_of ds own.whole = omega (arith, cost, three.0, two.0) in
    let below_wide : programs.cost_of p ≤ price_of ds own.wide = omega (arith, cost, three.0, two.1) in
    let below_fed : programs.cost_of p ≤ price_of ds own.fed = omega (arith, cost, three.1) in
    let empty = own.whole_chosen.chosen.below_empty in
    let plain = own.whole_chosen.chosen.below_plain in
    let careful = own.fed_chosen.chosen.below_careful in
    record {
      whole = own.whole;
      wide = own.wide;
      fed = own.fed;
      whole_chosen = own.whole_chosen;
      wide_chosen = own.wide_chosen;
      fed_chosen = own.fed_chosen;
      below_whole = below_whole;
      below_wide = below_wide;
      below_fed = below_fed;
      below_empty = omega (arith, below_whole, empty);
      below_plain = omega (arith, below_whole, plain);
      below_careful = omega (arith, below_fed, careful);
      below_completed = λ packs kept. (let completed = completed-below ds k width own.fed own.fed_chosen packs kept in omega (arith, below_fed, completed));
      optimal = λ few packs is uncrowded. (let best = own.whole_chosen.chosen.optimal few packs is uncrowded in omega (arith, below_whole, best));
      optimal_wide = λ few packs is uncrowded. (let best = own.wide_chosen.chosen.optimal few packs is uncrowded in omega (arith, below_wide, best));
      optimal_fed = λ few packs is uncrowded. (let best = own.fed_chosen.chosen.optimal few packs is uncrowded in omega (arith, below_fed, best));
    }
