-- The lists of units that are planned for a kernel, and the best plan over them.
use Rattle.std.proofs.Common.{◌≡◌, ◌∙◌, ◌⊎◌, ℕ, ◌≤◌, Bool, true, false, List, length, refl, sym, ap, ap₂, subst, inl, inr, arith}
use Rattle.std.specs.Prelude.{nat_le, Option, Some, None, if◌then◌else◌}
use Rattle.std.proofs.lemmas.Bool.{true≢false}
use Rattle.vg_kernel.specs.Cost.{scalar_cost}
use Rattle.vg_kernel.specs.Tree.{Tree}
use Rattle.vg_rewrite.specs.Rewritten.{are_few, IsRenumbered, IsSoundIfSome, KeepsKernels}
use Rattle.vg_shapes.specs.declared.ssa.Ssa.{Ssa}
use Rattle.vg_shapes.specs.declared.ssa_unit.SsaUnit.{SsaUnit}
use Rattle.vg_shapes.specs.Depends.{dependences}
use Rattle.vg_shapes.specs.Description.{Description}
use Rattle.vg_shapes.specs.Sound.{IsSound}
use Rattle.vg_ssa.specs.Cuts.{HasCuts}
use Rattle.vg_ssa.specs.Numbering.{IsNumbering}
use Rattle.vg_ssa.specs.OfUnits.{HaveCuts}
use Rattle.vg_ssa.proofs.Soundness.{numbered-terms}
use Rattle.vg_compile.specs.declared.lists.Lists.{Lists}
use Rattle.vg_compile.specs.declared.more_plans.BestPlan.{BestPlan}
use Rattle.vg_compile.specs.declared.more_plans.PlannedValues.{PlannedValues}
use Rattle.vg_compile.specs.declared.rewriting.Rewriting.{Rewriting}
use Rattle.vg_compile.specs.declared.rewriting.Rewriting.TheVariants.{Own, Repeated, Narrowed, NarrowedRepeated}
use Rattle.vg_compile.specs.Chosen.{cheaper, IsChosenIfFew, IsChosenMore, IsChosenOf, KernelPlan, ListPlan, or_cheaper, price_of}
use Rattle.vg_compile.specs.Listed.{AreListed, AreLists, IsBetter, IsLeft, IsLeftBeside, IsListed, IsPlannedList}
use Rattle.vg_compile.specs.Planned.{IsPlannedMore, PlainCosts, plan_seen}
use Rattle.vg_compile.specs.Rewritten.{AreRewritten, AreWideBy, StandIn, units_by}
use Rattle.vg_compile.proofs.More.{among, at-most, cheaper-below, first-below, more-than, not-more, units-cost}
use Rattle.vg_compile.proofs.WithoutCuts.{same-stand, whole-of}

-- ---- the lists of the code

-- what is made of a kernel's own values is listed, unless its units are theirs
pub taken : (k : Tree) (own : Ssa) (us : List SsaUnit) (given left : Option Ssa) → StandIn k own → IsRenumbered own us given → IsSoundIfSome given → KeepsKernels own given
    → IsLeft given own left → IsListed k own (λ s. s ≡ own) us left
taken k own us None left stands few sound keeps is = subst (IsListed k own (λ s. s ≡ own) us) (sym is) (inl few)
taken k own us (Some new) left stands made sound keeps (inl is) =
    subst (IsListed k own (λ s. s ≡ own) us) (sym is) (
      made.0,
      record {
        numbered = made.1;
        cuts = made.2;
        sound = sound;
        stands = record { named = made.1.named ∙ stands.named; over = made.1.over ∙ stands.over; apart = keeps k stands.apart };
      },
    )
taken k own us (Some new) left stands made sound keeps (inr is) =
    subst (IsListed k own (λ s. s ≡ own) us) (sym is.0) (inr (made.0, own, refl, sym is.1 ∙ made.1.made_of))

wider : (k : Tree) (own : Ssa) (P Q : Ssa → Type 0) (us : List SsaUnit) (x : Option Ssa) → ((s : Ssa) → P s → Q s) → IsListed k own P us x → IsListed k own Q us x
wider k own P Q us None f (inl many) = inl many
wider k own P Q us None f (inr (few, s, p, same)) = inr (few, s, f s p, same)
wider k own P Q us (Some s) f listed = listed

left-of : (k : Tree) (own : Ssa) (P : Ssa → Type 0) (us : List SsaUnit) (earlier : Ssa) (given left : Option Ssa) → IsListed k own P us given → IsLeft given earlier left
    → IsListed k own (λ s. P s ⊎ (Some earlier ≡ Some s)) us left
left-of k own P us earlier None left listed is =
    subst (IsListed k own (λ s. P s ⊎ (Some earlier ≡ Some s)) us) (sym is) (wider k own P (λ s. P s ⊎ (Some earlier ≡ Some s)) us None (λ s p. inl p) listed)
left-of k own P us earlier (Some new) left listed (inl is) = subst (IsListed k own (λ s. P s ⊎ (Some earlier ≡ Some s)) us) (sym is) listed
left-of k own P us earlier (Some new) left listed (inr is) =
    subst (IsListed k own (λ s. P s ⊎ (Some earlier ≡ Some s)) us) (sym is.0) (inr (listed.0, earlier, inr refl, sym is.1 ∙ listed.1.numbered.made_of))

-- and so it is beside another list
pub taken-beside : (k : Tree) (own : Ssa) (P : Ssa → Type 0) (us : List SsaUnit) (other given left : Option Ssa) → IsListed k own P us given → IsLeftBeside given other left
    → IsListed k own (λ s. P s ⊎ (other ≡ Some s)) us left
taken-beside k own P us None given left listed is =
    subst (IsListed k own (λ s. P s ⊎ (None ≡ Some s)) us) (sym is) (wider k own P (λ s. P s ⊎ (None ≡ Some s)) us given (λ s p. inl p) listed)
taken-beside k own P us (Some earlier) given left listed is = left-of k own P us earlier given left listed is

-- what a call gives of units that are made of a kernel's own
pub record IsGiven (own : Ssa) (us : List SsaUnit) (given : Option Ssa) : Type 0 where
  pub made : IsRenumbered own us given
  pub sound : IsSoundIfSome given
  pub keeps : KeepsKernels own given

pub lists-are : (k : Tree) (own : Ssa) (all_repeated repeated all_narrowed some_narrowed narrowed all_both some_both more_both both : Option Ssa)
    → IsNumbering k own → HasCuts k own → IsSound own → StandIn k own
    → IsGiven own (units_by Repeated own) all_repeated → IsGiven own (units_by Narrowed own) all_narrowed → IsGiven own (units_by NarrowedRepeated own) all_both
    → IsLeft all_repeated own repeated
    → IsLeft all_narrowed own some_narrowed → IsLeftBeside some_narrowed repeated narrowed
    → IsLeft all_both own some_both → IsLeftBeside some_both repeated more_both → IsLeftBeside more_both narrowed both
    → AreLists k (record { own = own; repeated = repeated; narrowed = narrowed; both = both })
lists-are k own all_repeated repeated all_narrowed some_narrowed narrowed all_both some_both more_both both numbering cuts sound stands a b c d e f g h i =
    let P : Ssa → Type 0 = λ s. s ≡ own in
    let Q : Ssa → Type 0 = λ s. (s ≡ own) ⊎ (repeated ≡ Some s) in
    record {
      numbering = numbering;
      cuts = cuts;
      sound = sound;
      stands = stands;
      repeated = taken k own (units_by Repeated own) all_repeated repeated stands a.made a.sound a.keeps d;
      narrowed = taken-beside k own P (units_by Narrowed own) repeated some_narrowed narrowed
          (taken k own (units_by Narrowed own) all_narrowed some_narrowed stands b.made b.sound b.keeps e) f;
      both = taken-beside k own Q (units_by NarrowedRepeated own) narrowed more_both both
          (taken-beside k own P (units_by NarrowedRepeated own) repeated some_both more_both
          (taken k own (units_by NarrowedRepeated own) all_both some_both stands c.made c.sound c.keeps g) h)
          i;
    }

-- it is sound, if it is there
pub listed-sound : (k : Tree) (own : Ssa) (P : Ssa → Type 0) (us : List SsaUnit) (x : Option Ssa) → IsListed k own P us x → IsSoundIfSome x
listed-sound k own P us None listed = tt
listed-sound k own P us (Some s) listed = listed.1.sound

-- ---- values of a list

-- a kernel's own
own-listed : (k : Tree) (lists : Lists) → AreLists k lists → AreListed k lists.own lists.own.units lists.own
own-listed k lists are = record {
  numbered = record {
    named = refl;
    over = refl;
    made_of = refl;
    terms = are.numbering.terms ∙ search (numbered-terms, are.numbering);
  };
  cuts = are.cuts ∙ search (numbered-terms, are.numbering);
  sound = are.sound;
  stands = are.stands;
}

-- values whose units are those of a list are listed there
listed-by : (k : Tree) (own : Ssa) (us vs : List SsaUnit) (ssa : Ssa) → ssa.units ≡ vs → AreListed k own us ssa → AreListed k own vs ssa
listed-by k own us vs ssa same listed = subst (λ ws. AreListed k own ws ssa) (sym listed.numbered.made_of ∙ same) listed

rewritten-wide : (rewriting : Rewriting) (k : Tree) (own ssa : Ssa) → IsNumbering k own → are_few (units_by rewriting own) ≡ true → AreListed k own (units_by rewriting own) ssa
    → AreRewritten rewriting k ssa × HaveCuts ssa.params ssa.units ssa
rewritten-wide rewriting k own ssa is few listed = (
  record { own = own; is_own = is; few = few; numbered = listed.numbered },
  subst (λ us. HaveCuts ssa.params us ssa) (sym listed.numbered.made_of) (subst (λ ps. HaveCuts ps (units_by rewriting own) ssa) (sym listed.numbered.over) listed.cuts),
)

-- ---- the plan over a list

list-chosen : (ds : List Description) (k : Tree) (width : ℕ) (rewriting : Rewriting) (values : Ssa) (v : PlannedValues) (plain : ℕ)
    → AreWideBy rewriting k values → IsPlannedList ds values width v plain → IsChosenOf ds k width rewriting (plan_seen v)
list-chosen ds k width rewriting values v plain wide list = record {
  whole = list.whole;
  wide = list.wide;
  fed = list.fed;
  whole_chosen = record { values = whole-of rewriting k values list.whole.ssa list.uncut wide; chosen = list.whole_chosen };
  wide_chosen = record { values = subst (AreWideBy rewriting k) (sym list.wide_of) wide; chosen = list.wide_chosen };
  fed_chosen = record { values = subst (AreWideBy rewriting k) (sym list.fed_of) wide; chosen = list.fed_chosen };
  is = list.is;
}

-- it is over values in the place of the kernel
list-stand : (ds : List Description) (k : Tree) (width : ℕ) (values : Ssa) (v : PlannedValues) (plain : ℕ)
    → StandIn k values → IsPlannedList ds values width v plain → StandIn k v.ssa
list-stand ds k width values v plain stands list =
    let P : KernelPlan → Type 0 = λ (plan : KernelPlan). StandIn k plan.ssa in
    subst P (sym list.is)
    (among P ds list.whole list.wide list.fed (same-stand k values list.whole.ssa list.uncut.named list.uncut.over list.uncut.made_of stands)
    (subst (StandIn k) (sym list.wide_of) stands) (subst (StandIn k) (sym list.fed_of) stands))

-- ---- the best plan so far

abbrev best_seen : BestPlan → ListPlan
best_seen b = record { rewriting = b.rewriting; plan = plan_seen b.values }

-- these values are planned, and this costs at most what their plan costs
abbrev IsSeen : List Description → Tree → ℕ → Ssa → ListPlan → Ssa → Type 0
IsSeen ds k width own first s =
    (us : List SsaUnit) × AreListed k own us s × (v : PlannedValues) × (plain : ℕ) × IsPlannedList ds s width v plain
    × (price_of ds first.plan ≤ price_of ds (plan_seen v))

-- what the code has is the best of the lists so far
record IsBest (ds : List Description) (k : Tree) (width : ℕ) (own : Ssa) (earlier : Ssa → Type 0) (best : BestPlan) (first : ListPlan) : Type 0 where
  is : best_seen best ≡ first
  cost : best.values.planned.cost ≡ price_of ds (plan_seen best.values)
  sound : IsSound best.values.ssa
  stands : StandIn k best.values.ssa
  deps : best.values.planned.chosen.deps ≡ dependences best.values.ssa
  seen : (s : Ssa) → earlier s → IsSeen ds k width own first s

module _ (ds : List Description) (k : Tree) (width : ℕ) (own : Ssa) (numbering : IsNumbering k own) where
  abbrev Best : (Ssa → Type 0) → BestPlan → ListPlan → Type 0
  Best earlier best first = IsBest ds k width own earlier best first

  seen-lower : (first next : ListPlan) (s : Ssa) → price_of ds next.plan ≤ price_of ds first.plan → IsSeen ds k width own first s → IsSeen ds k width own next s
  seen-lower first next s less (us, listed, v, plain, list, most) = (us, listed, v, plain, list, omega (arith, less, most))

  -- what one list more gives
  record Stepped (P : Ssa → Type 0) (rewriting : Rewriting) (values : Option Ssa) (next : BestPlan) (first : ListPlan) : Type 0 where
    chosen : Option KernelPlan
    is_chosen : IsChosenIfFew ds k width rewriting chosen
    best : Best (λ s. P s ⊎ (values ≡ Some s)) next (or_cheaper ds first rewriting chosen)

  nothing-more : (P : Ssa → Type 0) (first : ListPlan) → ((s : Ssa) → P s → IsSeen ds k width own first s) → (s : Ssa) → P s ⊎ (None ≡ Some s) → IsSeen ds k width own first s
  nothing-more P first seen s (inl p) = seen s p
  nothing-more P first seen s (inr e) = absurd (cc)

  stays : (P : Ssa → Type 0) (best next : BestPlan) (first : ListPlan) → Best P best first → next ≡ best → Best (λ s. P s ⊎ (None ≡ Some s)) next first
  stays P best next first h same =
      subst (λ b. Best (λ s. P s ⊎ (None ≡ Some s)) b first) (sym same)
      (record { is = h.is; cost = h.cost; sound = h.sound; stands = h.stands; deps = h.deps; seen = nothing-more P first h.seen })

  first-stays : (first : ListPlan) (rewriting : Rewriting) (plan : KernelPlan) (t : Bool) → nat_le (price_of ds first.plan) (price_of ds plan) ≡ t → price_of ds first.plan ≤ price_of ds plan
      → first ≡ (if t then first else record { rewriting = rewriting; plan = plan })
  first-stays first rewriting plan true e most = refl
  first-stays first rewriting plan false e most = absurd (let less = not-more (price_of ds first.plan) (price_of ds plan) e in omega (arith, less, most))

  module _ (rewriting : Rewriting) (wide : (s : Ssa) → AreRewritten rewriting k s × HaveCuts s.params s.units s → AreWideBy rewriting k s) where
    -- a list whose units are those of an earlier one has its plan
    dropped : (P : Ssa → Type 0) (best next : BestPlan) (first : ListPlan) (s : Ssa) → Best P best first → are_few (units_by rewriting own) ≡ true → P s → s.units ≡ units_by rewriting own → next ≡ best
        → Stepped P rewriting None next first
    dropped P best next first s h few p same is =
        by (h.seen s p)
      where
        by : IsSeen ds k width own first s → Stepped P rewriting None next first
        by (us, listed, v, plain, list, most) = record {
          chosen = Some (plan_seen v);
          is_chosen = list-chosen ds k width rewriting s v plain (wide s (rewritten-wide rewriting k own s numbering few (listed-by k own us (units_by rewriting own) s same listed))) list;
          best = subst (Best (λ x. P x ⊎ (None ≡ Some x)) next) (first-stays first rewriting (plan_seen v) _ refl most) (stays P best next first h is);
        }

    -- a list that is planned
    module _ (P : Ssa → Type 0) (best next : BestPlan) (first : ListPlan) (s : Ssa) (v : PlannedValues) (plain : ℕ)
        (h : Best P best first) (few : are_few (units_by rewriting own) ≡ true) (listed : AreListed k own (units_by rewriting own) s) (list : IsPlannedList ds s width v plain) where
      costs : nat_le best.values.planned.cost v.planned.cost ≡ nat_le (price_of ds first.plan) (price_of ds (plan_seen v))
      costs = ap₂ nat_le (h.cost ∙ ap (λ (l : ListPlan). price_of ds l.plan) h.is) list.cost

      abbrev Now : Ssa → Type 0
      Now x = P x ⊎ (Some s ≡ Some x)

      both-seen : (after : ListPlan) → price_of ds after.plan ≤ price_of ds first.plan → price_of ds after.plan ≤ price_of ds (plan_seen v) → (x : Ssa) → Now x → IsSeen ds k width own after x
      both-seen after less most x (inl p) = seen-lower first after x less (h.seen x p)
      both-seen after less most x (inr e) =
          let same : s ≡ x = some-is s x e in
          subst (IsSeen ds k width own after) same (units_by rewriting own, listed, v, plain, list, most)
        where
          some-is : (x y : Ssa) → Some x ≡ Some y → x ≡ y
          some-is x y e = cc

      compared : (t : Bool) → nat_le (price_of ds first.plan) (price_of ds (plan_seen v)) ≡ t → next ≡ (if t then best else record { rewriting = rewriting; values = v })
          → Best Now next (if t then first else record { rewriting = rewriting; plan = plan_seen v })
      compared true e is =
          subst (λ b. Best Now b first) (sym is)
          (record {
            is = h.is;
            cost = h.cost;
            sound = h.sound;
            stands = h.stands;
            deps = h.deps;
            seen = both-seen first (omega arith) (at-most (price_of ds first.plan) (price_of ds (plan_seen v)) e);
          })
      compared false e is =
          let after : ListPlan = record { rewriting = rewriting; plan = plan_seen v } in
          subst (λ b. Best Now b after) (sym is)
          (record {
            is = refl;
            cost = list.cost;
            sound = list.sound;
            stands = list-stand ds k width s v plain listed.stands list;
            deps = list.deps;
            seen = both-seen after (more-than (price_of ds first.plan) (price_of ds (plan_seen v)) e) (omega arith);
          })

      planned : next ≡ (if nat_le best.values.planned.cost v.planned.cost then best else record { rewriting = rewriting; values = v }) → Stepped P rewriting (Some s) next first
      planned is = record {
        chosen = Some (plan_seen v);
        is_chosen = list-chosen ds k width rewriting s v plain (wide s (rewritten-wide rewriting k own s numbering few listed)) list;
        best = compared _ refl (is ∙ ap (λ t. if t then best else record { rewriting = rewriting; values = v }) costs);
      }

    step : (P : Ssa → Type 0) (values : Option Ssa) (best next : BestPlan) (first : ListPlan) → Best P best first → IsListed k own P (units_by rewriting own) values
        → IsBetter ds width best rewriting values next → Stepped P rewriting values next first
    step P None best next first h (inl many) is = record {
      chosen = None;
      is_chosen = (own, numbering, many);
      best = stays P best next first h is;
    }
    step P None best next first h (inr (few, s, p, same)) is = dropped P best next first s h few p same is
    step P (Some s) best next first h (few, listed) (v, plain, list, is) = planned P best next first s v plain h few listed list is

-- ---- the first list

own-best : (ds : List Description) (k : Tree) (width : ℕ) (lists : Lists) (v : PlannedValues) (plain : ℕ) → AreLists k lists → IsPlannedList ds lists.own width v plain
    → IsBest ds k width lists.own (λ s. s ≡ lists.own) (record { rewriting = Own; values = v }) (record { rewriting = Own; plan = plan_seen v })
own-best ds k width lists v plain are list = record {
  is = refl;
  cost = list.cost;
  sound = list.sound;
  stands = list-stand ds k width lists.own v plain are.stands list;
  deps = list.deps;
  seen = λ s same. subst (IsSeen ds k width lists.own (record { rewriting = Own; plan = plan_seen v })) (sym same)
      (lists.own.units, own-listed k lists are, v, plain, list, omega arith);
}

-- what the plan over a kernel's own units costs
record OwnCosts (ds : List Description) (k : Tree) (plan : KernelPlan) (plain : ℕ) : Type 0 where
  plain_costs : PlainCosts ds k plain
  below_plain : price_of ds plan ≤ plain
  below_scalar : price_of ds plan ≤ scalar_cost k

own-costs : (ds : List Description) (k : Tree) (width : ℕ) (own : Ssa) (v : PlannedValues) (plain : ℕ) → IsNumbering k own → HasCuts k own → IsPlannedList ds own width v plain → OwnCosts ds k (plan_seen v) plain
own-costs ds k width own v plain numbering cuts list =
    let values = whole-of Own k own list.whole.ssa list.uncut (numbering, cuts) in
    let is = ap (price_of ds) list.is in
    let two = (cheaper-below ds list.whole list.wide).0 in
    let three = (cheaper-below ds (cheaper ds list.whole list.wide) list.fed).0 in
    let whole = list.whole_chosen.below_plain in
    let scalar = list.whole_chosen.below_scalar in
    let units = units-cost k list.whole.ssa values.0 in
    record {
      plain_costs = record {
        ssa = list.whole.ssa;
        matches = list.whole.matches;
        values = values;
        table = list.whole_chosen.table;
        is = list.plain_costs;
      };
      below_plain = omega (arith, is, two, three, whole, list.plain_costs);
      below_scalar = omega (arith, is, two, three, scalar, units);
    }

-- ---- all lists

pub more-is : (ds : List Description) (k : Tree) (width : ℕ) (lists : Lists) (v : PlannedValues) (plain : ℕ) (second third best : BestPlan) → AreLists k lists
    → IsPlannedList ds lists.own width v plain → IsBetter ds width (record { rewriting = Own; values = v }) Repeated lists.repeated second
    → IsBetter ds width second Narrowed lists.narrowed third → IsBetter ds width third NarrowedRepeated lists.both best
    → IsPlannedMore ds k width best.rewriting best.values plain
more-is ds k width lists v plain second third best are list repeated narrowed both =
    let own : ListPlan = record { rewriting = Own; plan = plan_seen v } in
    let a = step ds k width lists.own are.numbering Repeated (λ s h. h) (λ s. s ≡ lists.own) lists.repeated (record { rewriting = Own; values = v }) second own
    (own-best ds k width lists v plain are list) are.repeated repeated in
    let two = or_cheaper ds own Repeated a.chosen in
    let b = step ds k width lists.own are.numbering Narrowed (λ s h. h) (λ s. (s ≡ lists.own) ⊎ (lists.repeated ≡ Some s)) lists.narrowed second third two
    a.best are.narrowed narrowed in
    let three = or_cheaper ds two Narrowed b.chosen in
    let c = step ds k width lists.own are.numbering NarrowedRepeated (λ s h. h) (λ s. ((s ≡ lists.own) ⊎ (lists.repeated ≡ Some s)) ⊎ (lists.narrowed ≡ Some s)) lists.both third best three
    b.best are.both both in
    let costs = own-costs ds k width lists.own v plain are.numbering are.cuts list in
    let below = first-below ds own a.chosen b.chosen c.chosen in
    let same = ap (λ (l : ListPlan). price_of ds l.plan) c.best.is in
    record {
      planned = record {
        chosen = record {
          own = plan_seen v;
          repeated = a.chosen;
          narrowed = b.chosen;
          both = c.chosen;
          own_chosen = list-chosen ds k width Own lists.own v plain (are.numbering, are.cuts) list;
          repeated_chosen = a.is_chosen;
          narrowed_chosen = b.is_chosen;
          both_chosen = c.is_chosen;
          is = c.best.is;
        };
        costs = c.best.cost;
        plain_costs = costs.plain_costs;
        below_plain = omega (arith, c.best.cost, same, below, costs.below_plain);
        below_scalar = omega (arith, c.best.cost, same, below, costs.below_scalar);
      };
      sound = c.best.sound;
      stands = c.best.stands;
      deps = c.best.deps;
    }
