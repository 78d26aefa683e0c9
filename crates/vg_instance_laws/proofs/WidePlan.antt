-- A plan with a cut and a turned fit meets all that the laws on plans want.
use Rattle.std.proofs.Common.{◌≡◌, ◌∙◌, ℕ, zero, suc, ◌+◌, ◌*◌, ◌≤◌, ◌<◌, ◌&&◌, ◌||◌, Bool, true, false, lit<, lit≤, List, [], ◌∷◌, ◌++◌, length, map, Option, Some, None, refl, sym, ap, subst, inl, inr, arith}
use Rattle.std.specs.Prelude.{nat_eq, nat_lt, not, codes}
use Rattle.std.specs.List.{IsDistinct, list_any}
use Rattle.std.specs.Str.{bytes_eq}
use Rattle.std.proofs.lemmas.Bool.{cases_Bool, ltb-true, or_cases, true≢false}
use Rattle.vg_base.specs.Bits.{bits, bytes, num}
use Rattle.vg_canon.specs.Canonical.{canonical, canonical_within, first_rule}
use Rattle.vg_rules_sum.specs.Rules.{fold_constants, merge_constants, neutral_or_absorbing, same_operands, sort_chain}
use Rattle.vg_rules_width.specs.Rules.{extend_extend, first_row, narrow_extended_sum, narrow_product, part_of_concatenation, shift_by_zero, shift_of_extension, shift_of_shift, sign_of_nonnegative, truncate_arithmetic_shift, truncate_extension, truncate_logical_shift, truncate_operation, truncate_selection, truncate_truncate, zero_on_top}
use Rattle.vg_rules_choice.specs.Rules.{known_selection, narrow_comparison, narrow_least_or_greatest, negated_selection, selection_is_least_or_greatest}
use Rattle.vg_plans.specs.Crowded.{IsPlan, empty, more}
use Rattle.vg_plans.specs.World.{follows}
use Rattle.vg_terms.specs.declared.term.Term.{Term}
use Rattle.vg_terms.specs.Term.{tree, Tree}
use Rattle.vg_shapes.specs.declared.description.Description.{Description as Declared}
use Rattle.vg_shapes.specs.declared.match_table.Match.{Match}
use Rattle.vg_shapes.specs.declared.order.Node.{Node}
use Rattle.vg_shapes.specs.declared.order.Node.TheVariants.{PackAt, UnitAt}
use Rattle.vg_shapes.specs.declared.pack.Pack.{Pack}
use Rattle.vg_shapes.specs.declared.pack.Pack.TheVariants.{Call, Stores}
use Rattle.vg_shapes.specs.declared.ssa.Ssa.{Ssa}
use Rattle.vg_shapes.specs.declared.wanted.Wanted.TheVariants.{Constant, Value}
use Rattle.vg_shapes.specs.Depends.{dependences, depends_on}
use Rattle.vg_shapes.specs.Description.{Description, description_of, IsLane, IsPackable}
use Rattle.vg_shapes.specs.Matches.{AreMatches}
use Rattle.vg_shapes.specs.Nodes.{IsOrder, node_depends}
use Rattle.vg_shapes.specs.Order.{count_of, Stands}
use Rattle.vg_shapes.specs.Sound.{cuts_of, IsSound, terms_of}
use Rattle.vg_shapes.specs.Units.{is_unit}
use Rattle.vg_match.specs.Fit.{bind, fit, fit_turned, same_root}
use Rattle.vg_match.specs.Names.{names_from}
use Rattle.vg_match.specs.Table.{lane_trees, matches_of}
use Rattle.vg_match.specs.Values.{fit_by_turn, fit_cut, fit_whole, of_kernel, ValueTerms}
use Rattle.vg_match.proofs.Tables.{are-matches}
use Rattle.vg_ssa.specs.OfUnits.{AreNumbered, CanBeNumbered, HaveCuts}
use Rattle.vg_ssa.proofs.Soundness.{numbered-sound}
use Rattle.vg_kernel_plans.specs.Fed.{unfed}
use Rattle.vg_kernel_plans.specs.Laws.{IsPlanFor}
use Rattle.vg_kernel_plans.specs.Packing.{packing}
use Rattle.vg_kernel_plans.proofs.FedPlans.{may-be-fed}
use Rattle.vg_kernel_plans.proofs.SameTests.{both-true}
use Rattle.vg_emission.specs.Truth.{IsCallable}
use Rattle.vg_packs.proofs.Cycles.{unit-inside}
use Rattle.vg_plan_relations.proofs.Planning.{grown-nodes}
use Rattle.vg_plan_laws.specs.Laws.{AreKnown}
use Rattle.vg_plan_laws.proofs.Programs.{programs-mean}
use Rattle.vg_instance_laws.specs.WidePlan.{bound_to, cut_terms, difference_lane, instance_of, IsWide, sum_lane, two_instances, wide_kernel, wide_matches, wide_order, wide_params, wide_plan, wide_units, WidePlanMeansUnits, whole_terms}

-- ---- the instances

sum-lane : (low : ℕ) → low + 64 ≤ 128 → IsLane (128 ∷ 128 ∷ []) 64 (sum_lane low)
sum-lane low inside = record {
  formed = ((lit< tt, lit≤ tt), (refl, refl), (lit< tt, lit≤ tt), (lit< tt, lit≤ tt));
  wide = refl;
  inside = ((0, low, refl, inside), (1, low, refl, inside));
}

difference-lane : (low : ℕ) → low + 64 ≤ 128 → IsLane (128 ∷ 128 ∷ []) 64 (difference_lane low)
difference-lane low inside = record {
  formed = (
    (lit< tt, lit≤ tt),
    (refl, refl),
    (lit< tt, lit≤ tt),
    ((lit< tt, lit≤ tt), (refl, refl), (lit< tt, lit≤ tt), ((lit< tt, lit≤ tt), lit< tt)),
  );
  wide = refl;
  inside = ((0, low, refl, inside), ((1, low, refl, inside), tt));
}

sums-packable : IsPackable (instance_of (codes "add") (sum_lane 0 ∷ sum_lane 64 ∷ []))
sums-packable = record {
  fill = refl;
  lanes = (sum-lane 0 (lit≤ tt), (sum-lane 64 (lit≤ tt), tt));
  even = refl;
  apart = refl;
}

differences-packable : IsPackable (instance_of (codes "sub") (difference_lane 0 ∷ difference_lane 64 ∷ []))
differences-packable = record {
  fill = refl;
  lanes = (difference-lane 0 (lit≤ tt), (difference-lane 64 (lit≤ tt), tt));
  even = refl;
  apart = refl;
}

callable : (d : Description) → IsPackable d → d.params ≡ 128 ∷ 128 ∷ [] → d.register ≡ 128 → d.lane_width ≡ 64
    → IsCallable d
callable d packable params register width = record {
  packable = packable;
  lane = rw width refl;
  register = rw register refl;
  params = rw params (refl, (refl, tt));
}

-- ---- the values

module _ (terms cuts : List Term) (ds : List Declared)
    (numbered : AreNumbered (codes "wide") wide_params wide_units (wide_kernel terms cuts))
    (have_cuts : HaveCuts wide_params wide_units (wide_kernel terms cuts))
    (instances : map description_of ds ≡ two_instances) where
  abbrev ssa : Ssa
  ssa = wide_kernel terms cuts

  names : IsDistinct bytes_eq (codes "p" ∷ codes "a" ∷ codes "b" ∷ [])
  unfolding IsDistinct
  names = ((refl, (refl, tt)), ((refl, tt), (tt, tt)))

  can : CanBeNumbered ssa
  can = record {
    name = refl;
    names = (refl, (refl, (refl, tt)));
    distinct = names;
    params = lit≤ tt;
    stores = lit≤ tt;
    uses = lit≤ tt;
    units = (
      (refl, refl, refl, refl),
      (
        (refl, refl, refl, refl),
        (
          (refl, refl, refl, refl),
          (
            (refl, (refl, lit< tt), refl, refl),
            (
              (record { pointer = lit< tt; offset = lit< tt }, refl),
              (
                (refl, (refl, lit< tt), refl, refl),
                ((record { pointer = lit< tt; offset = lit< tt }, refl), tt),
              ),
            ),
          ),
        ),
      ),
    );
    earlier = (
      (lit< tt, lit< tt, tt),
      (
        (lit< tt, lit< tt, tt),
        (
          (lit< tt, lit< tt, tt),
          (
            (tt, lit< tt, tt),
            (
              lit< tt,
              (
                (tt, lit< tt, tt),
                (lit< tt, tt),
              ),
            ),
          ),
        ),
      ),
    );
  }

  sound : IsSound ssa
  sound = numbered-sound ssa can numbered.terms (inr have_cuts)

  whole : terms_of ssa ≡ whole_terms
  unfolding canonical canonical_within first_rule bits num bytes fold_constants merge_constants neutral_or_absorbing same_operands sort_chain extend_extend first_row narrow_extended_sum narrow_product part_of_concatenation shift_by_zero shift_of_extension shift_of_shift sign_of_nonnegative truncate_arithmetic_shift truncate_extension truncate_logical_shift truncate_operation truncate_selection truncate_truncate zero_on_top known_selection narrow_comparison narrow_least_or_greatest negated_selection selection_is_least_or_greatest lib.Count.count_leading_zeros
  whole = numbered.terms

  cut : cuts_of ssa ≡ cut_terms
  unfolding canonical canonical_within first_rule bits num bytes fold_constants merge_constants neutral_or_absorbing same_operands sort_chain extend_extend first_row narrow_extended_sum narrow_product part_of_concatenation shift_by_zero shift_of_extension shift_of_shift sign_of_nonnegative truncate_arithmetic_shift truncate_extension truncate_logical_shift truncate_operation truncate_selection truncate_truncate zero_on_top known_selection narrow_comparison narrow_least_or_greatest negated_selection selection_is_least_or_greatest lib.Count.count_leading_zeros
  cut = have_cuts

  -- what lanes are tried with
  abbrev values : ValueTerms
  values = record {
    terms = whole_terms;
    cuts = cut_terms;
    names = names_from ssa 0 cut_terms;
  }

  same-values : of_kernel ssa ≡ values
  same-values = λ i. record { terms = whole i; cuts = cut i; names = names_from ssa 0 (cut i) }

  abbrev lanes : List (List Tree)
  lanes = (sum_lane 0 ∷ sum_lane 64 ∷ []) ∷ (difference_lane 0 ∷ difference_lane 64 ∷ []) ∷ []

  lanes-of : (xs : List Declared) → lane_trees xs ≡ map (λ (d : Description). d.lanes) (map description_of xs)
  lanes-of [] = refl
  lanes-of (x ∷ xs) = ap (λ rest. map tree x.lanes ∷ rest) (lanes-of xs)

  same-lanes : lane_trees ds ≡ lanes
  same-lanes = lanes-of ds ∙ ap (map (λ (d : Description). d.lanes)) instances

  matches-are : matches_of lanes values ≡ wide_matches
  unfolding bind fit fit_turned same_root
  matches-are = refl

  not-whole : fit_whole values 3 (sum_lane 0) ≡ None
  unfolding bind fit fit_turned same_root
  not-whole = refl

  by-cut : fit_cut values 3 (sum_lane 0) ≡ Some (bound_to 0 (Value 0) (Value 2))
  unfolding bind fit fit_turned same_root
  by-cut = refl

  not-cut : fit_cut values 5 (difference_lane 0) ≡ None
  unfolding bind fit fit_turned same_root
  not-cut = refl

  by-turn : fit_by_turn values 5 (difference_lane 0) ≡ Some (bound_to 0 (Constant 64 7) (Value 3))
  unfolding bind fit fit_turned same_root
  by-turn = refl

  table : AreMatches two_instances ssa wide_matches
  table =
      subst (AreMatches two_instances ssa) matches-are
      (subst (λ v. AreMatches two_instances ssa (matches_of lanes v)) same-values
      (subst (λ l. AreMatches two_instances ssa (matches_of l (of_kernel ssa))) same-lanes
      (subst (λ xs. AreMatches xs ssa (matches_of (lane_trees ds) (of_kernel ssa))) instances (are-matches ds ssa))))

  known : AreKnown two_instances wide_matches ssa
  known = record {
    sound = sound;
    described = (callable _ sums-packable refl refl refl, (callable _ differences-packable refl refl refl, tt));
    matched = table;
  }

  -- ---- the plan

  grown : IsPlanFor two_instances wide_matches ssa (dependences ssa) wide_plan
  grown =
      let ways = follows (packing two_instances wide_matches ssa (dependences ssa)) in
      let stores : IsPlan ways (Stores (6 ∷ 8 ∷ []) ∷ []) = more [] (Stores (6 ∷ 8 ∷ [])) empty (inl refl) in
      let two : IsPlan ways (Stores (6 ∷ 8 ∷ []) ∷ Call 1 (Some 5 ∷ Some 7 ∷ []) ∷ []) =
      more (Stores (6 ∷ 8 ∷ []) ∷ []) (Call 1 (Some 5 ∷ Some 7 ∷ [])) stores (inl refl) in
      more (Stores (6 ∷ 8 ∷ []) ∷ Call 1 (Some 5 ∷ Some 7 ∷ []) ∷ []) (Call 0 (Some 3 ∷ Some 4 ∷ [])) two (inl refl)

  -- ---- the order

  unit-low : (x : ℕ) → is_unit ssa x ≡ true → x < 9
  unit-low x h = unit-inside ssa x h

  -- each of so many numbers for which it holds stands in a list
  abbrev all-stand : ℕ → (ℕ → Bool) → List ℕ → Bool
  all-stand zero f us = true
  all-stand (suc n) f us = (not (f n) || nat_lt 0 (count_of n us)) && all-stand n f us

  stand : (n : ℕ) (f : ℕ → Bool) (us : List ℕ) → all-stand n f us ≡ true → (x : ℕ) → x < n → f x ≡ true → Stands x us
  stand zero f us all x low holds = absurd (omega arith)
  stand (suc n) f us all x low holds =
      let both = both-true (not (f n) || nat_lt 0 (count_of n us)) (all-stand n f us) all in
      elim (cases_Bool (nat_lt x n)) [
        | inl t ↦ stand n f us both.1 x (ltb-true x n t) holds
        | inr e ↦ last (nat-last x n low e) both.0
      ]
    where
      nat-last : (x n : ℕ) → x < suc n → nat_lt x n ≡ false → x ≡ n
      nat-last x n low e = grind (arith, Rattle.std.proofs.lemmas.Bool.Decides.nat_tests, low, e)

      last : x ≡ n → (not (f n) || nat_lt 0 (count_of n us)) ≡ true → Stands x us
      last same h = elim (or_cases (not (f n)) _ h) [
        | inl a ↦ absurd (let at : f n ≡ true = subst (λ m. f m ≡ true) same holds in let no = rw at at a in true≢false (sym no))
        | inr b ↦ subst (λ m. Stands m us) (sym same) (ltb-true 0 (count_of n us) b)
      ]

  of-unit : (v x : ℕ) → depends_on ssa v x ≡ true → x < 9
  of-unit v x h = unit-low x (both-true (is_unit ssa x) _ h).0

  needs-sum : (x : ℕ) → node_depends ssa wide_matches wide_plan (UnitAt 2) x ≡ true → Stands x []
  needs-sum x h = stand 9 (node_depends ssa wide_matches wide_plan (UnitAt 2)) [] refl x (of-unit 2 x h) h

  needs-sums : (x : ℕ) → node_depends ssa wide_matches wide_plan (PackAt 2) x ≡ true → Stands x (2 ∷ [])
  needs-sums x h =
      stand 9 (node_depends ssa wide_matches wide_plan (PackAt 2)) (2 ∷ []) refl x (unit-low x (both-true (is_unit ssa x) _ h).0) h

  needs-differences : (x : ℕ) → node_depends ssa wide_matches wide_plan (PackAt 1) x ≡ true → Stands x (2 ∷ 3 ∷ 4 ∷ [])
  needs-differences x h =
      stand 9 (node_depends ssa wide_matches wide_plan (PackAt 1)) (2 ∷ 3 ∷ 4 ∷ []) refl x (unit-low x (both-true (is_unit ssa x) _ h).0) h

  needs-stores : (x : ℕ) → node_depends ssa wide_matches wide_plan (PackAt 0) x ≡ true
      → Stands x (2 ∷ 3 ∷ 4 ∷ 5 ∷ 7 ∷ [])
  needs-stores x h =
      stand 9 (node_depends ssa wide_matches wide_plan (PackAt 0)) (2 ∷ 3 ∷ 4 ∷ 5 ∷ 7 ∷ []) refl x (low h) h
    where
      low : node_depends ssa wide_matches wide_plan (PackAt 0) x ≡ true → x < 9
      low g = elim (or_cases (depends_on ssa 6 x) _ g) [
        | inl a ↦ of-unit 6 x a
        | inr b ↦ elim (or_cases (depends_on ssa 8 x) _ b) [
          | inl a ↦ of-unit 8 x a
          | inr none ↦ absurd (true≢false (sym none))
        ]
      ]

  legal : IsOrder ssa wide_matches wide_plan wide_order
  legal = record {
    once = record { moves = (0, 3) ∷ (1, 2) ∷ []; below = (lit< tt, lit< tt, (lit< tt, lit< tt, tt)); is = refl };
    follows = (needs-sum, (needs-sums, (needs-differences, (needs-stores, tt))));
  }

pub wide-plan-means-units : WidePlanMeansUnits
wide-plan-means-units called terms cuts ds numbered have_cuts instances =
    let ssa = wide_kernel terms cuts in
    let same = same-values terms cuts ds numbered have_cuts instances in
    record {
      sound = sound terms cuts ds numbered have_cuts instances;
      terms = whole terms cuts ds numbered have_cuts instances;
      cuts = cut terms cuts ds numbered have_cuts instances;
      matches = table terms cuts ds numbered have_cuts instances;
      not_whole = ap (λ v. fit_whole v 3 (sum_lane 0)) same ∙ not-whole terms cuts ds numbered have_cuts instances;
      cut = ap (λ v. fit_cut v 3 (sum_lane 0)) same ∙ by-cut terms cuts ds numbered have_cuts instances;
      not_cut = ap (λ v. fit_cut v 5 (difference_lane 0)) same ∙ not-cut terms cuts ds numbered have_cuts instances;
      turned = ap (λ v. fit_by_turn v 5 (difference_lane 0)) same ∙ by-turn terms cuts ds numbered have_cuts instances;
      planned =
          grown-nodes two_instances wide_matches ssa (sums-packable, (differences-packable, tt))
          (table terms cuts ds numbered have_cuts instances) wide_plan (grown terms cuts ds numbered have_cuts instances);
      order = legal terms cuts ds numbered have_cuts instances;
      means = λ true_of.
          programs-mean called two_instances wide_matches ssa (dependences ssa) wide_plan wide_order
          (known terms cuts ds numbered have_cuts instances) true_of
          (may-be-fed two_instances wide_matches ssa (dependences ssa) unfed wide_plan (grown terms cuts ds numbered have_cuts instances))
          (legal terms cuts ds numbered have_cuts instances);
    }
