-- What is found binds the leaves of a lane in the order in which they first occur.
use Rattle.std.proofs.Common.{◌≡◌, ℕ, zero, suc, ◌+◌, true, false, List, [], ◌∷◌, ◌++◌, Option, Some, None, map, refl, sym, ap, subst, ◌∙◌, inl, inr}
use Rattle.std.specs.Prelude.{◌&&◌, ◌||◌, nat_eq}
use Rattle.std.specs.List.{AllByRecursion, IsDistinct, list_any}
use Rattle.std.specs.Option.{option_and_then, option_or}
use Rattle.std.proofs.lemmas.Bool.{cases_Bool, cond-true, cond-false}
use Rattle.std.proofs.lemmas.Option.{none-some}
use Rattle.vg_terms.specs.declared.term.LeafKey.{LeafKey}
use Rattle.vg_terms.specs.Order.{is_same_term, one_tag, two_tag}
use Rattle.vg_terms.specs.Term.{Tree, leaf, constant, one, two, sel, width_of}
use Rattle.vg_shapes.specs.declared.description.Description.{Description as Declared}
use Rattle.vg_shapes.specs.declared.match_table.Bound.{Bound}
use Rattle.vg_shapes.specs.declared.match_table.Match.{Match}
use Rattle.vg_shapes.specs.declared.ssa.Ssa.{Ssa}
use Rattle.vg_shapes.specs.declared.wanted.Wanted.{Wanted}
use Rattle.vg_shapes.specs.declared.wanted.Wanted.TheVariants.{Nothing}
use Rattle.vg_shapes.specs.Bindings.{all_noted, bound_leaves, BindsInOrder, is_that_leaf, IsBoundInOrder, noted, occurrences}
use Rattle.vg_shapes.specs.Description.{description_of}
use Rattle.vg_shapes.specs.Fits.{is_compound, turned, wanted_for}
use Rattle.vg_shapes.specs.Matches.{lane_at}
use Rattle.vg_shapes.specs.Sound.{cut_at, term_at, terms_of}
use Rattle.vg_match.specs.declared.lane_list.LaneAt.{LaneAt}
use Rattle.vg_shapes.specs.Wanted.{same_wanted}
use Rattle.vg_match.specs.Fit.{bind, fit, fit_turned, standing}
use Rattle.vg_match.specs.LaneList.{all_lanes, lanes_near}
use Rattle.vg_match.specs.Names.{names_of}
use Rattle.vg_match.specs.Table.{count_of, lane_trees, match_of, matches_from, matches_of, value_matches}
use Rattle.vg_match.specs.Values.{fit_by_turn, fit_cut, fit_first, fit_whole, of_kernel}
use Rattle.vg_match.proofs.Binding.{bind-binds, entry, Good, is_leaf, IsBound, no_entry}
use Rattle.vg_match.proofs.Lanes.{IsThere, all-there, lane-same}
use Rattle.vg_match.proofs.Members.{all-append, all-filter_map, some-same}
use Rattle.vg_match.proofs.Right.{if-some, then-some}
use Rattle.vg_match.proofs.Tables.{match-of, near-all}
use Rattle.vg_match.proofs.Ways.{bind-some, turned-fit}

-- ---- leaves that are noted

noted-both : (seen xs ys : List (ℕ × LeafKey)) → all_noted seen (xs ++ ys) ≡ all_noted (all_noted seen xs) ys
noted-both seen [] ys = refl
noted-both seen (x ∷ xs) ys = noted-both (noted seen x) xs ys

bound-more : (bound more : List Bound) → bound_leaves (bound ++ more) ≡ bound_leaves bound ++ bound_leaves more
bound-more [] more = refl
bound-more (b ∷ bound) more = ap (λ ls. (b.width, b.key) ∷ ls) (bound-more bound more)

-- a leaf of no entry has not occurred, and one that is bound has
absent : (bound : List Bound) (w : ℕ) (k : LeafKey) → AllByRecursion (λ b. is_leaf w k b ≡ false) bound → list_any (is_that_leaf (w, k)) (bound_leaves bound) ≡ false
absent [] w k h = refl
absent (b ∷ bound) w k h = λ i. h.0 i || absent bound w k h.1 i

present : (bound : List Bound) (w : ℕ) (k : LeafKey) → IsBound bound w k → list_any (is_that_leaf (w, k)) (bound_leaves bound) ≡ true
present [] w k h = absurd (cc)
present (b ∷ bound) w k h = elim (cases_Bool (is_leaf w k b)) [
  | inl t ↦ ap (λ x. x || list_any (is_that_leaf (w, k)) (bound_leaves bound)) t
  | inr f ↦
      let there : IsBound bound w k = subst (λ x. same_wanted x Nothing ≡ false) (cond-false (is_leaf w k b) b.wanted (wanted_for bound w k) f) h in
      λ i. f i || present bound w k there i
]

-- ---- what one leaf and what a term leaves bound

bind-notes : (w : ℕ) (k : LeafKey) (x : Wanted) (bound after : List Bound) → Good bound → bind w k x bound ≡ Some after → bound_leaves after ≡ noted (bound_leaves bound) (w, k)
unfolding bind
bind-notes w k x bound after g e = elim (cases_Bool (same_wanted x Nothing)) [
  | inl t ↦ absurd (none-some after (sym (cond-true (same_wanted x Nothing) None _ t) ∙ e))
  | inr f ↦
      let e1 = sym (cond-false (same_wanted x Nothing) None _ f) ∙ e in
      elim (cases_Bool (same_wanted (wanted_for bound w k) Nothing)) [
        | inl t ↦
            let same : bound ++ entry w k x ∷ [] ≡ after = some-same _ _ (sym (cond-true (same_wanted (wanted_for bound w k) Nothing) _ _ t) ∙ e1) in
            let none = absent bound w k (no_entry bound w k g.solid t) in
            ap bound_leaves (sym same) ∙ bound-more bound (entry w k x ∷ []) ∙ sym (cond-false (list_any (is_that_leaf (w, k)) (bound_leaves bound)) _ _ none)
        | inr h ↦
            let e2 = sym (cond-false (same_wanted (wanted_for bound w k) Nothing) _ _ h) ∙ e1 in
            let c = if-some (same_wanted (wanted_for bound w k) x) (Some bound) after e2 in
            ap bound_leaves (sym (some-same bound after c.1)) ∙ sym (cond-true (list_any (is_that_leaf (w, k)) (bound_leaves bound)) _ _ (present bound w k h))
      ]
]

record Notes (p : Tree) (bound after : List Bound) : Type 0 where
  pub good : Good after
  pub leaves : bound_leaves after ≡ all_noted (bound_leaves bound) (occurrences p)

module _ (list : List Tree) (v : ℕ) where
  notes-both : (bound mid after : List Bound) (xs ys : List (ℕ × LeafKey)) → bound_leaves mid ≡ all_noted (bound_leaves bound) xs → bound_leaves after ≡ all_noted (bound_leaves mid) ys
      → bound_leaves after ≡ all_noted (bound_leaves bound) (xs ++ ys)
  notes-both bound mid after xs ys e f = f ∙ ap (λ ls. all_noted ls ys) e ∙ sym (noted-both (bound_leaves bound) xs ys)

  notes : (p t : Tree) (bound after : List Bound) → Good bound → fit list v p t bound ≡ Some after → Notes p bound after
  unfolding fit
  notes (leaf w k) t bound after g e =
      let c = if-some (nat_eq (width_of t) w) (bind w k (standing list v t) bound) after e in
      let b = bind-binds w k (standing list v t) bound after g c.1 in
      record { good = b.good; leaves = bind-notes w k (standing list v t) bound after g c.1 }
  notes (constant w n) t bound after g e =
      let c = if-some (is_same_term (constant w n) t) (Some bound) after e in
      let s = some-same bound after c.1 in
      record { good = subst Good s g; leaves = ap bound_leaves (sym s) }
  notes (one op w k x) (one o u j y) bound after g e =
      let c = if-some (nat_eq (one_tag op) (one_tag o) && (nat_eq w u && nat_eq k j)) (fit list v x y bound) after e in
      let s = notes x y bound after g c.1 in
      record { good = s.good; leaves = s.leaves }
  notes (two op w x y) (two o u p q) bound after g e =
      let c = if-some (nat_eq (two_tag op) (two_tag o) && nat_eq w u) (option_and_then (fit list v y q) (fit list v x p bound)) after e in
      let m = then-some (fit list v y q) (fit list v x p bound) after c.1 in
      let s = notes x p bound m.0 g m.1 in
      let z = notes y q m.0 after s.good m.2 in
      record { good = z.good; leaves = notes-both bound m.0 after (occurrences x) (occurrences y) s.leaves z.leaves }
  notes (sel w c x y) (sel u d p q) bound after g e =
      let a = if-some (nat_eq w u) (option_and_then (λ more. option_and_then (fit list v y q) (fit list v x p more)) (fit list v c d bound)) after e in
      let m = then-some (λ more. option_and_then (fit list v y q) (fit list v x p more)) (fit list v c d bound) after a.1 in
      let n = then-some (fit list v y q) (fit list v x p m.0) after m.2 in
      let r = notes c d bound m.0 g m.1 in
      let s = notes x p m.0 n.0 r.good n.1 in
      let z = notes y q n.0 after s.good n.2 in
      record {
        good = z.good;
        leaves = notes-both bound m.0 after (occurrences c) (occurrences x ++ occurrences y) r.leaves
            (notes-both m.0 n.0 after (occurrences x) (occurrences y) s.leaves z.leaves);
      }
  notes (one op w k x) t bound after g e = absurd (none-some after e)
  notes (two op w x y) t bound after g e = absurd (none-some after e)
  notes (sel w c x y) t bound after g e = absurd (none-some after e)

  none-bound : Good []
  unfolding IsDistinct
  none-bound = record { solid = tt; once = tt }

  fit-in-order : (p t : Tree) (bound : List Bound) → fit list v p t [] ≡ Some bound → IsBoundInOrder p bound
  fit-in-order p t bound e = let n = notes p t [] bound none-bound e in n.leaves

-- ---- each way

module _ (ssa : Ssa) (v : ℕ) (p : Tree) where
  whole-in-order : (bound : List Bound) → fit_whole (of_kernel ssa) v p ≡ Some bound → IsBoundInOrder p bound
  whole-in-order bound e =
      let t = bind-some (term_at ssa v) (λ t. fit (terms_of ssa) v p t []) bound e in
      fit-in-order (terms_of ssa) v p t.0 bound t.2

  cut-in-order : (bound : List Bound) → fit_cut (of_kernel ssa) v p ≡ Some bound → IsBoundInOrder p bound
  cut-in-order bound e =
      let t = bind-some (cut_at ssa v) (λ t. fit (names_of ssa) v p t []) bound e in
      fit-in-order (names_of ssa) v p t.0 bound t.2

  turned-in-order : (bound : List Bound) → is_compound p ≡ true → fit_by_turn (of_kernel ssa) v p ≡ Some bound → IsBoundInOrder p bound
  turned-in-order bound c e =
      let t = bind-some (cut_at ssa v) (λ t. fit_turned (names_of ssa) v p t []) bound e in
      let u = bind-some (turned t.0) (λ u. fit (names_of ssa) v p u []) bound (sym (turned-fit (names_of ssa) v p t.0 [] c) ∙ t.2) in
      fit-in-order (names_of ssa) v p u.0 bound u.2

  first-in-order : (bound : List Bound) → is_compound p ≡ true → fit_first (of_kernel ssa) v p ≡ Some bound → IsBoundInOrder p bound
  first-in-order bound c e = by (fit_whole (of_kernel ssa) v p) refl (fit_cut (of_kernel ssa) v p) refl e
    where
      by : (a : Option (List Bound)) → fit_whole (of_kernel ssa) v p ≡ a → (b : Option (List Bound)) → fit_cut (of_kernel ssa) v p ≡ b →
          option_or a (option_or b (fit_by_turn (of_kernel ssa) v p)) ≡ Some bound → IsBoundInOrder p bound
      by (Some x) whole b cut g = whole-in-order bound (whole ∙ g)
      by None whole (Some x) cut g = cut-in-order bound (cut ∙ g)
      by None whole None cut g = turned-in-order bound c g

-- ---- each match

module _ (ds : List Declared) (ssa : Ssa) where
  abbrev all : List LaneAt
  all = all_lanes 0 (lane_trees ds)

  match-in-order : (v : ℕ) (x : LaneAt) (m : Match) → IsThere (lane_trees ds) x → match_of (lane_trees ds) (of_kernel ssa) v x ≡ Some m → BindsInOrder (map description_of ds) m
  match-in-order v x m there e t at =
      let p = match-of (lane_trees ds) (of_kernel ssa) v x m e in
      let same : there.term ≡ p.term = some-same there.term p.term (sym there.is ∙ p.is) in
      let compound : is_compound p.term ≡ true = subst (λ y. is_compound y ≡ true) same there.compound in
      let lane : lane_at (map description_of ds) m.description m.lane ≡ Some p.term =
      (λ i. lane_at (map description_of ds) (p.description i) (p.lane i)) ∙ lane-same ds x.description x.lane ∙ p.is in
      subst (λ y. IsBoundInOrder y m.bound) (some-same p.term t (sym lane ∙ at)) (first-in-order ssa v p.term m.bound compound p.fits)

  those-in-order : (v n : ℕ) → AllByRecursion (BindsInOrder (map description_of ds)) (matches_from (lane_trees ds) (of_kernel ssa) all v n)
  those-in-order v zero = tt
  those-in-order v (suc n) =
      all-append (BindsInOrder (map description_of ds)) (value_matches (lane_trees ds) (of_kernel ssa) all v) (matches_from (lane_trees ds) (of_kernel ssa) all (v + 1) n)
      (all-filter_map (IsThere (lane_trees ds)) (BindsInOrder (map description_of ds)) (match_of (lane_trees ds) (of_kernel ssa) v)
      (λ x m there e. match-in-order v x m there e)
      (lanes_near all (term_at ssa v) (cut_at ssa v)) (near-all (IsThere (lane_trees ds)) all (term_at ssa v) (cut_at ssa v) (all-there (lane_trees ds))))
      (those-in-order (v + 1) n)

  pub all-in-order : AllByRecursion (BindsInOrder (map description_of ds)) (matches_of (lane_trees ds) (of_kernel ssa))
  all-in-order = those-in-order 0 (count_of (of_kernel ssa))
