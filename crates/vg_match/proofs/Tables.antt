-- The matches that are found are those of all lanes with all values that they fit, in order.
use Rattle.std.proofs.Common.{◌≡◌, ℕ, zero, suc, ◌+◌, ◌-◌, ◌<◌, ◌≤◌, true, List, [], ◌∷◌, ◌++◌, Option, Some, None, map, refl, sym, ap, subst, ◌∙◌, inl, inr, append_assoc, arith}
use Rattle.std.specs.Prelude.{◌&&◌, ◌||◌, nat_eq, nat_lt, filter, slice_get, IsSome}
use Rattle.std.specs.List.{AllByRecursion, cons_option, filter_map}
use Rattle.std.specs.Option.{option_map}
use Rattle.std.specs.declared.result.Result.{Result}
use Rattle.std.specs.Result.{OnOk}
use Rattle.std.proofs.lemmas.Bool.{cases_Bool, cond-true, cond-false, lt-ltb, eq-eqb, and_from, or_left, or_right}
use Rattle.std.proofs.lemmas.Option.{none-some}
use Rattle.vg_base.specs.Trap.{◌>>=◌}
use Rattle.vg_terms.specs.Chain.{makes_chains}
use Rattle.vg_terms.specs.declared.term.LeafKey.{LeafKey}
use Rattle.vg_terms.specs.Root.{is_constant}
use Rattle.vg_terms.specs.Term.{Tree, leaf, constant, one, two, sel}
use Rattle.vg_shapes.specs.declared.description.Description.{Description as Declared}
use Rattle.vg_shapes.specs.declared.match_table.Bound.{Bound}
use Rattle.vg_shapes.specs.declared.match_table.Match.{Match}
use Rattle.vg_shapes.specs.declared.ssa.Ssa.{Ssa}
use Rattle.vg_shapes.specs.Description.{description_of}
use Rattle.vg_shapes.specs.Fits.{Fits, FitsCut, FitsTurned, FitsWide, is_compound, replaced, turned}
use Rattle.vg_shapes.specs.MatchTable.{IsTable, stands_before}
use Rattle.vg_shapes.specs.Matches.{AllFound, AreMatches, IsMatch, lane_at}
use Rattle.vg_shapes.specs.Pack.{match_at}
use Rattle.vg_shapes.specs.Sound.{cut_at, cuts_of, term_at, terms_of}
use Rattle.vg_shapes.proofs.ValueTerms.{get-low}
use Rattle.vg_match.specs.declared.lane_list.LaneAt.{LaneAt}
use Rattle.vg_match.specs.declared.root.Root.{Root}
use Rattle.vg_match.specs.LaneList.{all_lanes, has_root, lanes_like, lanes_near, root_of}
use Rattle.vg_match.specs.Table.{count_of, lane_term, lane_trees, match_of, matches_from, matches_of, value_matches}
use Rattle.vg_match.specs.Values.{fit_first, of_kernel, ValueTerms}
use Rattle.vg_match.proofs.Members.{Has, has-left, has-right, has-filter, has-filter_map, found-has, all-filter, all-filter_map, all-append, all-weaker, some-same}
use Rattle.vg_match.proofs.Lanes.{comes_before, Rising, rising-filter, all-rise, IsThere, all-there, all-listed, lane-same}
use Rattle.vg_match.proofs.Merging.{all-merged, merged, Placed, placed-left, placed-right, rising-merged}
use Rattle.vg_match.proofs.Ways.{bind-some, first-cut, first-fits, first-turned, first-whole}

map-some : {X Y : Type 0} (o : Option X) (f : X → Y) (y : Y) → option_map f o ≡ Some y → (x : X) × (o ≡ Some x) × (f x ≡ y)
map-some None f y e = absurd (none-some y e)
map-some (Some x) f y e = (x, refl, some-same (f x) y e)

-- ---- the lanes that are tried with a value

like-rising : (all : List LaneAt) (o : Option Tree) → Rising all → Rising (lanes_like all o)
like-rising all None r = tt
like-rising all (Some t) r = rising-filter (has_root (root_of t)) all r

near-rising : (all : List LaneAt) (o n : Option Tree) → Rising all → Rising (lanes_near all o n)
near-rising all o n r = rising-merged (lanes_like all o) (lanes_like all n) (like-rising all o r) (like-rising all n r)

like-all : (P : LaneAt → Type 0) (all : List LaneAt) (o : Option Tree) → AllByRecursion P all → AllByRecursion P (lanes_like all o)
like-all P all None h = tt
like-all P all (Some t) h = all-filter P (has_root (root_of t)) all h

pub near-all : (P : LaneAt → Type 0) (all : List LaneAt) (o n : Option Tree) → AllByRecursion P all → AllByRecursion P (lanes_near all o n)
near-all P all o n h = all-merged P (lanes_like all o) (lanes_like all n) (like-all P all o h) (like-all P all n h)

-- lanes that are sorted by their roots, each root in its order, are tried as all are
like-sorted : (sorted all : List LaneAt) (o : Option Tree) → ((r : Root) → filter (has_root r) sorted ≡ filter (has_root r) all) → lanes_like sorted o ≡ lanes_like all o
like-sorted sorted all None same = refl
like-sorted sorted all (Some t) same = same (root_of t)

near-sorted : (sorted all : List LaneAt) (o n : Option Tree) → ((r : Root) → filter (has_root r) sorted ≡ filter (has_root r) all) → lanes_near sorted o n ≡ lanes_near all o n
near-sorted sorted all o n same = λ i. merged (like-sorted sorted all o same i) (like-sorted sorted all n same i)

-- what is appended of lanes is what is appended of the same lanes
pub appended-same : {T E : Type 0} (r : Result T E) (f : LaneAt → Option Match) (old new : List Match) (xs ys : List LaneAt) → xs ≡ ys
    → OnOk r (new ≡ old ++ filter_map f xs) → OnOk r (new ≡ old ++ filter_map f ys)
appended-same r f old new xs ys e h = subst (λ zs. OnOk r (new ≡ old ++ filter_map f zs)) e h

module _ (lanes : List (List Tree)) (values : ValueTerms) where
  -- one value more
  pub next-value : (sorted all : List LaneAt) (v n : ℕ) (old new : List Match) → ((r : Root) → filter (has_root r) sorted ≡ filter (has_root r) all) → v < n
      → new ≡ old ++ value_matches lanes values sorted v → new ++ matches_from lanes values all (v + 1) (n - (v + 1)) ≡ old ++ matches_from lanes values all v (n - v)
  next-value sorted all v n old new same l e =
      let more : suc (n - (v + 1)) ≡ n - v = omega arith in
      let own : value_matches lanes values sorted v ≡ value_matches lanes values all v =
      ap (filter_map (match_of lanes values v)) (near-sorted sorted all (slice_get values.terms v) (slice_get values.cuts v) same) in
      ap (λ l. l ++ matches_from lanes values all (v + 1) (n - (v + 1))) (e ∙ ap (λ l. old ++ l) own)
      ∙ append_assoc old (value_matches lanes values all v) (matches_from lanes values all (v + 1) (n - (v + 1)))
      ∙ ap (λ k. old ++ matches_from lanes values all v k) more

  -- what a match is of
  pub record MatchOf (v : ℕ) (x : LaneAt) (m : Match) : Type 0 where
    pub description : m.description ≡ x.description
    pub lane : m.lane ≡ x.lane
    pub value : m.value ≡ v
    pub term : Tree
    pub is : lane_term lanes x ≡ Some term
    pub fits : fit_first values v term ≡ Some m.bound

  pub match-of : (v : ℕ) (x : LaneAt) (m : Match) → match_of lanes values v x ≡ Some m → MatchOf v x m
  match-of v x m e =
      let p = map-some (lane_term lanes x >>= fit_first values v) (λ bound. record { description = x.description; lane = x.lane; value = v; bound = bound }) m e in
      let q = bind-some (lane_term lanes x) (fit_first values v) p.0 p.1 in
      record {
        description = sym (ap (λ (n : Match). n.description) p.2);
        lane = sym (ap (λ (n : Match). n.lane) p.2);
        value = sym (ap (λ (n : Match). n.value) p.2);
        term = q.0;
        is = q.1;
        fits = q.2 ∙ ap Some (ap (λ (n : Match). n.bound) p.2);
      }

  -- ---- the order

  of-value : (v : ℕ) (xs : List LaneAt) → AllByRecursion (λ m. m.value ≡ v) (filter_map (match_of lanes values v) xs)
  of-value v xs = all-filter_map (λ (x : LaneAt). Unit {0}) (λ (m : Match). m.value ≡ v) (match_of lanes values v) (λ x m h e. let p = match-of v x m e in p.value) xs (all-units xs)
    where
      all-units : (xs : List LaneAt) → AllByRecursion (λ x. Unit {0}) xs
      all-units [] = tt
      all-units (x ∷ xs) = (tt, all-units xs)

  in-order : (v : ℕ) (x y : LaneAt) (m n : Match) → MatchOf v x m → MatchOf v y n → comes_before x y ≡ true → stands_before n.description n.lane n.value m ≡ true
  in-order v x y m n p q h =
      let dx = p.description in
      let dy = q.description in
      let lx = p.lane in
      let ly = q.lane in
      let same : m.value ≡ n.value = p.value ∙ sym q.value in
      let later : (nat_lt m.description n.description || (nat_eq m.description n.description && nat_lt m.lane n.lane)) ≡ true =
      (λ i. nat_lt (dx i) (dy i) || (nat_eq (dx i) (dy i) && nat_lt (lx i) (ly i))) ∙ h in
      or_right (nat_lt m.value n.value) _ (and_from _ _ (eq-eqb m.value n.value same) later)

  value-table : (v : ℕ) (xs : List LaneAt) → Rising xs → IsTable (filter_map (match_of lanes values v) xs)
  value-table v [] r = tt
  value-table v (x ∷ xs) r = by (match_of lanes values v x) refl (value-table v xs r.1)
    where
      by : (o : Option Match) → match_of lanes values v x ≡ o → IsTable (filter_map (match_of lanes values v) xs) → IsTable (cons_option o (filter_map (match_of lanes values v) xs))
      by None e rest = rest
      by (Some m) e rest = (
        all-filter_map (λ (y : LaneAt). comes_before x y ≡ true) (λ (n : Match). stands_before n.description n.lane n.value m ≡ true) (match_of lanes values v)
            (λ y n h f. in-order v x y m n (match-of v x m e) (match-of v y n f) h) xs r.0,
        rest,
      )

  table-append : (ms ns : List Match) → IsTable ms → IsTable ns → AllByRecursion (λ m. AllByRecursion (λ n. stands_before n.description n.lane n.value m ≡ true) ns) ms → IsTable (ms ++ ns)
  table-append [] ns h g b = g
  table-append (m ∷ ms) ns h g b = (all-append (λ n. stands_before n.description n.lane n.value m ≡ true) ms ns h.0 b.0, table-append ms ns h.1 g b.1)

  abbrev near : List LaneAt → ℕ → List LaneAt
  near all v = lanes_near all (slice_get values.terms v) (slice_get values.cuts v)

  from-value : (all : List LaneAt) (v n : ℕ) → AllByRecursion (λ m. v ≤ m.value) (matches_from lanes values all v n)
  from-value all v zero = tt
  from-value all v (suc n) =
      all-append (λ m. v ≤ m.value) (value_matches lanes values all v) (matches_from lanes values all (v + 1) n)
      (all-weaker (λ (m : Match). m.value ≡ v) (λ (m : Match). v ≤ m.value) (λ m h. omega arith) (value_matches lanes values all v) (of-value v (near all v)))
      (all-weaker (λ (m : Match). v + 1 ≤ m.value) (λ (m : Match). v ≤ m.value) (λ m h. omega arith) (matches_from lanes values all (v + 1) n) (from-value all (v + 1) n))

  pub are-table : (all : List LaneAt) (v n : ℕ) → Rising all → IsTable (matches_from lanes values all v n)
  are-table all v zero r = tt
  are-table all v (suc n) r =
      table-append (value_matches lanes values all v) (matches_from lanes values all (v + 1) n)
      (value-table v (near all v) (near-rising all (slice_get values.terms v) (slice_get values.cuts v) r))
      (are-table all (v + 1) n r)
      (all-weaker (λ (m : Match). m.value ≡ v) (λ (m : Match). AllByRecursion (λ (k : Match). stands_before k.description k.lane k.value m ≡ true) (matches_from lanes values all (v + 1) n))
      (λ m e. all-weaker (λ (k : Match). v + 1 ≤ k.value) (λ (k : Match). stands_before k.description k.lane k.value m ≡ true)
      (λ k l. or_left (nat_lt m.value k.value) _ (lt-ltb m.value k.value (omega arith)))
      (matches_from lanes values all (v + 1) n) (from-value all (v + 1) n))
      (value_matches lanes values all v) (of-value v (near all v)))

  -- a match of a value among so many is among theirs
  of-those : (all : List LaneAt) (v k n : ℕ) (m : Match) → k < n → Has m (value_matches lanes values all (v + k)) → Has m (matches_from lanes values all v n)
  of-those all v k zero m l h = absurd (omega arith)
  of-those all v zero (suc n) m l h =
      let here : v + 0 ≡ v = omega arith in
      has-left m (value_matches lanes values all v) (matches_from lanes values all (v + 1) n) (subst (λ u. Has m (value_matches lanes values all u)) here h)
  of-those all v (suc k) (suc n) m l h =
      let next : v + suc k ≡ v + 1 + k = omega arith in
      has-right m (value_matches lanes values all v) (matches_from lanes values all (v + 1) n)
      (of-those all (v + 1) k n m (omega arith) (subst (λ u. Has m (value_matches lanes values all u)) next h))

-- ---- roots

root-same : (by : ℕ → LeafKey → Tree) (p : Tree) → is_compound p ≡ true → root_of (replaced by p) ≡ root_of p
root-same by (leaf w k) c = absurd (cc)
root-same by (constant w n) c = absurd (cc)
root-same by (one op w k x) c = refl
root-same by (two op w x y) c = refl
root-same by (sel w c x y) h = refl

turned-root : (t u : Tree) → turned t ≡ Some u → root_of t ≡ root_of u
turned-root (leaf w k) u e = absurd (none-some u e)
turned-root (constant w n) u e = absurd (none-some u e)
turned-root (one op w k x) u e = absurd (none-some u e)
turned-root (two op w x y) u e = elim (cases_Bool (makes_chains op && is_constant y)) [
  | inl t ↦ ap root_of (some-same (two op w y x) u (sym (cond-true _ (Some (two op w y x)) None t) ∙ e))
  | inr f ↦ absurd (none-some u (sym (cond-false _ (Some (two op w y x)) None f) ∙ e))
]
turned-root (sel w c x y) u e = absurd (none-some u e)

-- ---- each is a match

module _ (ds : List Declared) (ssa : Ssa) where
  abbrev all : List LaneAt
  all = all_lanes 0 (lane_trees ds)

  is-match : (v : ℕ) (x : LaneAt) (m : Match) → IsThere (lane_trees ds) x → match_of (lane_trees ds) (of_kernel ssa) v x ≡ Some m → IsMatch (map description_of ds) ssa m
  is-match v x m there e =
      let p = match-of (lane_trees ds) (of_kernel ssa) v x m e in
      let same : there.term ≡ p.term = some-same there.term p.term (sym there.is ∙ p.is) in
      let compound : is_compound p.term ≡ true = subst (λ y. is_compound y ≡ true) same there.compound in
      record {
        term = p.term;
        lane = (λ i. lane_at (map description_of ds) (p.description i) (p.lane i)) ∙ lane-same ds x.description x.lane ∙ p.is;
        fits = subst (λ u. FitsWide ssa p.term u m.bound) (sym p.value) (first-fits ssa v p.term m.bound compound p.fits);
      }

  are-right : (v n : ℕ) → AllByRecursion (IsMatch (map description_of ds) ssa) (matches_from (lane_trees ds) (of_kernel ssa) all v n)
  are-right v zero = tt
  are-right v (suc n) =
      all-append (IsMatch (map description_of ds) ssa) (value_matches (lane_trees ds) (of_kernel ssa) all v) (matches_from (lane_trees ds) (of_kernel ssa) all (v + 1) n)
      (all-filter_map (IsThere (lane_trees ds)) (IsMatch (map description_of ds) ssa) (match_of (lane_trees ds) (of_kernel ssa) v)
      (λ x m there e. is-match v x m there e)
      (lanes_near all (term_at ssa v) (cut_at ssa v)) (near-all (IsThere (lane_trees ds)) all (term_at ssa v) (cut_at ssa v) (all-there (lane_trees ds))))
      (are-right (v + 1) n)

  -- ---- none is missing

  abbrev at : ℕ → ℕ → Tree → LaneAt
  at d l p = record { root = root_of p; description = d; lane = l }

  root-passes : (t p : Tree) (d l : ℕ) → root_of t ≡ root_of p → has_root (root_of t) (at d l p) ≡ true
  root-passes t p d l e =
      let r = root_of p in
      ap (λ q. has_root q (at d l p)) e ∙ and_from _ _ (eq-eqb r.tag r.tag refl) (and_from _ _ (eq-eqb r.width r.width refl) (eq-eqb r.amount r.amount refl))

  -- a lane with the root of a term is tried with its value
  like-placed : (d l : ℕ) (p t : Tree) (o : Option Tree) → o ≡ Some t → root_of t ≡ root_of p → lane_term (lane_trees ds) (at d l p) ≡ Some p → is_compound p ≡ true → Placed d l (lanes_like all o)
  like-placed d l p t o e r there c = subst (λ q. Placed d l (lanes_like all q)) (sym e) (record {
    place = at d l p;
    has = has-filter (has_root (root_of t)) (at d l p) all (root-passes t p d l r) (all-listed (lane_trees ds) d l p there c);
    description = refl;
    lane = refl;
  })

  abbrev made : ℕ → ℕ → ℕ → List Bound → Match
  made d l v b = record { description = d; lane = l; value = v; bound = b }

  abbrev found : List Match
  found = matches_of (lane_trees ds) (of_kernel ssa)

  tried-found : (d l v : ℕ) (p : Tree) (b : List Bound) → v < count_of (of_kernel ssa) → lane_term (lane_trees ds) (at d l p) ≡ Some p
      → Placed d l (lanes_near all (term_at ssa v) (cut_at ssa v)) → fit_first (of_kernel ssa) v p ≡ Some b → IsSome (match_at found d l v)
  tried-found d l v p b low there placed f =
      let x = placed.place in
      let term : lane_term (lane_trees ds) x ≡ Some p =
      (λ i. slice_get (lane_trees ds) (placed.description i) >>= λ ts. slice_get ts (placed.lane i)) ∙ there in
      let is : match_of (lane_trees ds) (of_kernel ssa) v x ≡ Some (made d l v b) =
      (λ i. option_map (made (placed.description i) (placed.lane i) v) (lane_term (lane_trees ds) x >>= fit_first (of_kernel ssa) v))
      ∙ ap (option_map (made d l v)) (ap (λ o. o >>= fit_first (of_kernel ssa) v) term ∙ f) in
      let of : Has (made d l v b) (value_matches (lane_trees ds) (of_kernel ssa) all v) =
      has-filter_map (match_of (lane_trees ds) (of_kernel ssa) v) x (made d l v b) (lanes_near all (term_at ssa v) (cut_at ssa v)) is placed.has in
      let start : v ≡ 0 + v = omega arith in
      let has : Has (made d l v b) found =
      of-those (lane_trees ds) (of_kernel ssa) all 0 v (count_of (of_kernel ssa)) (made d l v b) low
      (subst (λ u. Has (made d l v b) (value_matches (lane_trees ds) (of_kernel ssa) all u)) start of) in
      found-has (λ m. nat_eq m.description d && (nat_eq m.lane l && nat_eq m.value v)) (made d l v b) found
      (and_from _ _ (eq-eqb d d refl) (and_from _ _ (eq-eqb l l refl) (eq-eqb v v refl))) has

  term-counted : (v : ℕ) (t : Tree) → term_at ssa v ≡ Some t → v < count_of (of_kernel ssa)
  term-counted v t e = let low = get-low (terms_of ssa) v t e in omega arith

  cut-counted : (v : ℕ) (t : Tree) → cut_at ssa v ≡ Some t → v < count_of (of_kernel ssa)
  cut-counted v t e = let low = get-low (cuts_of ssa) v t e in omega arith

  near-term : (d l v : ℕ) → Placed d l (lanes_like all (term_at ssa v)) → Placed d l (lanes_near all (term_at ssa v) (cut_at ssa v))
  near-term d l v p = placed-left d l (lanes_like all (term_at ssa v)) (lanes_like all (cut_at ssa v)) p

  near-cut : (d l v : ℕ) → Placed d l (lanes_like all (cut_at ssa v)) → Placed d l (lanes_near all (term_at ssa v) (cut_at ssa v))
  near-cut d l v p = placed-right d l (lanes_like all (term_at ssa v)) (lanes_like all (cut_at ssa v)) p

  lane-is : (d l : ℕ) (p : Tree) → lane_at (map description_of ds) d l ≡ Some p → lane_term (lane_trees ds) (at d l p) ≡ Some p
  lane-is d l p there = sym (lane-same ds d l) ∙ there

  whole-there : AllFound (Fits ssa) (map description_of ds) found
  whole-there d l v p bound there f =
      let b = first-whole ssa v p bound f in
      let own = lane-is d l p there in
      tried-found d l v p b.0 (term-counted v _ f.whole) own
      (near-term d l v (like-placed d l p (replaced f.by p) (term_at ssa v) f.whole (root-same f.by p f.compound) own f.compound)) b.1

  cut-there : AllFound (FitsCut ssa) (map description_of ds) found
  cut-there d l v p bound there f =
      let b = first-cut ssa v p bound f in
      let own = lane-is d l p there in
      tried-found d l v p b.0 (cut-counted v _ f.whole) own
      (near-cut d l v (like-placed d l p (replaced f.by p) (cut_at ssa v) f.whole (root-same f.by p f.compound) own f.compound)) b.1

  turned-there : AllFound (FitsTurned ssa) (map description_of ds) found
  turned-there d l v p bound there f =
      let b = first-turned ssa v p bound f in
      let own = lane-is d l p there in
      let t = bind-some (cut_at ssa v) turned (replaced f.by p) f.whole in
      tried-found d l v p b.0 (cut-counted v t.0 t.1) own
      (near-cut d l v (like-placed d l p t.0 (cut_at ssa v) t.1 (turned-root t.0 (replaced f.by p) t.2 ∙ root-same f.by p f.compound) own f.compound)) b.1

  pub are-matches : AreMatches (map description_of ds) ssa (matches_of (lane_trees ds) (of_kernel ssa))
  are-matches = record {
    right = are-right 0 (count_of (of_kernel ssa));
    whole = whole-there;
    cut = cut-there;
    turned = turned-there;
  }

  pub is-table : IsTable (matches_of (lane_trees ds) (of_kernel ssa))
  is-table = are-table (lane_trees ds) (of_kernel ssa) all 0 (count_of (of_kernel ssa)) (all-rise 0 (lane_trees ds))
