-- What matched lanes tell: their terms fit, lanes are wide, and their leaves are those of parameters.
use Rattle.std.proofs.Common.{◌≡◌, ℕ, zero, suc, ◌+◌, ◌<◌, ◌≤◌, true, List, [], ◌∷◌, length, refl, sym, ◌∙◌, ap, subst, inl, inr, arith, get_or}
use Rattle.std.specs.Prelude.{◌||◌, is_some, Option, Some, None, slice_get}
use Rattle.std.specs.List.{filter_map}
use Rattle.std.specs.Option.{option_map_or}
use Rattle.std.proofs.lemmas.Bool.{or_cases}
use Rattle.vg_base.specs.Trap.{◌>>=◌}
use Rattle.vg_plans.specs.Members.{Has}
use Rattle.vg_plans.proofs.Members.{has-append, has-left, has-right}
use Rattle.vg_terms.specs.declared.term.LeafKey.{LeafKey}
use Rattle.vg_terms.specs.Term.{Tree, leaf, constant, one, two, sel, WellFormed, width_of}
use Rattle.vg_shapes.specs.declared.match_table.Bound.{Bound}
use Rattle.vg_shapes.specs.declared.match_table.Match.{Match}
use Rattle.vg_shapes.specs.declared.ssa.Ssa.{Ssa}
use Rattle.vg_shapes.specs.Description.{Description, IsLane, IsPackable}
use Rattle.vg_shapes.specs.Fits.{FitsWide, has_leaf}
use Rattle.vg_shapes.specs.Matches.{AreMatches, lane_at}
use Rattle.vg_shapes.specs.Pack.{bounds_from, match_at}
use Rattle.vg_shapes.specs.Registers.{LeavesInside}
use Rattle.vg_shapes.specs.declared.wanted.Wanted.TheVariants.{Nothing}
use Rattle.vg_match.proofs.Binding.{leaf-same}
use Rattle.vg_match.proofs.Laws.{found-fit as fit-found, wide-alone}
use Rattle.vg_kernel_plans.specs.Producers.{are_matched}
use Rattle.vg_kernel_plans.proofs.SameTests.{both-true}
use Rattle.vg_plan_relations.specs.Produces.{Binds, HasLane}
use Rattle.vg_plan_relations.proofs.Lists.{all-has, get-has}

-- ---- matches

-- a match that is found, with what it says
pub record IsFound (ds : List Description) (matches : List Match) (ssa : Ssa) (d i v : ℕ) : Type 0 where
  pub found : Match
  pub is : match_at matches d i v ≡ Some found
  pub term : Tree
  pub lane : lane_at ds d i ≡ Some term
  pub fits : FitsWide ssa term v found.bound

pub found-fit : (ds : List Description) (matches : List Match) (ssa : Ssa) (d i v : ℕ) → AreMatches ds ssa matches
    → is_some (match_at matches d i v) ≡ true → IsFound ds matches ssa d i v
found-fit ds matches ssa d i v are t = by (match_at matches d i v) refl t
  where
    by : (o : Option Match) → match_at matches d i v ≡ o → is_some o ≡ true → IsFound ds matches ssa d i v
    by None e s = absurd (cc)
    by (Some m) e s =
        let f = fit-found ds ssa matches are d i v m e in
        record { found = m; is = e; term = f.0; lane = f.1; fits = f.2 }

pub lane-term : (ds : List Description) (d i : ℕ) (e : Description) (t : Tree)
    → slice_get ds d ≡ Some e → lane_at ds d i ≡ Some t → slice_get e.lanes i ≡ Some t
lane-term ds d i e t there at = sym (ap (λ o. o >>= λ (y : Description). slice_get y.lanes i) there) ∙ at

-- ---- lanes that are matched

next-lane : (n : ℕ) → suc n ≡ n + 1
next-lane n = omega arith

pub matched-at : (matches : List Match) (d n i v : ℕ) (lanes : List (Option ℕ)) → are_matched matches d n lanes ≡ true
    → HasLane lanes i v → is_some (match_at matches d (n + i) v) ≡ true
matched-at matches d n zero v [] t h = absurd (cc)
matched-at matches d n (suc i) v [] t h = absurd (cc)
matched-at matches d n zero v (None ∷ lanes) t h = absurd (cc)
matched-at matches d n zero v (Some u ∷ lanes) t h =
    let b = both-true (is_some (match_at matches d n u)) (are_matched matches d (suc n) lanes) t in
    let same : u ≡ v = cc in
    let at : n ≡ n + 0 = omega arith in
    subst (λ k. is_some (match_at matches d k v) ≡ true) at (subst (λ x. is_some (match_at matches d n x) ≡ true) same b.0)
matched-at matches d n (suc i) v (None ∷ lanes) t h =
    let at : suc n + i ≡ n + suc i = omega arith in
    subst (λ k. is_some (match_at matches d k v) ≡ true) at (matched-at matches d (suc n) i v lanes t h)
matched-at matches d n (suc i) v (Some u ∷ lanes) t h =
    let b = both-true (is_some (match_at matches d n u)) (are_matched matches d (suc n) lanes) t in
    let at : suc n + i ≡ n + suc i = omega arith in
    subst (λ k. is_some (match_at matches d k v) ≡ true) at (matched-at matches d (suc n) i v lanes b.1 h)

pub at-matched : (matches : List Match) (d n : ℕ) (lanes : List (Option ℕ))
    → ((i v : ℕ) → HasLane lanes i v → is_some (match_at matches d (n + i) v) ≡ true) → are_matched matches d n lanes ≡ true
at-matched matches d n [] h = refl
at-matched matches d n (None ∷ lanes) h =
    at-matched matches d (suc n) lanes (λ i v k.
    let at : n + suc i ≡ suc n + i = omega arith in
    subst (λ x. is_some (match_at matches d x v) ≡ true) at (h (suc i) v k))
at-matched matches d n (Some u ∷ lanes) h =
    let rest = at-matched matches d (suc n) lanes (λ i v k.
    let at : n + suc i ≡ suc n + i = omega arith in
    subst (λ x. is_some (match_at matches d x v) ≡ true) at (h (suc i) v k)) in
    let here : n + 0 ≡ n = omega arith in
    let first = subst (λ x. is_some (match_at matches d x u) ≡ true) here (h zero u refl) in
    rw first rest

-- what a lane binds is bound
pub bound-there : (matches : List Match) (d n i v : ℕ) (lanes : List (Option ℕ)) (m : Match) (b : Bound)
    → HasLane lanes i v → match_at matches d (n + i) v ≡ Some m → Has b m.bound → Has b (bounds_from matches d n lanes)
bound-there matches d n zero v [] m b h e k = absurd (cc)
bound-there matches d n (suc i) v [] m b h e k = absurd (cc)
bound-there matches d n zero v (None ∷ lanes) m b h e k = absurd (cc)
bound-there matches d n zero v (Some u ∷ lanes) m b h e k =
    let same : u ≡ v = cc in
    let at : n + 0 ≡ n = omega arith in
    let here : match_at matches d n u ≡ Some m =
    ap (λ x. match_at matches d n x) same ∙ ap (λ x. match_at matches d x v) (sym at) ∙ e in
    has-left b _ (bounds_from matches d (n + 1) lanes)
    (subst (λ o. Has b (option_map_or (λ (m : Match). m.bound) o [])) (sym here) k)
bound-there matches d n (suc i) v (None ∷ lanes) m b h e k =
    let at : n + 1 + i ≡ n + suc i = omega arith in
    bound-there matches d (n + 1) i v lanes m b h (ap (λ x. match_at matches d x v) at ∙ e) k
bound-there matches d n (suc i) v (Some u ∷ lanes) m b h e k =
    let at : n + 1 + i ≡ n + suc i = omega arith in
    has-right b (option_map_or (λ (m : Match). m.bound) (match_at matches d n u) []) (bounds_from matches d (n + 1) lanes)
    (bound-there matches d (n + 1) i v lanes m b h (ap (λ x. match_at matches d x v) at ∙ e) k)

-- what is bound, a lane binds
abbrev pub BindsFrom : List Match → ℕ → ℕ → List (Option ℕ) → Bound → Type 0
BindsFrom matches d n lanes b =
    (i : ℕ) × (v : ℕ) × (m : Match) × HasLane lanes i v × (match_at matches d (n + i) v ≡ Some m) × Has b m.bound

binds-later : (matches : List Match) (d n : ℕ) (o : Option ℕ) (lanes : List (Option ℕ)) (b : Bound)
    → BindsFrom matches d (n + 1) lanes b → BindsFrom matches d n (o ∷ lanes) b
binds-later matches d n o lanes b k =
    let at : n + suc k.0 ≡ n + 1 + k.0 = omega arith in
    (suc k.0, k.1, k.2, k.3, ap (λ x. match_at matches d x k.1) at ∙ k.4, k.5)

bound-one : (matches : List Match) (d n u : ℕ) (lanes : List (Option ℕ)) (b : Bound) (o : Option Match) → match_at matches d n u ≡ o
    → Has b (option_map_or (λ (m : Match). m.bound) o []) → BindsFrom matches d n (Some u ∷ lanes) b
bound-one matches d n u lanes b None e h = absurd h
bound-one matches d n u lanes b (Some m) e h =
    let at : n + 0 ≡ n = omega arith in
    (zero, u, m, refl, ap (λ x. match_at matches d x u) at ∙ e, h)

pub bound-binds : (matches : List Match) (d n : ℕ) (lanes : List (Option ℕ)) (b : Bound)
    → Has b (bounds_from matches d n lanes) → BindsFrom matches d n lanes b
bound-binds matches d n [] b h = absurd h
bound-binds matches d n (None ∷ lanes) b h = binds-later matches d n None lanes b (bound-binds matches d (n + 1) lanes b h)
bound-binds matches d n (Some u ∷ lanes) b h =
    elim (has-append b (option_map_or (λ (m : Match). m.bound) (match_at matches d n u) []) (bounds_from matches d (n + 1) lanes) h) [
      | inl k ↦ bound-one matches d n u lanes b (match_at matches d n u) refl k
      | inr k ↦ binds-later matches d n (Some u) lanes b (bound-binds matches d (n + 1) lanes b k)
    ]

-- ---- lanes of packable descriptions

formed-wide : (t : Tree) → WellFormed t → 0 < width_of t
formed-wide (leaf w k) h = h.0
formed-wide (constant w n) h = h.0.0
formed-wide (one op w k x) h = h.0.0
formed-wide (two op w x y) h = h.0.0
formed-wide (sel w c x y) h = h.0.0

-- a lane that has a term has a width
pub lane-wide : (e : Description) (i : ℕ) (t : Tree) → IsPackable e → slice_get e.lanes i ≡ Some t → 0 < e.lane_width
lane-wide e i t packable at =
    let is = all-has (IsLane e.params e.lane_width) e.lanes t packable.lanes (get-has e.lanes i t at) in
    subst (λ n. 0 < n) is.wide (formed-wide t is.formed)

-- a list with a value has a lane with one
pub lane-with : (lanes : List (Option ℕ)) → 1 ≤ length (filter_map (λ v. v) lanes) → (i : ℕ) × (v : ℕ) × HasLane lanes i v
lane-with [] l = absurd (omega (arith, l))
lane-with (None ∷ lanes) l = let k = lane-with lanes l in (suc k.0, k.1, k.2)
lane-with (Some v ∷ lanes) l = (zero, v, refl)

pub param-there : (ws : List ℕ) (k : ℕ) → 0 < get_or ws k 0 → k < length ws
param-there [] k h = absurd (omega (arith, h))
param-there (w ∷ ws) zero h = omega arith
param-there (w ∷ ws) (suc k) h = let r = param-there ws k h in omega (arith, r)

-- a leaf that a term has is one of a parameter
leaf-param : (ws : List ℕ) (t : Tree) (w : ℕ) (k : LeafKey) → WellFormed t → LeavesInside ws t → has_leaf w k t ≡ true → k.first < length ws
leaf-param ws (leaf u l) w k f h e =
    let b = leaf-same w k (record { key = l; width = u; wanted = Nothing }) e in
    let same : k.first ≡ h.0 = ap (λ (y : LeafKey). y.first) b.1 ∙ ap (λ (y : LeafKey). y.first) h.2 in
    let some = f.0 in
    let room = h.3 in
    let wide : 0 < get_or ws h.0 0 = omega (arith, some, room) in
    subst (λ n. n < length ws) (sym same) (param-there ws h.0 wide)
leaf-param ws (constant u n) w k f h e = absurd (cc)
leaf-param ws (one op u n x) w k f h e = leaf-param ws x w k f.2 h e
leaf-param ws (two op u x y) w k f h e = elim (or_cases (has_leaf w k x) (has_leaf w k y) e) [
  | inl t ↦ leaf-param ws x w k f.2 h.0 t
  | inr t ↦ leaf-param ws y w k f.3 h.1 t
]
leaf-param ws (sel u c x y) w k f h e = elim (or_cases (has_leaf w k c) (has_leaf w k x || has_leaf w k y) e) [
  | inl t ↦ leaf-param ws c w k f.2 h.0 t
  | inr r ↦ elim (or_cases (has_leaf w k x) (has_leaf w k y) r) [
    | inl t ↦ leaf-param ws x w k f.3 h.1 t
    | inr t ↦ leaf-param ws y w k f.4 h.2 t
  ]
]

-- a leaf that a lane binds is one of a parameter
pub binds-param : (ds : List Description) (matches : List Match) (ssa : Ssa) (d : ℕ) (e : Description) (lanes : List (Option ℕ)) (b : Bound)
    → AreMatches ds ssa matches → slice_get ds d ≡ Some e → IsPackable e → Binds matches d lanes b → b.key.first < length e.params
binds-param ds matches ssa d e lanes b are there packable k =
    let i = k.0 in
    let v = k.1 in
    let f = found-fit ds matches ssa d i v are (ap is_some k.4) in
    let at = lane-term ds d i e f.term there f.lane in
    let is = all-has (IsLane e.params e.lane_width) e.lanes f.term packable.lanes (get-has e.lanes i f.term at) in
    let same : Some k.2 ≡ Some f.found = sym k.4 ∙ f.is in
    let own : k.2 ≡ f.found = cc in
    let has : Has b f.found.bound = subst (λ (m : Match). Has b m.bound) own k.5 in
    leaf-param e.params f.term b.width b.key is.formed is.inside
    (all-has (λ (c : Bound). has_leaf c.width c.key f.term ≡ true) f.found.bound b (wide-alone ssa f.term v f.found.bound f.fits) has)
