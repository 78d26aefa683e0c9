-- The lanes of descriptions, in order.
use Rattle.std.proofs.Common.{◌≡◌, ℕ, zero, suc, ◌+◌, ◌<◌, ◌≤◌, Bool, true, List, [], ◌∷◌, ◌++◌, Option, Some, None, map, refl, sym, ap, subst, ◌∙◌, inl, inr, arith}
use Rattle.std.specs.Prelude.{◌&&◌, ◌||◌, nat_eq, nat_lt, filter, slice_get}
use Rattle.std.specs.List.{AllByRecursion}
use Rattle.std.proofs.lemmas.Bool.{cases_Bool, cond-true, cond-false, lt-ltb, eq-eqb, and_from, or_left, or_right}
use Rattle.std.proofs.lemmas.Option.{none-some}
use Rattle.vg_base.specs.Trap.{◌>>=◌}
use Rattle.vg_terms.specs.Term.{Tree}
use Rattle.vg_shapes.specs.declared.description.Description.{Description as Declared}
use Rattle.vg_shapes.specs.Description.{description_of}
use Rattle.vg_shapes.specs.Fits.{is_compound}
use Rattle.vg_shapes.specs.Matches.{lane_at}
use Rattle.vg_match.specs.declared.lane_list.LaneAt.{LaneAt}
use Rattle.vg_match.specs.LaneList.{all_lanes, lanes_from, root_of}
use Rattle.vg_match.specs.Table.{lane_term, lane_trees}
use Rattle.vg_match.proofs.Members.{Has, has-left, has-right, all-filter, all-append, all-weaker}

-- ---- the order of lanes

abbrev pub comes_before : LaneAt → LaneAt → Bool
comes_before x y = nat_lt x.description y.description || (nat_eq x.description y.description && nat_lt x.lane y.lane)

abbrev pub Rising : List LaneAt → Type 0
Rising [] = Unit {0}
Rising (x ∷ xs) = AllByRecursion (λ y. comes_before x y ≡ true) xs × Rising xs

pub rising-filter : (p : LaneAt → Bool) (xs : List LaneAt) → Rising xs → Rising (filter p xs)
rising-filter p [] h = tt
rising-filter p (x ∷ xs) h = elim (cases_Bool (p x)) [
  | inl t ↦ subst Rising (sym (cond-true (p x) (x ∷ filter p xs) (filter p xs) t)) (all-filter (λ y. comes_before x y ≡ true) p xs h.0, rising-filter p xs h.1)
  | inr f ↦ subst Rising (sym (cond-false (p x) (x ∷ filter p xs) (filter p xs) f)) (rising-filter p xs h.1)
]

rising-append : (xs ys : List LaneAt) → Rising xs → Rising ys → AllByRecursion (λ x. AllByRecursion (λ y. comes_before x y ≡ true) ys) xs → Rising (xs ++ ys)
rising-append [] ys h g b = g
rising-append (x ∷ xs) ys h g b = (all-append (λ y. comes_before x y ≡ true) xs ys h.0 b.0, rising-append xs ys h.1 g b.1)

later-lane : (x y : LaneAt) → x.description ≡ y.description → x.lane < y.lane → comes_before x y ≡ true
later-lane x y e l = or_right (nat_lt x.description y.description) _ (and_from _ _ (eq-eqb x.description y.description e) (lt-ltb x.lane y.lane l))

later-description : (x y : LaneAt) → x.description < y.description → comes_before x y ≡ true
later-description x y l = or_left (nat_lt x.description y.description) _ (lt-ltb x.description y.description l)

abbrev at : ℕ → ℕ → Tree → LaneAt
at d l t = record { root = root_of t; description = d; lane = l }

-- each lane of a list of terms is of its description, and not before this one
lanes-behind : (d l : ℕ) (ts : List Tree) → AllByRecursion (λ y. (y.description ≡ d) × (l ≤ y.lane)) (lanes_from d l ts)
lanes-behind d l [] = tt
lanes-behind d l (t ∷ ts) =
    let rest = all-weaker (λ (y : LaneAt). (y.description ≡ d) × (l + 1 ≤ y.lane)) (λ (y : LaneAt). (y.description ≡ d) × (l ≤ y.lane)) (λ y h. (h.0, (let g = h.1 in omega arith))) (lanes_from d (l + 1) ts) (lanes-behind d (l + 1) ts) in
    elim (cases_Bool (is_compound t)) [
      | inl s ↦ subst (AllByRecursion (λ y. (y.description ≡ d) × (l ≤ y.lane))) (sym (cond-true (is_compound t) (at d l t ∷ lanes_from d (l + 1) ts) (lanes_from d (l + 1) ts) s)) ((refl, omega arith), rest)
      | inr f ↦ subst (AllByRecursion (λ y. (y.description ≡ d) × (l ≤ y.lane))) (sym (cond-false (is_compound t) (at d l t ∷ lanes_from d (l + 1) ts) (lanes_from d (l + 1) ts) f)) rest
    ]

lanes-rise : (d l : ℕ) (ts : List Tree) → Rising (lanes_from d l ts)
lanes-rise d l [] = tt
lanes-rise d l (t ∷ ts) = elim (cases_Bool (is_compound t)) [
  | inl s ↦
      subst Rising (sym (cond-true (is_compound t) (at d l t ∷ lanes_from d (l + 1) ts) (lanes_from d (l + 1) ts) s)) (
        all-weaker (λ (y : LaneAt). (y.description ≡ d) × (l + 1 ≤ y.lane)) (λ (y : LaneAt). comes_before (at d l t) y ≡ true) (λ y h. later-lane (at d l t) y (sym h.0) (let g = h.1 in omega arith)) (lanes_from d (l + 1) ts) (lanes-behind d (l + 1) ts),
        lanes-rise d (l + 1) ts,
      )
  | inr f ↦ subst Rising (sym (cond-false (is_compound t) (at d l t ∷ lanes_from d (l + 1) ts) (lanes_from d (l + 1) ts) f)) (lanes-rise d (l + 1) ts)
]

all-behind : (d : ℕ) (tss : List (List Tree)) → AllByRecursion (λ y. d ≤ y.description) (all_lanes d tss)
all-behind d [] = tt
all-behind d (ts ∷ tss) =
    all-append (λ y. d ≤ y.description) (lanes_from d 0 ts) (all_lanes (d + 1) tss)
    (all-weaker (λ (y : LaneAt). (y.description ≡ d) × (0 ≤ y.lane)) (λ (y : LaneAt). d ≤ y.description) (λ y h. (let g = h.0 in omega arith)) (lanes_from d 0 ts) (lanes-behind d 0 ts))
    (all-weaker (λ (y : LaneAt). d + 1 ≤ y.description) (λ (y : LaneAt). d ≤ y.description) (λ y h. omega arith) (all_lanes (d + 1) tss) (all-behind (d + 1) tss))

pub all-rise : (d : ℕ) (tss : List (List Tree)) → Rising (all_lanes d tss)
all-rise d [] = tt
all-rise d (ts ∷ tss) =
    rising-append (lanes_from d 0 ts) (all_lanes (d + 1) tss) (lanes-rise d 0 ts) (all-rise (d + 1) tss)
    (all-weaker (λ (x : LaneAt). (x.description ≡ d) × (0 ≤ x.lane)) (λ (x : LaneAt). AllByRecursion (λ (y : LaneAt). comes_before x y ≡ true) (all_lanes (d + 1) tss))
    (λ x h. all-weaker (λ (y : LaneAt). d + 1 ≤ y.description) (λ (y : LaneAt). comes_before x y ≡ true) (λ y g. later-description x y (let e = h.0 in omega arith)) (all_lanes (d + 1) tss) (all-behind (d + 1) tss))
    (lanes_from d 0 ts) (lanes-behind d 0 ts))

-- ---- what they are

-- a lane that is there, with a term that is no leaf and no constant
pub record IsThere (lanes : List (List Tree)) (x : LaneAt) : Type 0 where
  pub term : Tree
  pub is : lane_term lanes x ≡ Some term
  pub compound : is_compound term ≡ true

lanes-there : (lanes : List (List Tree)) (d l : ℕ) (full ts : List Tree) → slice_get lanes d ≡ Some full → ((k : ℕ) (t : Tree) → slice_get ts k ≡ Some t → slice_get full (l + k) ≡ Some t) → AllByRecursion (IsThere lanes) (lanes_from d l ts)
lanes-there lanes d l full [] e h = tt
lanes-there lanes d l full (t ∷ ts) e h =
    let rest = lanes-there lanes d (l + 1) full ts e (λ k u g. let same : l + suc k ≡ l + 1 + k = omega arith in subst (λ n. slice_get full n ≡ Some u) same (h (suc k) u g)) in
    elim (cases_Bool (is_compound t)) [
      | inl s ↦
          let here : l + 0 ≡ l = omega arith in
          subst (AllByRecursion (IsThere lanes)) (sym (cond-true (is_compound t) (at d l t ∷ lanes_from d (l + 1) ts) (lanes_from d (l + 1) ts) s))
          (record { term = t; is = ap (λ o. o >>= λ us. slice_get us l) e ∙ subst (λ n. slice_get full n ≡ Some t) here (h 0 t refl); compound = s }, rest)
      | inr f ↦ subst (AllByRecursion (IsThere lanes)) (sym (cond-false (is_compound t) (at d l t ∷ lanes_from d (l + 1) ts) (lanes_from d (l + 1) ts) f)) rest
    ]

all-there-from : (lanes : List (List Tree)) (d : ℕ) (tss : List (List Tree)) → ((k : ℕ) (ts : List Tree) → slice_get tss k ≡ Some ts → slice_get lanes (d + k) ≡ Some ts) → AllByRecursion (IsThere lanes) (all_lanes d tss)
all-there-from lanes d [] h = tt
all-there-from lanes d (ts ∷ tss) h =
    let here : d + 0 ≡ d = omega arith in
    all-append (IsThere lanes) (lanes_from d 0 ts) (all_lanes (d + 1) tss)
    (lanes-there lanes d 0 ts ts (subst (λ n. slice_get lanes n ≡ Some ts) here (h 0 ts refl)) (λ k t g. let same : k ≡ 0 + k = omega arith in subst (λ n. slice_get ts n ≡ Some t) same g))
    (all-there-from lanes (d + 1) tss (λ k us g. let same : d + suc k ≡ d + 1 + k = omega arith in subst (λ n. slice_get lanes n ≡ Some us) same (h (suc k) us g)))

pub all-there : (lanes : List (List Tree)) → AllByRecursion (IsThere lanes) (all_lanes 0 lanes)
all-there lanes = all-there-from lanes 0 lanes (λ k ts g. let same : k ≡ 0 + k = omega arith in subst (λ n. slice_get lanes n ≡ Some ts) same g)

-- ---- that they are all

lane-listed : (d l k : ℕ) (ts : List Tree) (t : Tree) → slice_get ts k ≡ Some t → is_compound t ≡ true → Has (at d (l + k) t) (lanes_from d l ts)
lane-listed d l k [] t e c = absurd (none-some t e)
lane-listed d l zero (u ∷ ts) t e c =
    let same : u ≡ t = cc in
    let here : l ≡ l + 0 = omega arith in
    subst (Has (at d (l + 0) t)) (sym (cond-true (is_compound u) (at d l u ∷ lanes_from d (l + 1) ts) (lanes_from d (l + 1) ts) (ap is_compound same ∙ c)))
    (inl (λ i. at d (here i) (same i)))
lane-listed d l (suc k) (u ∷ ts) t e c =
    let next : l + 1 + k ≡ l + suc k = omega arith in
    let rest : Has (at d (l + suc k) t) (lanes_from d (l + 1) ts) = subst (λ n. Has (at d n t) (lanes_from d (l + 1) ts)) next (lane-listed d (l + 1) k ts t e c) in
    elim (cases_Bool (is_compound u)) [
      | inl s ↦ subst (Has (at d (l + suc k) t)) (sym (cond-true (is_compound u) (at d l u ∷ lanes_from d (l + 1) ts) (lanes_from d (l + 1) ts) s)) (inr rest)
      | inr f ↦ subst (Has (at d (l + suc k) t)) (sym (cond-false (is_compound u) (at d l u ∷ lanes_from d (l + 1) ts) (lanes_from d (l + 1) ts) f)) rest
    ]

all-listed-from : (d k l : ℕ) (tss : List (List Tree)) (ts : List Tree) (t : Tree) → slice_get tss k ≡ Some ts → slice_get ts l ≡ Some t → is_compound t ≡ true → Has (at (d + k) l t) (all_lanes d tss)
all-listed-from d k l [] ts t e g c = absurd (none-some ts e)
all-listed-from d zero l (us ∷ tss) ts t e g c =
    let same : us ≡ ts = cc in
    let here : d ≡ d + 0 = omega arith in
    let start : 0 + l ≡ l = omega arith in
    has-left (at (d + 0) l t) (lanes_from d 0 us) (all_lanes (d + 1) tss)
    (subst (λ n. Has (at n l t) (lanes_from d 0 us)) here (subst (λ n. Has (at d n t) (lanes_from d 0 us)) start (lane-listed d 0 l us t (ap (λ x. slice_get x l) same ∙ g) c)))
all-listed-from d (suc k) l (us ∷ tss) ts t e g c =
    let next : d + 1 + k ≡ d + suc k = omega arith in
    has-right (at (d + suc k) l t) (lanes_from d 0 us) (all_lanes (d + 1) tss)
    (subst (λ n. Has (at n l t) (all_lanes (d + 1) tss)) next (all-listed-from (d + 1) k l tss ts t e g c))

pub all-listed : (lanes : List (List Tree)) (d l : ℕ) (t : Tree) → (slice_get lanes d >>= λ ts. slice_get ts l) ≡ Some t → is_compound t ≡ true → Has (at d l t) (all_lanes 0 lanes)
all-listed lanes d l t e c = by (slice_get lanes d) refl e
  where
    by : (o : Option (List Tree)) → slice_get lanes d ≡ o → (o >>= λ ts. slice_get ts l) ≡ Some t → Has (at d l t) (all_lanes 0 lanes)
    by None g h = absurd (none-some t h)
    by (Some ts) g h = let start : 0 + d ≡ d = omega arith in subst (λ n. Has (at n l t) (all_lanes 0 lanes)) start (all-listed-from 0 d l lanes ts t g h c)

-- ---- the lanes of descriptions

pub lane-same : (ds : List Declared) (d l : ℕ) → lane_at (map description_of ds) d l ≡ (slice_get (lane_trees ds) d >>= λ ts. slice_get ts l)
lane-same [] d l = refl
lane-same (x ∷ ds) zero l = refl
lane-same (x ∷ ds) (suc d) l = lane-same ds d l
