-- There is one table of all matches of descriptions with values.
use Rattle.std.proofs.Common.{◌≡◌, ℕ, ◌⊎◌, Bool, true, false, List, [], ◌∷◌, Option, Some, None, refl, sym, ap, subst, ◌∙◌, inl, inr, arith}
use Rattle.std.specs.Prelude.{◌&&◌, ◌||◌, IsSome, find, nat_eq, slice_get}
use Rattle.std.specs.List.{AllByRecursion, IsDistinct}
use Rattle.std.proofs.lemmas.Bool.{cases_Bool, and_parts, both_ways, cond-true, cond-false, eqb-true}
use Rattle.std.proofs.lemmas.Bool.Decides.{nat_tests}
use Rattle.std.proofs.lemmas.Option.{none-some}
use Rattle.vg_base.specs.Trap.{◌>>=◌}
use Rattle.vg_terms.specs.declared.term.LeafKey.{LeafKey}
use Rattle.vg_terms.specs.Term.{Tree, leaf, constant, one, two, sel}
use Rattle.vg_terms.specs.Value.{same_key}
use Rattle.vg_shapes.specs.declared.match_table.Bound.{Bound}
use Rattle.vg_shapes.specs.declared.match_table.Match.{Match}
use Rattle.vg_shapes.specs.declared.ssa.Ssa.{Ssa}
use Rattle.vg_shapes.specs.declared.wanted.Wanted.TheVariants.{Nothing}
use Rattle.vg_shapes.specs.Bindings.{bound_leaves, BindsInOrder}
use Rattle.vg_shapes.specs.Description.{Description}
use Rattle.vg_shapes.specs.Fits.{EachLeaf, Fits, FitsBy, FitsCut, FitsTurned, FitsWide, fits_whole, fits_cut, fits_turned, has_leaf, same_leaf, turned, turned_at, wanted_for}
use Rattle.vg_shapes.specs.Matches.{IsMatch, lane_at}
use Rattle.vg_shapes.specs.MatchTable.{IsTable, stands_before}
use Rattle.vg_shapes.specs.Pack.{match_at}
use Rattle.vg_shapes.specs.Sound.{cut_at, name_at, name_of, term_at}
use Rattle.vg_match.specs.Laws.{BindTheSame, HaveSameValues, IsOrderedTable, OneTable}
use Rattle.vg_match.proofs.Binding.{entry, is_leaf, leaf-itself, leaf-same}
use Rattle.vg_match.proofs.Laws.{one-binding, wide-alone, wide-found, wide-once}
use Rattle.vg_match.proofs.Members.{Has, some-same}

-- ---- tables of the same matches are the same

abbrev Before : Match → Match → Type 0
Before m n = stands_before n.description n.lane n.value m ≡ true

not-both : (m n : Match) → Before m n → Before n m → ⊥
not-both m n h g = grind (arith, nat_tests, h, g)

all-has : {X : Type 0} (P : X → Type 0) (x : X) (xs : List X) → AllByRecursion P xs → Has x xs → P x
all-has P x [] a h = absurd h
all-has P x (y ∷ xs) a (inl e) = subst P e a.0
all-has P x (y ∷ xs) a (inr h) = all-has P x xs a.1 h

abbrev Includes : List Match → List Match → Type 0
Includes ms ns = (x : Match) → Has x ms → Has x ns

-- what the first of a table includes, the first of another does not stand before
first-same : (m n : Match) (ms ns : List Match) → IsTable (m ∷ ms) → IsTable (n ∷ ns) → Has m (n ∷ ns) → Has n (m ∷ ms) → m ≡ n
first-same m n ms ns o p (inl e) h = sym e
first-same m n ms ns o p (inr g) (inl e) = e
first-same m n ms ns o p (inr g) (inr h) =
    absurd (not-both m n (all-has (λ k. Before m k) n ms o.0 h) (all-has (λ k. Before n k) m ns p.0 g))

-- a match after the first is after the first of the other table
behind-first : (m n : Match) (ms ns : List Match) → IsTable (m ∷ ms) → m ≡ n → Includes (m ∷ ms) (n ∷ ns) → Includes ms ns
behind-first m n ms ns o e is x h = elim (is x (inr h)) [
  | inl f ↦
      let here : Before m m = subst (λ k. Before m k) (sym f ∙ sym e) (all-has (λ k. Before m k) x ms o.0 h) in
      absurd (not-both m m here here)
  | inr g ↦ g
]

same-tables : (ms ns : List Match) → IsTable ms → IsTable ns → Includes ms ns → Includes ns ms → ms ≡ ns
same-tables [] [] o p is of = refl
same-tables [] (n ∷ ns) o p is of = absurd (of n (inl refl))
same-tables (m ∷ ms) [] o p is of = absurd (is m (inl refl))
same-tables (m ∷ ms) (n ∷ ns) o p is of =
    let first = first-same m n ms ns o p (is m (inl refl)) (of n (inl refl)) in
    let rest = same-tables ms ns o.1 p.1 (behind-first m n ms ns o first is) (behind-first n m ns ms p (sym first) of) in
    λ i. first i ∷ rest i

-- ---- bindings of the same leaves to the same are the same

either-part : (a b : Bool) → (a || b) ≡ true → (a ≡ true) ⊎ (b ≡ true)
either-part true b h = inl refl
either-part false b h = inr h

leaf-has : (P : ℕ → LeafKey → Type 0) (w : ℕ) (k : LeafKey) (t : Tree) → has_leaf w k t ≡ true → EachLeaf P t → P w k
leaf-has P w k (leaf u l) h a =
    let s = leaf-same w k (entry u l Nothing) h in
    subst (λ x. P x k) (sym s.0) (subst (P u) (sym s.1) a)
leaf-has P w k (constant u n) h a = absurd (cc)
leaf-has P w k (one op u n x) h a = leaf-has P w k x h a
leaf-has P w k (two op u x y) h a = elim (either-part (has_leaf w k x) (has_leaf w k y) h) [
  | inl g ↦ leaf-has P w k x g a.0
  | inr g ↦ leaf-has P w k y g a.1
]
leaf-has P w k (sel u c x y) h a = elim (either-part (has_leaf w k c) (has_leaf w k x || has_leaf w k y) h) [
  | inl g ↦ leaf-has P w k c g a.0
  | inr g ↦ elim (either-part (has_leaf w k x) (has_leaf w k y) g) [
    | inl f ↦ leaf-has P w k x f a.1
    | inr f ↦ leaf-has P w k y f a.2
  ]
]

-- entries bind their leaves to the same by both
abbrev Agree : List Bound → List Bound → Bound → Type 0
Agree first second b = wanted_for first b.width b.key ≡ wanted_for second b.width b.key

all-agree : (t : Tree) (first second bound : List Bound) → BindTheSame t first second → AllByRecursion (λ b. has_leaf b.width b.key t ≡ true) bound → AllByRecursion (Agree first second) bound
all-agree t first second [] same h = tt
all-agree t first second (b ∷ bound) same h =
    (leaf-has (λ w k. wanted_for first w k ≡ wanted_for second w k) b.width b.key t h.0 same, all-agree t first second bound same h.1)

-- an entry of another leaf
other : (f b : Bound) → same_leaf f b ≡ false → is_leaf b.width b.key f ≡ false
other f b h = elim (cases_Bool (is_leaf b.width b.key f)) [
  | inl t ↦
      let s = leaf-same b.width b.key f t in
      let same : same_leaf f b ≡ true =
      subst (λ w. (nat_eq f.width w && same_key f.key b.key) ≡ true) (sym s.0) (subst (λ k. (nat_eq f.width f.width && same_key f.key k) ≡ true) (sym s.1) (leaf-itself f.width f.key)) in
      absurd (both_ways (same_leaf f b) h same)
  | inr g ↦ g
]

-- after an entry, and after one of the same leaf
agree-behind : (f s : Bound) (fs ss bound : List Bound) → f.width ≡ s.width → f.key ≡ s.key → AllByRecursion (λ b. same_leaf f b ≡ false) bound
    → AllByRecursion (Agree (f ∷ fs) (s ∷ ss)) bound → AllByRecursion (Agree fs ss) bound
agree-behind f s fs ss [] e g h a = tt
agree-behind f s fs ss (b ∷ bound) e g h a =
    let mine = other f b h.0 in
    let theirs : is_leaf b.width b.key s ≡ false = (λ i. nat_eq b.width (sym e i) && same_key b.key (sym g i)) ∙ mine in (
      sym (cond-false (is_leaf b.width b.key f) f.wanted (wanted_for fs b.width b.key) mine)
          ∙ a.0
          ∙ cond-false (is_leaf b.width b.key s) s.wanted (wanted_for ss b.width b.key) theirs,
      agree-behind f s fs ss bound e g h.1 a.1,
    )

same-bounds : (fs ss : List Bound) → bound_leaves fs ≡ bound_leaves ss → IsDistinct same_leaf fs → AllByRecursion (Agree fs ss) fs → fs ≡ ss
unfolding IsDistinct
same-bounds [] [] e d a = refl
same-bounds [] (s ∷ ss) e d a = absurd (cc)
same-bounds (f ∷ fs) [] e d a = absurd (cc)
same-bounds (f ∷ fs) (s ∷ ss) e d a =
    let leaf_same : (f.width, f.key) ≡ (s.width, s.key) = cc in
    let width : f.width ≡ s.width = ap (λ (l : ℕ × LeafKey). l.0) leaf_same in
    let key : f.key ≡ s.key = ap (λ (l : ℕ × LeafKey). l.1) leaf_same in
    let behind : bound_leaves fs ≡ bound_leaves ss = cc in
    let own : is_leaf f.width f.key f ≡ true = leaf-itself f.width f.key in
    let theirs : is_leaf f.width f.key s ≡ true = (λ i. nat_eq f.width (sym width i) && same_key f.key (sym key i)) ∙ own in
    let wanted : f.wanted ≡ s.wanted =
    sym (cond-true (is_leaf f.width f.key f) f.wanted (wanted_for fs f.width f.key) own)
    ∙ a.0
    ∙ cond-true (is_leaf f.width f.key s) s.wanted (wanted_for ss f.width f.key) theirs in
    let rest = same-bounds fs ss behind d.1 (agree-behind f s fs ss fs width key d.0 a.1) in
    λ i. record { key = key i; width = width i; wanted = wanted i } ∷ rest i

-- ---- each match of a table is in another

found-in : {X : Type 0} (p : X → Bool) (x : X) (xs : List X) → find p xs ≡ Some x → Has x xs × (p x ≡ true)
found-in p x [] e = absurd (none-some x e)
found-in p x (y ∷ xs) e = elim (cases_Bool (p y)) [
  | inl t ↦
      let same : y ≡ x = some-same y x (sym (cond-true (p y) (Some y) (find p xs) t) ∙ e) in
      (inl same, subst (λ z. p z ≡ true) same t)
  | inr f ↦ let h = found-in p x xs (sym (cond-false (p y) (Some y) (find p xs) f) ∙ e) in (inr h.0, h.1)
]

some-is : {X : Type 0} (o : Option X) → IsSome o → (x : X) × (o ≡ Some x)
some-is None h = absurd (cc)
some-is (Some x) h = (x, refl)

module _ (ds : List Description) (ssa : Ssa) where
  -- two matches of one place are the same
  one-match : (m n : Match) → IsMatch ds ssa m → BindsInOrder ds m → IsMatch ds ssa n → BindsInOrder ds n
      → n.description ≡ m.description → n.lane ≡ m.lane → n.value ≡ m.value → n ≡ m
  one-match m n a f b g d l v =
      let lane : lane_at ds n.description n.lane ≡ Some a.term = (λ i. lane_at ds (d i) (l i)) ∙ a.lane in
      let term : b.term ≡ a.term = some-same b.term a.term (sym b.lane ∙ lane) in
      let fits : FitsWide ssa a.term m.value n.bound = subst (λ x. FitsWide ssa a.term x n.bound) v (subst (λ t. FitsWide ssa t n.value n.bound) term b.fits) in
      let same = one-binding.by_the_first ssa a.term m.value n.bound m.bound fits a.fits in
      let leaves : bound_leaves n.bound ≡ bound_leaves m.bound = g a.term lane ∙ sym (f a.term a.lane) in
      let bound = same-bounds n.bound m.bound leaves (wide-once ssa a.term m.value n.bound fits)
      (all-agree a.term n.bound m.bound n.bound same (wide-alone ssa a.term m.value n.bound fits)) in
      λ i. record { description = d i; lane = l i; value = v i; bound = bound i }

  included : (first second : List Match) → IsOrderedTable ds ssa first → IsOrderedTable ds ssa second → Includes first second
  included first second a b m h =
      let is = all-has (IsMatch ds ssa) m first a.matched.right h in
      let n = some-is (match_at second m.description m.lane m.value) (wide-found ds ssa second m.description m.lane m.value is.term m.bound b.matched is.lane is.fits) in
      let f = found-in (λ x. nat_eq x.description m.description && (nat_eq x.lane m.lane && nat_eq x.value m.value)) n.0 second n.1 in
      let p = and_parts (nat_eq n.0.description m.description) (nat_eq n.0.lane m.lane && nat_eq n.0.value m.value) f.1 in
      let q = and_parts (nat_eq n.0.lane m.lane) (nat_eq n.0.value m.value) p.1 in
      let same = one-match m n.0 is (all-has (BindsInOrder ds) m first a.bindings h) (all-has (IsMatch ds ssa) n.0 second b.matched.right f.0) (all-has (BindsInOrder ds) n.0 second b.bindings f.0)
      (eqb-true n.0.description m.description p.0) (eqb-true n.0.lane m.lane q.0) (eqb-true n.0.value m.value q.1) in
      subst (λ x. Has x second) same f.0

-- ---- the values that are the same

module _ (a b : Ssa) (same : HaveSameValues a b) where
  terms-same : term_at a ≡ term_at b
  terms-same = λ i v. slice_get (same.terms i) v

  cuts-same : cut_at a ≡ cut_at b
  cuts-same = λ i v. slice_get (same.cuts i) v

  turned-same : turned_at a ≡ turned_at b
  turned-same = λ i v. cuts-same i v >>= turned

  names-same : name_at a ≡ name_at b
  names-same = λ i v. cuts-same i v >>= name_of (record { name = a.name; params = same.params i; units = same.units i; terms = a.terms; cuts = a.cuts }) v

  fits-same : (t : Tree) (v : ℕ) (bound : List Bound) → Fits a t v bound → Fits b t v bound
  fits-same t v bound f = subst (λ (g : ℕ → Option Tree). FitsBy g g t v bound) terms-same f

  cut-same : (t : Tree) (v : ℕ) (bound : List Bound) → FitsCut a t v bound → FitsCut b t v bound
  cut-same t v bound f = subst (λ (g : ℕ → Option Tree). FitsBy (cut_at b) g t v bound) names-same (subst (λ (g : ℕ → Option Tree). FitsBy g (name_at a) t v bound) cuts-same f)

  turn-same : (t : Tree) (v : ℕ) (bound : List Bound) → FitsTurned a t v bound → FitsTurned b t v bound
  turn-same t v bound f = subst (λ (g : ℕ → Option Tree). FitsBy (turned_at b) g t v bound) names-same (subst (λ (g : ℕ → Option Tree). FitsBy g (name_at a) t v bound) turned-same f)

turned-round : (a b : Ssa) → HaveSameValues a b → HaveSameValues b a
turned-round a b same = record { params = sym same.params; units = sym same.units; terms = sym same.terms; cuts = sym same.cuts }

module _ (a b : Ssa) (same : HaveSameValues a b) where
  abbrev back : HaveSameValues b a
  back = turned-round a b same

  wide-same : (t : Tree) (v : ℕ) (bound : List Bound) → FitsWide a t v bound → FitsWide b t v bound
  wide-same t v bound (fits_whole f) = fits_whole (fits-same a b same t v bound f)
  wide-same t v bound (fits_cut n f) = fits_cut (λ x g. n x (fits-same b a back t v x g)) (cut-same a b same t v bound f)
  wide-same t v bound (fits_turned n m f) =
      fits_turned (λ x g. n x (fits-same b a back t v x g)) (λ x g. m x (cut-same b a back t v x g)) (turn-same a b same t v bound f)

  matches-same : (ds : List Description) (ms : List Match) → AllByRecursion (IsMatch ds a) ms → AllByRecursion (IsMatch ds b) ms
  matches-same ds [] h = tt
  matches-same ds (m ∷ ms) h =
      let is = h.0 in
      (record { term = is.term; lane = is.lane; fits = wide-same is.term m.value m.bound is.fits }, matches-same ds ms h.1)

  table-same : (ds : List Description) (ms : List Match) → IsOrderedTable ds a ms → IsOrderedTable ds b ms
  table-same ds ms t =
      let are = t.matched in
      record {
        matched = record {
          right = matches-same ds ms are.right;
          whole = λ d l v p bound at f. are.whole d l v p bound at (fits-same b a back p v bound f);
          cut = λ d l v p bound at f. are.cut d l v p bound at (cut-same b a back p v bound f);
          turned = λ d l v p bound at f. are.turned d l v p bound at (turn-same b a back p v bound f);
        };
        ordered = t.ordered;
        bindings = t.bindings;
      }

pub one-table : OneTable
one-table ds a b first second same t u =
    let v = table-same b a (turned-round a b same) ds second u in
    same-tables first second t.ordered u.ordered (included ds a first second t v) (included ds a second first v t)
