-- Floors: what is below one needs no look; and what the marks of a plan that grows say.
use Rattle.std.proofs.Common.{◌≡◌, ℕ, ◌+◌, ◌<◌, ◌≤◌, ◌⊎◌, Bool, true, false, List, [], ◌∷◌, ◌++◌, length, get_or, take, refl, sym, ◌∙◌, ap, subst, inl, inr, arith}
use Rattle.std.specs.Prelude.{◌||◌, nat_le, nat_lt, replicate}
use Rattle.std.specs.List.{list_any}
use Rattle.std.proofs.lemmas.Bool.{cases_Bool}
use Rattle.std.proofs.lemmas.Bool.Decides.{nat_tests}
use Rattle.std.proofs.lemmas.List.{take_all, take_more}
use Rattle.vg_plans.specs.Members.{Has}
use Rattle.vg_plans.specs.World.{is_in}
use Rattle.vg_plans.proofs.Members.{from-flat_map, has-append}
use Rattle.vg_plans.proofs.Reach.{has-in, in-has}
use Rattle.vg_kernel_plans.specs.Packing.{needs_of}
use Rattle.vg_shapes.specs.declared.match_table.Match.{Match}
use Rattle.vg_shapes.specs.declared.pack.Pack.{Pack}
use Rattle.vg_shapes.specs.declared.ssa.Ssa.{Ssa}
use Rattle.vg_shapes.specs.DepList.{row_of}
use Rattle.vg_shapes.specs.Pack.{units_of}
use Rattle.vg_shapes.specs.Units.{arguments}
use Rattle.vg_packs.specs.declared.growing.GrowingPlan.{GrowingPlan}
use Rattle.vg_packs.specs.Floor.{IsFloor, IsLowest, IsHighest, IsBeside, MarksSpan, MarksSpans, IsGrown}
use Rattle.vg_packs.specs.Marks.{AddsMarks, AreMarks, is_within}
use Rattle.vg_packs.specs.Walk.{IsAt, IsFree, IsSettled, NameEarlier, is_in_plan, needs_for, node_needs}
use Rattle.vg_packs.proofs.Free.{free-first}
use Rattle.vg_packs.proofs.Marking.{at-inside, at-none, clear-long}

-- ---- numbers of lists

has-more : (v : ℕ) (list : List ℕ) (i d : ℕ) → i < length list → Has v (take (i + 1) list)
    → Has v (take i list) ⊎ (get_or list i d ≡ v)
has-more v list i d lt h =
    elim (has-append v (take i list) (get_or list i d ∷ []) (subst (Has v) (take_more list i d lt) h)) [
      | inl l ↦ inl l
      | inr r ↦ elim r [ inl e ↦ inr e | inr n ↦ absurd n ]
    ]

pub lowest-more : (old low : ℕ) (list : List ℕ) (i x d : ℕ) → i < length list → x ≡ get_or list i d
    → IsLowest old (take i list) → low ≤ old → low ≤ x → IsLowest low (take (i + 1) list)
lowest-more old low list i x d lt is h a b = λ v m. elim (has-more v list i d lt m) [
  | inl l ↦ let k = h v l in omega (arith, k, a)
  | inr e ↦ let k : x ≡ v = is ∙ e in omega (arith, k, b)
]

pub highest-more : (old high : ℕ) (list : List ℕ) (i x d : ℕ) → i < length list → x ≡ get_or list i d
    → IsHighest old (take i list) → old ≤ high → x ≤ high → IsHighest high (take (i + 1) list)
highest-more old high list i x d lt is h a b = λ v m. elim (has-more v list i d lt m) [
  | inl l ↦ let k = h v l in omega (arith, k, a)
  | inr e ↦ let k : x ≡ v = is ∙ e in omega (arith, k, b)
]

pub lowest-all : (low : ℕ) (list : List ℕ) (i : ℕ) → length list ≤ i → IsLowest low (take i list) → IsLowest low list
lowest-all low list i l h = subst (IsLowest low) (take_all i list l) h

pub highest-all : (high : ℕ) (list : List ℕ) (i : ℕ) → length list ≤ i → IsHighest high (take i list) → IsHighest high list
highest-all high list i l h = subst (IsHighest high) (take_all i list l) h

-- ---- marks below a floor

or-right : (a b : Bool) → a ≡ false → (a || b) ≡ b
or-right a b e = rw e refl

pub floor-none : (ns : ℕ → List ℕ) (own : ℕ → Bool) → IsFloor ns own 0
floor-none ns own = record { closed = λ v x l h. absurd (omega (arith, l)); away = λ v l. absurd (omega (arith, l)) }

pub floor-settled : (ns : ℕ → List ℕ) (own : ℕ → Bool) (n floor : ℕ) (clear marks : List Bool) → clear ≡ replicate n false
    → AddsMarks (λ v. nat_lt v floor) clear marks → floor ≤ n → IsFloor ns own floor → IsSettled ns own marks
floor-settled ns own n floor clear marks e a few f =
    let long : length marks ≡ n = a.long ∙ clear-long n clear e in
    let here : (v : ℕ) → v < n → get_or marks v false ≡ nat_lt v floor = λ v l.
    a.at v (subst (λ m. v < m) (sym (clear-long n clear e)) l)
    ∙ or-right (get_or clear v false) (nat_lt v floor) (ap (λ m. get_or m v false) e ∙ at-none n v)
    in
    let below : (v : ℕ) → IsAt marks v → v < floor = λ v h.
    let t : nat_lt v floor ≡ true = sym (here v (subst (λ m. v < m) long (at-inside marks v h))) ∙ h in
    grind (arith, nat_tests, t)
    in
    record {
      closed = λ v x h k.
          let l = f.closed v x (below v h) k in
          let t : nat_lt x floor ≡ true = grind (arith, nat_tests, l) in
          here x (omega (arith, l, few)) ∙ t;
      away = λ v h. f.away v (below v h);
    }

-- a test that the marks of a pack's units stand for
pub settled-by : (ns : ℕ → List ℕ) (own : ℕ → Bool) (n : ℕ) (set marks : List Bool) → AreMarks n own set → length marks ≡ n
    → IsSettled ns own marks → IsSettled ns (λ v. get_or set v false) marks
settled-by ns own n set marks a long s = record {
  closed = s.closed;
  away = λ v h. a.at v (subst (λ m. v < m) long (at-inside marks v h)) ∙ s.away v h;
}

-- ---- a plan that grows

has-by : (p : Pack) (v : ℕ) → is_in v (units_of p) ≡ true → Has v (units_of p)
has-by p v t = in-has v (units_of p) t

lowest-away : (f : ℕ) (p : Pack) → IsLowest f (units_of p) → (v : ℕ) → v < f → is_in v (units_of p) ≡ false
lowest-away f p h v l = elim (cases_Bool (is_in v (units_of p))) [
  | inl t ↦ absurd (let k = h v (has-by p v t) in omega (arith, k, l))
  | inr g ↦ g
]

module _ (matches : List Match) (ssa : Ssa) (deps : List (ℕ × ℕ)) where
  -- the needs of a packed unit below a number beside which its pack lies
  packed-below : (f v : ℕ) (p : Pack) (x : ℕ) → v < f → IsBeside matches ssa deps f p
      → Has x (needs_for matches ssa deps v p) → x < f
  packed-below f v p x l b h = elim (cases_Bool (is_in v (units_of p))) [
    | inl t ↦ elim b [
      | inl low ↦ absurd (let k = low v (has-by p v t) in omega (arith, k, l))
      | inr below ↦ below.needs x (rw t at h)
    ]
    | inr g ↦ absurd (rw g at h)
  ]

  pub floor-holds : (earlier : NameEarlier deps) (plan : List Pack) (f : ℕ) (pack : Pack)
      → ((p : Pack) → Has p plan → IsBeside matches ssa deps f p) → IsLowest f (units_of pack)
      → IsFloor (node_needs matches ssa deps plan) (λ v. is_in v (units_of pack)) f
  floor-holds earlier plan f pack beside low = record {
    closed = λ v x l h. elim (cases_Bool (is_in_plan plan v)) [
      | inl t ↦
          let k = from-flat_map (needs_for matches ssa deps v) x plan (rw t at h) in
          packed-below f v k.0 x l (beside k.0 k.1) k.2
      | inr g ↦
          let r : Has x (row_of deps v) = rw g at h in
          let e = earlier v x (has-in x (row_of deps v) r) in
          omega (arith, e, l)
    ];
    away = lowest-away f pack low;
  }

  -- the number that is found for a pack
  pub spans-floor : (earlier : NameEarlier deps) (plan : List Pack) (spanned : List Bool) (f : ℕ) (pack : Pack)
      → MarksSpans matches ssa deps plan spanned → IsLowest f (units_of pack)
      → (f ≡ 0) ⊎ ((f < length spanned) × (get_or spanned f false ≡ false))
      → IsFloor (node_needs matches ssa deps plan) (λ v. is_in v (units_of pack)) f
  spans-floor earlier plan spanned f pack spans low there = elim there [
    | inl e ↦
        subst (IsFloor (node_needs matches ssa deps plan) (λ v. is_in v (units_of pack))) (sym e)
        (floor-none (node_needs matches ssa deps plan) (λ v. is_in v (units_of pack)))
    | inr t ↦ floor-holds earlier plan f pack (spans f t.0 t.1) low
  ]

  pub spans-inside : (spanned : List Bool) (f : ℕ) → length spanned ≡ arguments ssa + length ssa.units
      → (f ≡ 0) ⊎ ((f < length spanned) × (get_or spanned f false ≡ false))
      → f ≤ arguments ssa + length ssa.units
  spans-inside spanned f long there = elim there [
    | inl e ↦ omega (arith, e)
    | inr t ↦ let l = t.0 in omega (arith, l, long)
  ]

  -- the empty plan
  pub grown-empty : (earlier : NameEarlier deps) (g : GrowingPlan) (n : ℕ) → n ≡ arguments ssa + length ssa.units
      → g.packs.items ≡ [] → g.packed.items ≡ replicate n false → g.spanned.items ≡ replicate n false
      → IsGrown matches ssa deps g
  grown-empty earlier g n en none packed spanned = record {
    packed = record {
      long = clear-long n g.packed.items packed ∙ en;
      at = λ v l.
          ap (λ m. get_or m v false) packed ∙ at-none n v ∙ sym (ap (λ l. is_in_plan l v) none);
    };
    long = clear-long n g.spanned.items spanned ∙ en;
    spans = subst (λ l. MarksSpans matches ssa deps l g.spanned.items) (sym none) (λ f l n p h. absurd h);
    free = subst (IsFree matches ssa deps) (sym none) (free-first matches ssa deps earlier);
  }

  -- ---- a pack more

  span-beside : (p : Pack) (least highest greatest f : ℕ) → IsLowest least (units_of p) → IsHighest highest (units_of p)
      → highest ≤ greatest → IsHighest greatest (needs_of matches ssa deps p) → is_within least greatest f ≡ false
      → IsBeside matches ssa deps f p
  span-beside p least highest greatest f low high up needs outside = elim (cases_Bool (nat_lt least f)) [
    | inl t ↦
        let n : nat_le f greatest ≡ false = rw t at outside in
        let l : greatest < f = grind (arith, nat_tests, n) in
        inr (record {
          units = λ v h. let k = high v h in omega (arith, k, up, l);
          needs = λ x h. let k = needs x h in omega (arith, k, l);
        })
    | inr g ↦
        let l : f ≤ least = grind (arith, nat_tests, g) in
        inl (λ v h. let k = low v h in omega (arith, k, l))
  ]

  or-false : (a b : Bool) → (a || b) ≡ false → (a ≡ false) × (b ≡ false)
  or-false true b e = absurd (cc)
  or-false false b e = (refl, e)

  pub span-marked : (p : Pack) (units needs : List ℕ) (least highest greatest : ℕ) (spanned new_spanned : List Bool)
      → units ≡ units_of p → needs ≡ needs_of matches ssa deps p
      → IsLowest least units → IsHighest highest units → highest ≤ greatest → IsHighest greatest needs
      → AddsMarks (is_within least greatest) spanned new_spanned → MarksSpan matches ssa deps p spanned new_spanned
  span-marked p units needs least highest greatest spanned new_spanned eu en low high up all a = record {
    long = a.long;
    stays = λ f l n. (or-false (get_or spanned f false) (is_within least greatest f) (sym (a.at f l) ∙ n)).0;
    beside = λ f l n.
        span-beside p least highest greatest f (subst (IsLowest least) eu low) (subst (IsHighest highest) eu high) up
        (subst (IsHighest greatest) en all)
        (or-false (get_or spanned f false) (is_within least greatest f) (sym (a.at f l) ∙ n)).1;
  }

  any-append : (test : Pack → Bool) (plan : List Pack) (p : Pack)
      → list_any test (plan ++ p ∷ []) ≡ (list_any test plan || test p)
  any-append test [] p = or-none (test p)
    where
      or-none : (b : Bool) → (b || false) ≡ b
      or-none true = refl
      or-none false = refl
  any-append test (q ∷ plan) p = ap (λ b. test q || b) (any-append test plan p) ∙ assoc (test q) (list_any test plan) (test p)
    where
      assoc : (a b c : Bool) → (a || (b || c)) ≡ ((a || b) || c)
      assoc true b c = refl
      assoc false b c = refl

  pub spans-more : (plan : List Pack) (p : Pack) (spanned new_spanned : List Bool)
      → MarksSpans matches ssa deps plan spanned → MarksSpan matches ssa deps p spanned new_spanned
      → MarksSpans matches ssa deps (plan ++ p ∷ []) new_spanned
  spans-more plan p spanned new_spanned s m = λ f l n q h.
      let k : f < length spanned = subst (λ x. f < x) m.long l in
      elim (has-append q plan (p ∷ []) h) [
        | inl a ↦ s f k (m.stays f k n) q a
        | inr b ↦ elim b [ inl e ↦ subst (IsBeside matches ssa deps f) e (m.beside f k n) | inr z ↦ absurd z ]
      ]

  pub spans-next : (packs : List Pack) (i : ℕ) (p d : Pack) (spanned new_spanned : List Bool) → i < length packs
      → p ≡ get_or packs i d → MarksSpans matches ssa deps (take i packs) spanned
      → MarksSpan matches ssa deps p spanned new_spanned → MarksSpans matches ssa deps (take (i + 1) packs) new_spanned
  spans-next packs i p d spanned new_spanned l is s m =
      subst (λ q. MarksSpans matches ssa deps q new_spanned) (sym (take_more packs i d l))
      (spans-more (take i packs) (get_or packs i d) spanned new_spanned s
      (subst (λ q. MarksSpan matches ssa deps q spanned new_spanned) is m))

  pub packed-more : (n : ℕ) (plan : List Pack) (p : Pack) (marks new_marks : List Bool) → AreMarks n (is_in_plan plan) marks
      → AddsMarks (λ v. is_in v (units_of p)) marks new_marks → AreMarks n (is_in_plan (plan ++ p ∷ [])) new_marks
  packed-more n plan p marks new_marks m a = record {
    long = a.long ∙ m.long;
    at = λ v l.
        a.at v (subst (λ x. v < x) (sym m.long) l) ∙ ap (λ b. b || is_in v (units_of p)) (m.at v l)
        ∙ sym (any-append (λ q. is_in v (units_of q)) plan p);
  }

  pub grown-more : (g h : GrowingPlan) (p : Pack) → IsGrown matches ssa deps g → h.packs.items ≡ g.packs.items ++ p ∷ []
      → AddsMarks (λ v. is_in v (units_of p)) g.packed.items h.packed.items
      → MarksSpan matches ssa deps p g.spanned.items h.spanned.items
      → IsFree matches ssa deps (g.packs.items ++ p ∷ []) → IsGrown matches ssa deps h
  grown-more g h p grown more marks span free =
      let n = arguments ssa + length ssa.units in
      record {
        packed = subst (λ l. AreMarks n (is_in_plan l) h.packed.items) (sym more)
            (packed-more n g.packs.items p g.packed.items h.packed.items grown.packed marks);
        long = span.long ∙ grown.long;
        spans = subst (λ l. MarksSpans matches ssa deps l h.spanned.items) (sym more)
            (spans-more g.packs.items p g.spanned.items h.spanned.items grown.spans span);
        free = subst (IsFree matches ssa deps) (sym more) free;
      }
