-- What the list of first loads has: the first load of each place and width, once.
use Rattle.std.proofs.Common.{◌≡◌, ℕ, zero, suc, ◌+◌, ◌-◌, ◌<◌, ◌≤◌, Bool, true, false, List, [], ◌∷◌, ◌++◌, length, refl, sym, ◌∙◌, ap, subst, inl, inr, arith}
use Rattle.std.specs.Prelude.{nat_eq, nat_lt, not, Option, Some, None, filter, find, slice_get}
use Rattle.std.specs.List.{flat_map, list_any}
use Rattle.std.proofs.lemmas.Bool.{cases_Bool}
use Rattle.std.proofs.lemmas.Bool.Decides.{nat_tests, Decides-int_eq}
use Rattle.std.proofs.lemmas.Option.{slice_get_within}
use Rattle.vg_base.specs.declared.address.Address.{Address}
use Rattle.vg_base.specs.declared.width.Width.{Width}
use Rattle.vg_base.specs.Width.{bits_of, size_of}
use Rattle.vg_group_laws.specs.Runs.{IsFirstLoad, IsLoaded, PlacedLoad}
use Rattle.vg_group_laws.proofs.Unrepeated.{differ-from, from-sort, unique-differ, unique-filter, unique-sort}
use Rattle.vg_kernel_plans.specs.Groups.{ahead, unit_numbers}
use Rattle.vg_kernel_plans.specs.LoadGroups.{above_least, all_loads, begins_run, first_loads, loads_at, placed_load, run_begins, same_place}
use Rattle.vg_kernel_plans.proofs.LoadPacks.{at-place, first-placed}
use Rattle.vg_kernel_plans.proofs.SameTests.{eq-itself}
use Rattle.vg_plans.specs.Levels.{distinct_from, sort_by}
use Rattle.vg_plans.specs.Members.{Every, Has}
use Rattle.vg_plans.proofs.Lists.{distinct-differ, every-append, every-has, has-flat_map, has-sort, stays}
use Rattle.vg_plans.proofs.Members.{Unique, any-found, any-is, from-filter, has-filter}
use Rattle.vg_plans.proofs.Sorting.{Rises}
use Rattle.vg_shapes.specs.declared.ssa.Ssa.{Ssa}
use Rattle.vg_shapes.specs.declared.ssa_unit.SsaUnit.{SsaUnit}
use Rattle.vg_shapes.specs.declared.ssa_unit.SsaUnit.TheVariants.{Load, Store, Operation}
use Rattle.vg_shapes.specs.Order.{numbers_from}
use Rattle.vg_shapes.specs.Units.{arguments, unit_at}

abbrev pub made : ℕ → Address → Width → PlacedLoad
made v a w = record { unit = v; address = a; width = w }

-- ---- places

-- two loads of one width from one place
abbrev Same : PlacedLoad → PlacedLoad → Type 0
Same l m = (l.address ≡ m.address) × (l.width ≡ m.width)

pub own-place : (l : PlacedLoad) → same_place l l ≡ true
own-place l = rw (eq-itself l.address.pointer, (Decides-int_eq l.address.offset l.address.offset).1 refl, eq-itself (bits_of l.width)) refl

pub stands-at : (a : Address) (w : Width) (l : PlacedLoad) → l.address ≡ a → l.width ≡ w → loads_at a w l ≡ true
stands-at a w l e f = subst (λ b. loads_at b w l ≡ true) e (subst (λ x. loads_at l.address x l ≡ true) f (own-place l))

turned : (l m : PlacedLoad) → same_place l m ≡ true → same_place m l ≡ true
turned l m t = let p = at-place m.address m.width l t in stands-at l.address l.width m (sym p.0) (sym p.1)

-- ---- all loads, by rising units

abbrev of : Ssa → ℕ → List PlacedLoad
of ssa v = placed_load v (unit_at ssa v)

one-from : (g f : ℕ) → g ≤ f → (u : Option SsaUnit) → Every (λ (m : PlacedLoad). g ≤ m.unit) (placed_load f u)
one-from g f l None = tt
one-from g f l (Some (Load a w)) = (l, tt)
one-from g f l (Some (Store a w x)) = tt
one-from g f l (Some (Operation op w k xs)) = tt

loads-from : (ssa : Ssa) (g f n : ℕ) → g ≤ f → Every (λ (m : PlacedLoad). g ≤ m.unit) (flat_map (of ssa) (numbers_from f n))
loads-from ssa g f zero l = tt
loads-from ssa g f (suc n) l =
    every-append (λ (m : PlacedLoad). g ≤ m.unit) (of ssa f) (flat_map (of ssa) (numbers_from (f + 1) n)) (one-from g f l (unit_at ssa f))
    (loads-from ssa g (f + 1) n (omega (arith, l)))

rising : (ssa : Ssa) (f n : ℕ) → Rises (λ (m : PlacedLoad). m.unit) (flat_map (of ssa) (numbers_from f n))
rising ssa f zero = tt
rising ssa f (suc n) = put (unit_at ssa f) (loads-from ssa f (f + 1) n (omega arith)) (rising ssa (f + 1) n)
  where
    put : (u : Option SsaUnit) → Every (λ (m : PlacedLoad). f ≤ m.unit) (flat_map (of ssa) (numbers_from (f + 1) n))
        → Rises (λ (m : PlacedLoad). m.unit) (flat_map (of ssa) (numbers_from (f + 1) n))
        → Rises (λ (m : PlacedLoad). m.unit) (placed_load f u ++ flat_map (of ssa) (numbers_from (f + 1) n))
    put None e r = r
    put (Some (Load a w)) e r = (e, r)
    put (Some (Store a w x)) e r = r
    put (Some (Operation op w k xs)) e r = r

-- of the number of a unit
pub unit-bounds : (ssa : Ssa) (v : ℕ) (u : SsaUnit) → unit_at ssa v ≡ Some u → (arguments ssa ≤ v) × (v < arguments ssa + length ssa.units)
unit-bounds ssa v u e = elim (cases_Bool (nat_lt v (arguments ssa))) [
  | inl t ↦ absurd (let f : None ≡ Some u = rw t at e in cc)
  | inr f ↦
      let g : slice_get ssa.units (v - arguments ssa) ≡ Some u = rw f at e in
      let h = slice_get_within ssa.units (v - arguments ssa) u g in
      let le : arguments ssa ≤ v = grind (arith, nat_tests, f) in
      (le, omega (arith, h, le))
]

pub number-has : (u f n : ℕ) → f ≤ u → u < f + n → Has u (numbers_from f n)
number-has u f zero a b = absurd (omega (arith, a, b))
number-has u f (suc n) a b = elim (cases_Bool (nat_eq f u)) [
  | inl t ↦ inl (grind (arith, nat_tests, t))
  | inr g ↦
      let l : f < u = grind (arith, nat_tests, g, a) in
      inr (number-has u (f + 1) n (omega (arith, l)) (omega (arith, b)))
]

among-all : (ssa : Ssa) (v : ℕ) (a : Address) (w : Width) → unit_at ssa v ≡ Some (Load a w) → Has (made v a w) (all_loads ssa)
among-all ssa v a w e =
    let n = unit-bounds ssa v (Load a w) e in
    has-flat_map (of ssa) v (made v a w) (unit_numbers ssa) (number-has v (arguments ssa) (length ssa.units) n.0 n.1)
    (subst (λ u. Has (made v a w) (placed_load v u)) (sym e) (inl refl))

-- ---- the first of each place

-- those that stay stand before all at their places
kept-first : (seen xs : List PlacedLoad) (y x : PlacedLoad) → Rises (λ (m : PlacedLoad). m.unit) xs → Has y (distinct_from same_place seen xs)
    → Has x xs → Same y x → y.unit ≤ x.unit
kept-first seen [] y x r hy hx s = absurd hx
kept-first seen (z ∷ zs) y x r hy hx s = elim (cases_Bool (list_any (same_place z) seen)) [
  | inl t ↦
      let h : Has y (distinct_from same_place seen zs) = rw t at hy in
      elim hx [
        | inl e ↦
            let k = any-found (same_place z) seen t in
            let f : same_place y k.0 ≡ false = every-has (λ m. same_place m k.0 ≡ false) y (distinct_from same_place seen zs) (differ-from same_place k.0 seen zs k.1) h in
            let p = at-place k.0.address k.0.width z k.2 in
            let g : same_place y k.0 ≡ true =
            stands-at k.0.address k.0.width y (s.0 ∙ ap (λ (m : PlacedLoad). m.address) (sym e) ∙ p.0) (s.1 ∙ ap (λ (m : PlacedLoad). m.width) (sym e) ∙ p.1)
            in
            absurd (cc)
        | inr k ↦ kept-first seen zs y x r.1 h k s
      ]
  | inr f ↦ elim (rw f at hy) [
    | inl e ↦ subst (λ (q : PlacedLoad). q.unit ≤ x.unit) e (elim hx [
      | inl g ↦ subst (λ (q : PlacedLoad). z.unit ≤ q.unit) g (omega arith)
      | inr k ↦ every-has (λ (m : PlacedLoad). z.unit ≤ m.unit) x zs r.0 k
    ])
    | inr h ↦ elim hx [
      | inl e ↦
          let o : same_place y z ≡ false = every-has (λ m. same_place m z ≡ false) y (distinct_from same_place (z ∷ seen) zs) (differ-from same_place z (z ∷ seen) zs (inl refl)) h in
          let g : same_place y z ≡ true =
          stands-at z.address z.width y (s.0 ∙ ap (λ (m : PlacedLoad). m.address) (sym e)) (s.1 ∙ ap (λ (m : PlacedLoad). m.width) (sym e))
          in
          absurd (cc)
      | inr k ↦ kept-first (z ∷ seen) zs y x r.1 h k s
    ]
  ]
]

-- each member is the first load of its place
pub member-first : (ssa : Ssa) (l : PlacedLoad) → Has l (first_loads ssa) → IsFirstLoad ssa l.address l.width l.unit
member-first ssa l h = record {
  load = every-has (λ (m : PlacedLoad). unit_at ssa m.unit ≡ Some (Load m.address m.width)) l (first_loads ssa) (first-placed ssa) h;
  first = λ u e.
      kept-first [] (all_loads ssa) l (made u l.address l.width) (rising ssa (arguments ssa) (length ssa.units)) h
      (among-all ssa u l.address l.width e) (refl, refl);
}

-- a member that stands at a place
pub record Listed (ssa : Ssa) (a : Address) (w : Width) : Type 0 where
  pub load : PlacedLoad
  pub listed : Has load (first_loads ssa)
  pub address : load.address ≡ a
  pub width : load.width ≡ w

-- each place from which something is loaded has a member
pub listed-at : (ssa : Ssa) (a : Address) (w : Width) → IsLoaded ssa a w → Listed ssa a w
listed-at ssa a w e =
    let k = stays same_place own-place (made e.0 a w) [] (all_loads ssa) (among-all ssa e.0 a w e.1) in
    let p = at-place k.0.address k.0.width (made e.0 a w) k.2 in
    record {
      load = k.0;
      listed = elim k.1 [ inl n ↦ absurd n | inr h ↦ h ];
      address = sym p.0;
      width = sym p.1;
    }

pub listed-loaded : (ssa : Ssa) (l : PlacedLoad) → Has l (first_loads ssa) → IsLoaded ssa l.address l.width
listed-loaded ssa l h = (l.unit, (member-first ssa l h).load)

-- there is one first load
pub first-same : (ssa : Ssa) (a : Address) (w : Width) (u v : ℕ) → IsFirstLoad ssa a w u → IsFirstLoad ssa a w v → u ≡ v
first-same ssa a w u v f g = let x = f.first v g.load in let y = g.first u f.load in omega (arith, x, y)

pub first-at : (ssa : Ssa) (a b : Address) (w x : Width) (v : ℕ) → a ≡ b → w ≡ x → IsFirstLoad ssa a w v → IsFirstLoad ssa b x v
first-at ssa a b w x v e f h = subst (λ y. IsFirstLoad ssa b y v) f (subst (λ c. IsFirstLoad ssa c w v) e h)

pub loaded-at : (ssa : Ssa) (a b : Address) (w x : Width) → a ≡ b → w ≡ x → IsLoaded ssa a w → IsLoaded ssa b x
loaded-at ssa a b w x e f h = subst (λ y. IsLoaded ssa b y) f (subst (λ c. IsLoaded ssa c w) e h)

-- a unit loads from one place
pub one-load : (a b : Address) (w x : Width) (u : Option SsaUnit) → u ≡ Some (Load a w) → u ≡ Some (Load b x) → (a ≡ b) × (w ≡ x)
one-load a b w x u e f = (cc, cc)

-- a place has one member
pub member-same : (ssa : Ssa) (l m : PlacedLoad) → Has l (first_loads ssa) → Has m (first_loads ssa) → l.address ≡ m.address → l.width ≡ m.width → l ≡ m
member-same ssa l m h k e f =
    let u : l.unit ≡ m.unit =
    first-same ssa m.address m.width l.unit m.unit (first-at ssa l.address m.address l.width m.width l.unit e f (member-first ssa l h)) (member-first ssa m k)
    in
    ap (λ v. made v l.address l.width) u ∙ ap (λ a. made m.unit a l.width) e ∙ ap (made m.unit m.address) f

-- ---- those that begin runs

pub begin-listed : (ssa : Ssa) (l : PlacedLoad) → Has l (run_begins (first_loads ssa)) → Has l (first_loads ssa) × (begins_run (first_loads ssa) l ≡ true)
begin-listed ssa l h =
    let loads = first_loads ssa in
    let begins = filter (begins_run loads) loads in
    let by_offset = sort_by (λ (l : PlacedLoad). above_least l.address.offset) begins in
    let by_width = sort_by (λ (l : PlacedLoad). bits_of l.width) by_offset in
    from-filter (begins_run loads) l loads
    (from-sort (λ (l : PlacedLoad). above_least l.address.offset) l begins
    (from-sort (λ (l : PlacedLoad). bits_of l.width) l by_offset
    (from-sort (λ (l : PlacedLoad). l.address.pointer) l by_width h)))

pub listed-begin : (ssa : Ssa) (l : PlacedLoad) → Has l (first_loads ssa) → begins_run (first_loads ssa) l ≡ true → Has l (run_begins (first_loads ssa))
listed-begin ssa l h t =
    let loads = first_loads ssa in
    let begins = filter (begins_run loads) loads in
    let by_offset = sort_by (λ (l : PlacedLoad). above_least l.address.offset) begins in
    let by_width = sort_by (λ (l : PlacedLoad). bits_of l.width) by_offset in
    has-sort (λ (l : PlacedLoad). l.address.pointer) l by_width
    (has-sort (λ (l : PlacedLoad). bits_of l.width) l by_offset
    (has-sort (λ (l : PlacedLoad). above_least l.address.offset) l begins
    (has-filter (begins_run loads) l loads h t)))

pub begins-unique : (ssa : Ssa) → Unique (run_begins (first_loads ssa))
begins-unique ssa =
    let loads = first_loads ssa in
    let begins = filter (begins_run loads) loads in
    let by_offset = sort_by (λ (l : PlacedLoad). above_least l.address.offset) begins in
    let by_width = sort_by (λ (l : PlacedLoad). bits_of l.width) by_offset in
    unique-sort (λ (l : PlacedLoad). l.address.pointer) by_width
    (unique-sort (λ (l : PlacedLoad). bits_of l.width) by_offset
    (unique-sort (λ (l : PlacedLoad). above_least l.address.offset) begins
    (unique-filter (begins_run loads) loads
    (unique-differ same_place own-place loads (distinct-differ same_place turned [] (all_loads ssa))))))

not-true : (b : Bool) → not b ≡ true → b ≡ false
not-true true e = absurd (cc)
not-true false e = refl

-- nothing is loaded right ahead of one
pub none-ahead : (ssa : Ssa) (l : PlacedLoad) → begins_run (first_loads ssa) l ≡ true → IsLoaded ssa (ahead l.address (size_of l.width)) l.width → ⊥
none-ahead ssa l t e =
    let a = ahead l.address (size_of l.width) in
    let m = listed-at ssa a l.width e in
    let f = not-true (list_any (loads_at a l.width) (first_loads ssa)) t in
    let g = any-is (loads_at a l.width) m.load (first_loads ssa) m.listed (stands-at a l.width m.load m.address m.width) in
    absurd (cc)

pub ahead-none : (ssa : Ssa) (l : PlacedLoad) → (IsLoaded ssa (ahead l.address (size_of l.width)) l.width → ⊥) → begins_run (first_loads ssa) l ≡ true
ahead-none ssa l n =
    let a = ahead l.address (size_of l.width) in
    elim (cases_Bool (list_any (loads_at a l.width) (first_loads ssa))) [
      | inl t ↦
          let k = any-found (loads_at a l.width) (first_loads ssa) t in
          let p = at-place a l.width k.0 k.2 in
          absurd (n (loaded-at ssa k.0.address a k.0.width l.width p.0 p.1 (listed-loaded ssa k.0 k.1)))
      | inr f ↦ ap not f
    ]

-- what is found at a place, and what is not
pub found-none : (test : PlacedLoad → Bool) (xs : List PlacedLoad) (x : PlacedLoad) → find test xs ≡ None → Has x xs → test x ≡ true → ⊥
found-none test [] x e h t = h
found-none test (y ∷ xs) x e h t = elim (cases_Bool (test y)) [
  | inl u ↦ absurd (let k : Some y ≡ None = rw u at e in cc)
  | inr f ↦ elim h [
    | inl s ↦ absurd (let k : test x ≡ false = ap test (sym s) ∙ f in cc)
    | inr r ↦ found-none test xs x (rw f at e) r t
  ]
]
