-- Each pack that a recipe takes gives a value that the operand wants.
use Rattle.std.proofs.Common.{◌≡◌, ℕ, zero, suc, ◌+◌, ◌<◌, ◌≤◌, Bool, true, false, List, [], ◌∷◌, ◌++◌, length, map, Option, Some, None, refl, sym, ap, subst, ◌∙◌, inl, inr, arith}
use Rattle.std.specs.Prelude.{◌||◌, ◌==◌, cond, filter, filter_map, nat_eq, nat_lt, not, slice_get, slice_index_or}
use Rattle.std.specs.List.{AllByRecursion, flat_map, list_all, list_any, position_or_len}
use Rattle.std.proofs.lemmas.Bool.{cases_Bool, eqb-true}
use Rattle.std.proofs.lemmas.Bool.Decides.{nat_tests}
use Rattle.vg_terms.specs.Term.{Tree, leaf, constant, one, two, sel}
use Rattle.vg_plans.specs.Levels.{first_least}
use Rattle.vg_shapes.specs.declared.operand.Operand.{Operand}
use Rattle.vg_shapes.specs.declared.operand.Slot.{Slot}
use Rattle.vg_shapes.specs.declared.pack.Pack.{Pack}
use Rattle.vg_shapes.specs.declared.pack.Pack.TheVariants.{Stores}
use Rattle.vg_shapes.specs.declared.ssa.Ssa.{Ssa}
use Rattle.vg_shapes.specs.declared.wanted.Wanted.{Wanted}
use Rattle.vg_shapes.specs.declared.wanted.Wanted.TheVariants.{Value, Constant, Nothing}
use Rattle.vg_shapes.specs.Description.{Description, IsLane, IsPackable}
use Rattle.vg_shapes.specs.Operands.{IsOperand}
use Rattle.vg_shapes.specs.Order.{one_if, Stands}
use Rattle.vg_kernel_plans.specs.declared.recipe.Recipe.{Recipe}
use Rattle.vg_kernel_plans.specs.declared.recipe.Recipe.TheVariants as recipe
use Rattle.vg_kernel_plans.specs.Held.{holds}
use Rattle.vg_kernel_plans.specs.Shuffles.{moved_from, moved_leaf, parts_from}
use Rattle.vg_kernel_plans.specs.Wants.{is_constant, is_wanted, slot, value_of, wanted_slots, wanted_values, wants_value}
use Rattle.vg_kernel_plans.proofs.SameTests.{both-true}
use Rattle.vg_order_laws.proofs.Sequences.{counts-itself}
use Rattle.vg_emission.specs.Emission.{constant_bytes, Job}
use Rattle.vg_emission.specs.Planned.{TakesGiven}
use Rattle.vg_gather.specs.Laws.{GivesWanted, RecipesTakeGiven}
use Rattle.vg_gather.specs.Recipes.{can_be_had, description_in, holder, packs_from, packs_of, part, ready_from, shuffled, spare}
use Rattle.vg_gather.proofs.Held.{holders-give}
use Rattle.vg_gather.proofs.Prices.{can_make, made, makes, ready-all, there-all}

-- ---- the first pack that passes

pub first-passes : (test : Pack → Bool) (plan : List Pack) → list_any test plan ≡ true
    → test (slice_index_or plan (position_or_len test plan) (Stores [])) ≡ true
first-passes test [] e = absurd (cc)
first-passes test (p ∷ plan) e =
    let Goal : ℕ → Type 0 = λ k. test (slice_index_or (p ∷ plan) k (Stores [])) ≡ true in
    let rest = position_or_len test plan in
    elim (cases_Bool (test p)) [
      | inl t ↦ subst Goal (sym (ap (λ b. cond (not b) (1 + rest) 0) t)) t
      | inr f ↦
          let next : 1 + rest ≡ suc rest = omega arith in
          subst Goal (sym (ap (λ b. cond (not b) (1 + rest) 0) f ∙ next))
          (first-passes test plan (sym (ap (λ b. b || list_any test plan) f) ∙ e))
    ]

-- ---- the values of parts are those that the operand wants

-- if the slot wants a value, it is among these
abbrev Inside : List ℕ → Slot → Type 0
Inside vs s = (v : ℕ) → s.wanted ≡ Value v → Stands v vs

abbrev values_in : List Slot → List ℕ
values_in ss = filter_map (λ s. value_of s.wanted) ss

wanted-first : (vs : List ℕ) (l w : ℕ) (x : Wanted) (ss : List Slot)
    → ((v : ℕ) → Stands v (values_in (slot l w x ∷ ss)) → Stands v vs)
    → (((v : ℕ) → Stands v (values_in ss) → Stands v vs) → AllByRecursion (Inside vs) (filter (λ s. is_wanted s.wanted) ss))
    → AllByRecursion (Inside vs) (filter (λ s. is_wanted s.wanted) (slot l w x ∷ ss))
wanted-first vs l w (Value v) ss into rest = (
  (λ u e. (let same : u ≡ v = cc in
      let here : one_if (u == v) ≡ 1 = ap (λ k. one_if (u == k)) (sym same) ∙ counts-itself u in
      into u (omega arith))),
  rest (λ u h. into u (omega arith)),
)
wanted-first vs l w (Constant m c) ss into rest = ((λ u e. absurd (cc)), rest into)
wanted-first vs l w Nothing ss into rest = rest into

wanted-inside : (vs : List ℕ) (ss : List Slot) → ((v : ℕ) → Stands v (values_in ss) → Stands v vs)
    → AllByRecursion (Inside vs) (filter (λ s. is_wanted s.wanted) ss)
wanted-inside vs [] into = tt
wanted-inside vs (s ∷ ss) into =
    wanted-first vs s.low s.width s.wanted ss into (λ h. wanted-inside vs ss h)

all-append : {X : Type 0} (P : X → Type 0) (xs ys : List X) → AllByRecursion P xs → AllByRecursion P ys → AllByRecursion P (xs ++ ys)
all-append P [] ys h k = k
all-append P (x ∷ xs) ys h k = (h.0, all-append P xs ys h.1 k)

leaf-inside : (vs : List ℕ) (t : Option Tree) (s : Slot) → Inside vs s → AllByRecursion (λ m. Inside vs m.1) (moved_leaf t s)
leaf-inside vs None s h = tt
leaf-inside vs (Some (leaf w k)) s h = (h, tt)
leaf-inside vs (Some (constant w n)) s h = tt
leaf-inside vs (Some (one op w k x)) s h = tt
leaf-inside vs (Some (two op w x y)) s h = tt
leaf-inside vs (Some (sel w c x y)) s h = tt

moved-inside : (vs : List ℕ) (e : Description) (ss : List Slot) → AllByRecursion (Inside vs) ss
    → AllByRecursion (λ m. Inside vs m.1) (flat_map (moved_from e) ss)
moved-inside vs e [] h = tt
moved-inside vs e (s ∷ ss) h =
    all-append (λ m. Inside vs m.1) (moved_from e s) (flat_map (moved_from e) ss)
    (leaf-inside vs _ s h.0) (moved-inside vs e ss h.1)

picked-inside : (vs : List ℕ) (k : ℕ) (moved : List (ℕ × Slot)) → AllByRecursion (λ m. Inside vs m.1) moved
    → AllByRecursion (Inside vs) (map (λ m. m.1) (filter (λ m. nat_eq m.0 k) moved))
picked-inside vs k [] h = tt
picked-inside vs k (m ∷ moved) h = elim (cases_Bool (nat_eq m.0 k)) [
  | inl t ↦ rw t (h.0, picked-inside vs k moved h.1)
  | inr f ↦ rw f (picked-inside vs k moved h.1)
]

standing-first : (vs : List ℕ) (l w : ℕ) (x : Wanted) (ss : List Slot) (v : ℕ) → Inside vs (slot l w x)
    → (Stands v (values_in ss) → Stands v vs) → Stands v (values_in (slot l w x ∷ ss)) → Stands v vs
standing-first vs l w (Value u) ss v first rest h = elim (cases_Bool (v == u)) [
  | inl t ↦ first v (ap Value (sym (eqb-true v u t)))
  | inr f ↦ rest (let none : one_if (v == u) ≡ 0 = ap one_if f in omega arith)
]
standing-first vs l w (Constant m c) ss v first rest h = rest h
standing-first vs l w Nothing ss v first rest h = rest h

standing : (vs : List ℕ) (ss : List Slot) (v : ℕ) → AllByRecursion (Inside vs) ss → Stands v (values_in ss) → Stands v vs
standing vs [] v all h = absurd (omega arith)
standing vs (s ∷ ss) v all h =
    standing-first vs s.low s.width s.wanted ss v all.0 (λ k. standing vs ss v all.1 k) h

abbrev pub moved_of : Operand → Description → List (ℕ × Slot)
moved_of o e = flat_map (moved_from e) (wanted_slots o)

part-gives : (o : Operand) (e : Description) (k register : ℕ) (p : Pack)
    → GivesWanted (part (moved_of o e) k register) p → GivesWanted o p
part-gives o e k register p g =
    let inside = moved-inside (wanted_values o) e (wanted_slots o) (wanted-inside (wanted_values o) o.slots (λ v h. h)) in (
      g.0,
      standing (wanted_values o) (part (moved_of o e) k register).slots g.0
          (picked-inside (wanted_values o) k (moved_of o e) inside) g.1,
      g.2,
    )

-- ---- the packs of a shuffle

module _ (ds : List Description) (ssa : Ssa) (plan : List Pack) (o : Operand) (e : Description) where
  abbrev pub IsGood : ℕ → Type 0
  IsGood n = GivesWanted o (slice_index_or plan n (Stores []))

  held-good : (k register : ℕ) → list_any (λ p. holds ds ssa p (part (moved_of o e) k register)) plan ≡ true
      → IsGood (holder ds ssa plan (part (moved_of o e) k register))
  held-good k register any =
      let own = part (moved_of o e) k register in
      let p = slice_index_or plan (holder ds ssa plan own) (Stores []) in
      part-gives o e k register p
      (holders-give ds ssa p own (first-passes (λ q. holds ds ssa q own) plan any))

  abbrev have_packs : List Operand → Type 0
  have_packs os = list_all (λ n. list_any (λ p. holds ds ssa p n) plan) os ≡ true

  abbrev own_length : ℕ → ℕ → ℕ
  own_length k register = length (part (moved_of o e) k register).slots

  packs-good : (other k : ℕ) (params : List ℕ) → IsGood other → have_packs (parts_from (moved_of o e) k params)
      → AllByRecursion IsGood (packs_from (holder ds ssa plan) (moved_of o e) other k params)
  packs-good other k [] good have = tt
  packs-good other k (register ∷ params) good have =
      let own = part (moved_of o e) k register in
      let rest = parts_from (moved_of o e) (suc k) params in
      let behind = packs_from (holder ds ssa plan) (moved_of o e) other (suc k) params in
      elim (cases_Bool (nat_eq (length own.slots) 0)) [
        | inl t ↦
            let h : have_packs rest = subst have_packs (ap (λ b. cond b rest (own ∷ rest)) t) have in
            subst (λ b. AllByRecursion IsGood (cond b other (holder ds ssa plan own) ∷ behind)) (sym t)
            (good, packs-good other (suc k) params good h)
        | inr f ↦
            let h : have_packs (own ∷ rest) = subst have_packs (ap (λ b. cond b rest (own ∷ rest)) f) have in
            let both = both-true (list_any (λ p. holds ds ssa p own) plan) _ h in
            subst (λ b. AllByRecursion IsGood (cond b other (holder ds ssa plan own) ∷ behind)) (sym f)
            (held-good k register both.0, packs-good other (suc k) params good both.1)
      ]

  spare-good : (k : ℕ) (params : List ℕ) → 1 ≤ length (parts_from (moved_of o e) k params)
      → have_packs (parts_from (moved_of o e) k params)
      → IsGood (spare (holder ds ssa plan) (parts_from (moved_of o e) k params))
  spare-good k [] long have = absurd (omega arith)
  spare-good k (register ∷ params) long have =
      let own = part (moved_of o e) k register in
      let rest = parts_from (moved_of o e) (suc k) params in
      elim (cases_Bool (nat_eq (length own.slots) 0)) [
        | inl t ↦
            let same = ap (λ b. cond b rest (own ∷ rest)) t in
            subst (λ os. IsGood (spare (holder ds ssa plan) os)) (sym same)
            (spare-good (suc k) params (subst (λ os. 1 ≤ length os) same long) (subst have_packs same have))
        | inr f ↦
            let same = ap (λ b. cond b rest (own ∷ rest)) f in
            let both = both-true (list_any (λ p. holds ds ssa p own) plan) _ (subst have_packs same have) in
            subst (λ os. IsGood (spare (holder ds ssa plan) os)) (sym same) (held-good k register both.0)
      ]

-- ---- a part is in use

picked-some : (k : ℕ) (m : ℕ × Slot) (moved : List (ℕ × Slot)) → m.0 ≡ k
    → nat_eq (length (map (λ m. m.1) (filter (λ m. nat_eq m.0 k) (m ∷ moved)))) 0 ≡ false
picked-some k m moved e =
    let t : nat_eq m.0 k ≡ true = grind (arith, nat_tests, e) in
    rw t (let rest = map (λ m. m.1) (filter (λ m. nat_eq m.0 k) moved) in grind (arith, nat_tests))

parts-some : (m : ℕ × Slot) (moved : List (ℕ × Slot)) (k : ℕ) (params : List ℕ) → k ≤ m.0 → m.0 < k + length params
    → 1 ≤ length (parts_from (m ∷ moved) k params)
parts-some m moved k [] low high = absurd (omega arith)
parts-some m moved k (register ∷ params) low high =
    let own = part (m ∷ moved) k register in
    let rest = parts_from (m ∷ moved) (suc k) params in
    elim (cases_Bool (nat_eq (length own.slots) 0)) [
      | inl t ↦ elim (cases_Bool (nat_eq m.0 k)) [
        | inl here ↦ absurd (
            let e : m.0 ≡ k = grind (arith, nat_tests, here) in
            let f = picked-some k m moved e in
            cc)
        | inr there ↦
            let next : suc k ≤ m.0 = grind (arith, nat_tests, there) in
            subst (λ b. 1 ≤ length (cond b rest (own ∷ rest))) (sym t)
            (parts-some m moved (suc k) params next (omega arith))
      ]
      | inr f ↦ subst (λ b. 1 ≤ length (cond b rest (own ∷ rest))) (sym f) (omega arith)
    ]

there-is : (params : List ℕ) (n : ℕ) → 0 < slice_index_or params n 0 → n < length params
there-is [] n h = absurd (omega arith)
there-is (x ∷ params) zero h = omega arith
there-is (x ∷ params) (suc n) h = let k = there-is params n h in omega arith

all-get : {X : Type 0} (P : X → Type 0) (xs : List X) (i : ℕ) (x : X) → AllByRecursion P xs → slice_get xs i ≡ Some x → P x
all-get P [] i x h e = absurd (cc)
all-get P (y ∷ xs) zero x h e = subst P (cc) h.0
all-get P (y ∷ xs) (suc i) x h e = all-get P xs i x h.1 e

leaf-below : (params : List ℕ) (width : ℕ) (lanes : List Tree) (i : ℕ) (t : Option Tree) (s : Slot)
    → AllByRecursion (IsLane params width) lanes → slice_get lanes i ≡ t
    → AllByRecursion (λ m. m.0 < length params) (moved_leaf t s)
leaf-below params width lanes i None s h e = tt
leaf-below params width lanes i (Some (leaf w k)) s h e =
    let is = all-get (IsLane params width) lanes i (leaf w k) h e in
    let inside = is.inside in
    let wide = is.formed in
    let key = inside.2 in
    let fits = inside.3 in
    (subst (λ k. k.first < length params) (sym key) (there-is params inside.0 (omega arith)), tt)
leaf-below params width lanes i (Some (constant w n)) s h e = tt
leaf-below params width lanes i (Some (one op w k x)) s h e = tt
leaf-below params width lanes i (Some (two op w x y)) s h e = tt
leaf-below params width lanes i (Some (sel w c x y)) s h e = tt

pub moved-below : (e : Description) (ss : List Slot) → IsPackable e
    → AllByRecursion (λ m. m.0 < length e.params) (flat_map (moved_from e) ss)
moved-below e [] is = tt
moved-below e (s ∷ ss) is =
    all-append (λ m. m.0 < length e.params) (moved_from e s) (flat_map (moved_from e) ss)
    (leaf-below e.params e.lane_width e.lanes _ _ s is.lanes refl) (moved-below e ss is)

pub in-use : (e : Description) (moved : List (ℕ × Slot)) → 1 ≤ length moved
    → AllByRecursion (λ m. m.0 < length e.params) moved → 1 ≤ length (parts_from moved 0 e.params)
in-use e [] long all = absurd (omega arith)
in-use e (m ∷ moved) long all = let h = all.0 in parts-some m moved 0 e.params (omega arith) (omega arith)

pub value-wanted : (ss : List Slot) → list_any (λ s. wants_value s.wanted) ss ≡ true
    → 1 ≤ length (filter (λ s. is_wanted s.wanted) ss)
value-wanted [] e = absurd (cc)
value-wanted (s ∷ ss) e = first s.wanted (λ h. value-wanted ss h) e
  where
    first : (x : Wanted)
        → (list_any (λ s. wants_value s.wanted) ss ≡ true → 1 ≤ length (filter (λ s. is_wanted s.wanted) ss))
        → (wants_value x || list_any (λ s. wants_value s.wanted) ss) ≡ true
        → 1 ≤ length (cond (is_wanted x) (s ∷ filter (λ s. is_wanted s.wanted) ss) (filter (λ s. is_wanted s.wanted) ss))
    first (Value v) rest e = omega arith
    first (Constant w c) rest e = omega arith
    first Nothing rest e = rest e

pub not-constant : (b : Bool) → not b ≡ false → b ≡ true
not-constant true e = refl
not-constant false e = absurd (cc)

packs-of-good : (ds : List Description) (ssa : Ssa) (plan : List Pack) (o : Operand) (e : Description)
    → IsPackable e → is_constant o ≡ false → can_make o e ≡ true → can_be_had ds ssa plan (made o e) ≡ true
    → AllByRecursion (IsGood ds ssa plan o e) (packs_of ds ssa plan o e)
packs-of-good ds ssa plan o e is varies can had =
    let m = makes o e can in
    let some = value-wanted o.slots (not-constant _ varies) in
    let long : 1 ≤ length (moved_of o e) =
    let same = eqb-true (length (moved_of o e)) (length (wanted_slots o)) m.moves in omega arith
    in
    let used = in-use e (moved_of o e) long (moved-below e (wanted_slots o) is) in
    packs-good ds ssa plan o e _ 0 e.params (spare-good ds ssa plan o e 0 e.params used had) had

-- ---- recipes

pub packable-in : (ds : List Description) (n : ℕ) → AllByRecursion IsPackable ds → IsPackable (description_in ds n)
packable-in [] n h = record { fill = refl; lanes = tt; even = refl; apart = refl }
packable-in (d ∷ ds) zero h = h.0
packable-in (d ∷ ds) (suc n) h = packable-in ds n h.1

pub least-has : (P : ℕ → Type 0) (key : ℕ → ℕ) (best : ℕ) (xs : List ℕ) → P best → AllByRecursion P xs → P (first_least key best xs)
least-has P key best [] h all = h
least-has P key best (x ∷ xs) h all = elim (cases_Bool (nat_lt (key x) (key best))) [
  | inl t ↦ rw t (least-has P key x xs all.0 all.1)
  | inr f ↦ rw f (least-has P key best xs h all.1)
]

shuffled-takes : (j : Job) (o : Operand) (numbers : List ℕ) → IsOperand j.ssa o
    → AllByRecursion (λ n. AllByRecursion (IsGood j.descriptions j.ssa j.packs o (description_in j.descriptions n)) (packs_of j.descriptions j.ssa j.packs o (description_in j.descriptions n))) numbers
    → TakesGiven j o (shuffled j.descriptions j.ssa j.packs o numbers)
shuffled-takes j o [] is all = is
shuffled-takes j o (d ∷ numbers) is all =
    least-has
    (λ n. AllByRecursion (IsGood j.descriptions j.ssa j.packs o (description_in j.descriptions n)) (packs_of j.descriptions j.ssa j.packs o (description_in j.descriptions n)))
    (λ n. (description_in j.descriptions n).cost) d numbers all.0 all.1

takes-three : (j : Job) (o : Operand) (b c : Bool) (r s t : Recipe) → (b ≡ true → TakesGiven j o r) → TakesGiven j o s
    → (c ≡ false → TakesGiven j o t) → TakesGiven j o (cond b r (cond c s t))
takes-three j o true c r s t h k l = h refl
takes-three j o false true r s t h k l = k
takes-three j o false false r s t h k l = l refl

pub recipes-take-given : RecipesTakeGiven
recipes-take-given j o packable is =
    let ds = j.descriptions in
    let ready = ready_from ds j.ssa j.packs o 0 ds in
    takes-three j o (list_any (λ p. holds ds j.ssa p o) j.packs) (is_constant o)
    (recipe.Reuse (holder ds j.ssa j.packs o)) (recipe.Constant (constant_bytes o)) (shuffled ds j.ssa j.packs o ready)
    (λ any. holders-give ds j.ssa (slice_index_or j.packs (holder ds j.ssa j.packs o) (Stores [])) o (first-passes (λ p. holds ds j.ssa p o) j.packs any))
    tt
    (λ varies. shuffled-takes j o ready is
    (ready-all ds j.ssa j.packs o
    (λ n. AllByRecursion (IsGood ds j.ssa j.packs o (description_in ds n)) (packs_of ds j.ssa j.packs o (description_in ds n)))
    0 ds (there-all ds)
    (λ n e here can had.
    subst (λ e. AllByRecursion (IsGood ds j.ssa j.packs o e) (packs_of ds j.ssa j.packs o e)) here
    (packs-of-good ds j.ssa j.packs o e (subst IsPackable (sym here) (packable-in ds n packable)) varies can had))))
