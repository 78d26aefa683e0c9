-- A pack holds or gives only what has one of the operand's values among its units.
use Rattle.std.proofs.Common.{◌≡◌, ℕ, suc, ◌+◌, Bool, true, false, List, [], ◌∷◌, map, length, refl, sym, ◌∙◌, ap, subst, inl, inr}
use Rattle.std.specs.Prelude.{◌&&◌, ◌||◌, if◌then◌else◌, filter, nat_eq, Option, Some, None}
use Rattle.std.specs.List.{filter_map, flat_map, list_any, list_all}
use Rattle.std.proofs.lemmas.Bool.{cases_Bool}
use Rattle.vg_plans.specs.Members.{Has}
use Rattle.vg_plans.specs.Recipes.{GivesOwnValues, IsOther}
use Rattle.vg_plans.specs.World.{is_in}
use Rattle.vg_plans.proofs.Members.{any-found, from-filter, from-flat_map}
use Rattle.vg_terms.specs.Term.{Tree, leaf, constant, one, two, sel}
use Rattle.vg_shapes.specs.declared.match_table.Match.{Match}
use Rattle.vg_shapes.specs.declared.operand.Operand.{Operand}
use Rattle.vg_shapes.specs.declared.operand.Slot.{Slot}
use Rattle.vg_shapes.specs.declared.pack.Pack.{Pack}
use Rattle.vg_shapes.specs.declared.pack.Pack.TheVariants.{Stores, Loads, Call}
use Rattle.vg_shapes.specs.declared.ssa.Ssa.{Ssa}
use Rattle.vg_shapes.specs.declared.wanted.Wanted.{Wanted}
use Rattle.vg_shapes.specs.declared.wanted.Wanted.TheVariants.{Value, Constant, Nothing}
use Rattle.vg_shapes.specs.Description.{Description}
use Rattle.vg_shapes.specs.Pack.{units_of}
use Rattle.vg_kernel_plans.specs.Held.{held_slots, holds, is_filled, lane_width_of, lanes_from, register_of}
use Rattle.vg_kernel_plans.specs.Packing.{packing}
use Rattle.vg_kernel_plans.specs.SameAs.{same_lane, same_slot}
use Rattle.vg_kernel_plans.specs.Shuffles.{moved_from, moved_leaf, parts_from, shuffle_of, shuffles}
use Rattle.vg_kernel_plans.specs.Wants.{is_wanted, slot, value_of, wanted_slots, wanted_values, wants_value}
use Rattle.vg_kernel_plans.proofs.SameTests.{both-true, eq-itself, slot-is}
use Rattle.vg_cost.specs.Taken.{is_one_of, is_touched}

-- a value among the lanes that have one
pub in_lanes : (v : ℕ) (lanes : List (Option ℕ)) → list_any (same_lane (Some v)) lanes ≡ is_in v (filter_map (λ l. l) lanes)
in_lanes v [] = refl
in_lanes v (None ∷ lanes) = in_lanes v lanes
in_lanes v (Some u ∷ lanes) = ap (λ t. nat_eq v u || t) (in_lanes v lanes)

pub all-has : {X : Type 0} (test : X → Bool) (x : X) (xs : List X) → list_all test xs ≡ true → Has x xs → test x ≡ true
all-has test x [] t h = absurd h
all-has test x (y ∷ xs) t h =
    let b = both-true (test y) (list_all test xs) t in
    elim h [ inl e ↦ subst (λ z. test z ≡ true) e b.0 | inr r ↦ all-has test x xs b.1 r ]

pub from-map : {X Y : Type 0} (f : X → Y) (y : Y) (xs : List X) → Has y (map f xs) → (x : X) × Has x xs × (f x ≡ y)
from-map f y [] h = absurd h
from-map f y (x ∷ xs) h = elim h [
  | inl e ↦ (x, inl refl, e)
  | inr r ↦ let k = from-map f y xs r in (k.0, inr k.1, k.2)
]

-- the values that are wanted
pub wants-it : (v : ℕ) (s : Slot) (ss : List Slot) → Has s ss → value_of s.wanted ≡ Some v
    → Has v (filter_map (λ s. value_of s.wanted) ss)
wants-it v s [] h e = absurd h
wants-it v s (z ∷ ss) h e = elim h [
  | inl q ↦ let u : value_of z.wanted ≡ Some v = subst (λ y. value_of y.wanted ≡ Some v) (sym q) e in rw u (inl refl)
  | inr r ↦ skips z (value_of z.wanted) refl (wants-it v s ss r e)
] where
  skips : (z : Slot) (o : Option ℕ) → value_of z.wanted ≡ o → Has v (filter_map (λ s. value_of s.wanted) ss)
      → Has v (filter_map (λ s. value_of s.wanted) (z ∷ ss))
  skips z None e h = rw e h
  skips z (Some u) e h = rw e (inr h)

-- a slot that is at a lane wants its value
at-lane : (low width : ℕ) (lanes : List (Option ℕ)) (s : Slot) → list_any (same_slot s) (lanes_from low width lanes) ≡ true
    → (v : ℕ) × (s.wanted ≡ Value v) × (is_in v (filter_map (λ l. l) lanes) ≡ true)
at-lane low width [] s t = absurd (cc)
at-lane low width (None ∷ lanes) s t = at-lane (low + width) width lanes s t
at-lane low width (Some u ∷ lanes) s t = elim (cases_Bool (same_slot s (slot low width (Value u)))) [
  | inl h ↦ (u, ap (λ z. z.wanted) (slot-is s (slot low width (Value u)) h), rw (eq-itself u) refl)
  | inr f ↦
      let k = at-lane (low + width) width lanes s (rw f at t) in
      let i = k.2 in
      (k.0, k.1, or-right (nat_eq k.0 u) _ i)
] where
  or-right : (a b : Bool) → b ≡ true → a || b ≡ true
  or-right true b e = refl
  or-right false b e = e

some-lanes : (us : List ℕ) → filter_map (λ l. l) (map Some us) ≡ us
some-lanes [] = refl
some-lanes (u ∷ us) = ap (λ l. u ∷ l) (some-lanes us)

-- what a pack holds are its units
pub held-value : (ds : List Description) (ssa : Ssa) (p : Pack) (s : Slot) → list_any (same_slot s) (held_slots ds ssa p) ≡ true
    → (v : ℕ) × (s.wanted ≡ Value v) × (is_in v (units_of p) ≡ true)
held-value ds ssa (Stores us) s t = absurd (cc)
held-value ds ssa (Loads us) s t =
    let k = at-lane 0 (lane_width_of ds ssa (Loads us)) (map Some us) s t in
    (k.0, k.1, subst (λ l. is_in k.0 l ≡ true) (some-lanes us) k.2)
held-value ds ssa (Call d lanes) s t = at-lane 0 (lane_width_of ds ssa (Call d lanes)) lanes s t

filled-held : (ds : List Description) (ssa : Ssa) (p : Pack) (s : Slot) → is_filled ds ssa p s ≡ true → is_wanted s.wanted ≡ true
    → list_any (same_slot s) (held_slots ds ssa p) ≡ true
filled-held ds ssa p s f w =
    let g : (wants_value s.wanted && list_any (same_slot s) (held_slots ds ssa p)) ≡ true = rw w at f in
    (both-true (wants_value s.wanted) _ g).1

-- a slot of the operand that is wanted is at its place in the pack
pub holds-slot : (ds : List Description) (ssa : Ssa) (p : Pack) (o : Operand) (s : Slot) → holds ds ssa p o ≡ true
    → Has s o.slots → is_wanted s.wanted ≡ true → list_any (same_slot s) (held_slots ds ssa p) ≡ true
holds-slot ds ssa p o s h i w =
    let a = (both-true (nat_eq (register_of ds ssa p) o.register) _ h).1 in
    let b = (both-true (list_any (λ s. is_wanted s.wanted) o.slots) _ a).1 in
    filled-held ds ssa p s (all-has (is_filled ds ssa p) s o.slots b i) w

-- one of its slots is wanted and is at its place
pub holds-some : (ds : List Description) (ssa : Ssa) (p : Pack) (o : Operand) → holds ds ssa p o ≡ true
    → (s : Slot) × (v : ℕ) × Has s o.slots × (s.wanted ≡ Value v) × (is_in v (units_of p) ≡ true)
holds-some ds ssa p o h =
    let a = (both-true (nat_eq (register_of ds ssa p) o.register) _ h).1 in
    let w = (both-true (list_any (λ s. is_wanted s.wanted) o.slots) _ a).0 in
    let s = any-found (λ s. is_wanted s.wanted) o.slots w in
    let k = held-value ds ssa p s.0 (holds-slot ds ssa p o s.0 h s.1 s.2) in
    (s.0, k.0, s.1, k.1, k.2)

-- the slots of parts are of the leaves that lanes are
part-slot : (moved : List (ℕ × Slot)) (k : ℕ) (params : List ℕ) (n : Operand) (s : Slot) → Has n (parts_from moved k params)
    → Has s n.slots → (m : ℕ × Slot) × Has m moved × (m.1 ≡ s)
part-slot moved k [] n s h i = absurd h
part-slot moved k (r ∷ params) n s h i =
    let own = map (λ m. m.1) (filter (λ m. nat_eq m.0 k) moved) in
    elim (cases_Bool (nat_eq (length own) 0)) [
      | inl t ↦ part-slot moved (suc k) params n s (rw t at h) i
      | inr f ↦ elim (rw f at h) [
        | inl e ↦
            let j : Has s own = subst (λ o. Has s o.slots) (sym e) i in
            let m = from-map (λ m. m.1) s (filter (λ m. nat_eq m.0 k) moved) j in
            (m.0, (from-filter (λ m. nat_eq m.0 k) m.0 moved m.1).0, m.2)
        | inr r ↦ part-slot moved (suc k) params n s r i
      ]
    ]

-- the leaf of a lane wants what is wanted of the lane
moved-wants : (t : Option Tree) (s : Slot) (m : ℕ × Slot) → Has m (moved_leaf t s) → m.1.wanted ≡ s.wanted
moved-wants None s m h = absurd h
moved-wants (Some (leaf w k)) s m h = elim h [ inl e ↦ ap (λ x. x.1.wanted) (sym e) | inr n ↦ absurd n ]
moved-wants (Some (constant w n)) s m h = absurd h
moved-wants (Some (one op w k x)) s m h = absurd h
moved-wants (Some (two op w x y)) s m h = absurd h
moved-wants (Some (sel w c x y)) s m h = absurd h

pub moved-from : (e : Description) (s : Slot) (m : ℕ × Slot) → Has m (moved_from e s) → m.1.wanted ≡ s.wanted
moved-from e s m h = moved-wants _ s m h

pub if-one : {X : Type 0} (b : Bool) (q p : X) → Has p (if b then q ∷ [] else []) → (b ≡ true) × (q ≡ p)
if-one true q p h = elim h [ inl e ↦ (refl, e) | inr n ↦ absurd n ]
if-one false q p h = absurd h

-- a pack that is given to a shuffle has one of the operand's values
gives-one : (ds : List Description) (ssa : Ssa) (p : Pack) (o : Operand) (s : ℕ × List Operand) (n : Operand)
    → Has s (shuffles ds o) → Has n s.1 → holds ds ssa p n ≡ true
    → (v : ℕ) × Has v (wanted_values o) × (is_in v (units_of p) ≡ true)
gives-one ds ssa p o s n hs hn g =
    let e = from-flat_map (shuffle_of o) s ds hs in
    let moved = flat_map (moved_from e.0) (wanted_slots o) in
    let made = if-one _ (e.0.cost, parts_from moved 0 e.0.params) s e.2 in
    let some = holds-some ds ssa p n g in
    let m = part-slot moved 0 e.0.params n some.0 (subst (λ x. Has n x.1) (sym made.1) hn) some.2 in
    let from = from-flat_map (moved_from e.0) m.0 (wanted_slots o) m.1 in
    let there = (from-filter (λ s. is_wanted s.wanted) from.0 o.slots from.1).0 in
    let same : from.0.wanted ≡ Value some.1 =
    sym (moved-from e.0 from.0 m.0 from.2) ∙ ap (λ z. z.wanted) m.2 ∙ some.3
    in
    (some.1, wants-it some.1 from.0 o.slots there (ap value_of same), some.4)

pub own-values : (ds : List Description) (matches : List Match) (ssa : Ssa) (deps : List (ℕ × ℕ))
    → GivesOwnValues (packing ds matches ssa deps)
own-values ds matches ssa deps = record {
  holds_one = λ p o h.
      let some = holds-some ds ssa p o h in
      (some.1, wants-it some.1 some.0 o.slots some.2 (ap value_of some.3), some.4);
  gives_one = λ p o s n hs hn g. gives-one ds ssa p o s n hs hn g;
}

neither : (a b : Bool) → a || b ≡ false → (a ≡ false) × (b ≡ false)
neither true b e = absurd (cc)
neither false b e = (refl, e)

by-wanted : (p : Pack) (s : Slot) (ss : List Slot) (v : ℕ) (x : Wanted) → s.wanted ≡ x → is_one_of p s.wanted ≡ false
    → (Has v (filter_map (λ s. value_of s.wanted) ss) → is_in v (units_of p) ≡ false)
    → Has v (filter_map (λ s. value_of s.wanted) (s ∷ ss)) → is_in v (units_of p) ≡ false
by-wanted p s ss v (Value u) e f rest h = elim (rw e at h) [
  | inl q ↦ let g : is_in u (units_of p) ≡ false = rw e at f in subst (λ n. is_in n (units_of p) ≡ false) q g
  | inr r ↦ rest r
]
by-wanted p s ss v (Constant w n) e f rest h = rest (rw e at h)
by-wanted p s ss v Nothing e f rest h = rest (rw e at h)

-- none of the wanted values is a unit of a pack that has none of them
none-wanted : (p : Pack) (ss : List Slot) → list_any (λ s. is_one_of p s.wanted) ss ≡ false → (v : ℕ)
    → Has v (filter_map (λ s. value_of s.wanted) ss) → is_in v (units_of p) ≡ false
none-wanted p [] f v h = absurd h
none-wanted p (s ∷ ss) f v h =
    let k = neither (is_one_of p s.wanted) (list_any (λ s. is_one_of p s.wanted) ss) f in
    by-wanted p s ss v s.wanted refl k.0 (none-wanted p ss k.1 v) h

pub is-other : (ds : List Description) (matches : List Match) (ssa : Ssa) (deps : List (ℕ × ℕ)) (p : Pack) (o : Operand)
    → is_touched p o ≡ false → IsOther (packing ds matches ssa deps) p o
is-other ds matches ssa deps p o f = none-wanted p o.slots f
