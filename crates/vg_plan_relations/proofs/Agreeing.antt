-- Lanes that bind one leaf agree exactly where no two slots of an operand of the call stand at one bit.
use Rattle.std.proofs.Common.{◌≡◌, ℕ, zero, suc, ◌+◌, ◌<◌, ◌≤◌, ◌⊎◌, true, false, List, [], ◌∷◌, length, map, filter, refl, sym, ◌∙◌, ap, subst, inl, inr, arith}
use Rattle.std.specs.Prelude.{not, nat_eq, nat_le, Option, Some, slice_get}
use Rattle.std.specs.List.{list_all, list_any}
use Rattle.std.specs.Option.{option_map_or}
use Rattle.std.proofs.lemmas.Bool.{cases_Bool, not-true}
use Rattle.std.proofs.lemmas.Bool.Decides.{nat_tests}
use Rattle.vg_plans.specs.Levels.{distinct, insert_by, sort_by}
use Rattle.vg_plans.specs.Members.{Every, Has}
use Rattle.vg_plans.proofs.Lists.{distinct-differ, every-distinct, every-has, every-map, every-sort, has-map, has-sort, stays}
use Rattle.vg_plans.proofs.Members.{Unique, any-found, any-is, from-filter, has-filter}
use Rattle.vg_plans.proofs.Sorting.{Rises, sort-rises}
use Rattle.vg_shapes.specs.declared.match_table.Bound.{Bound}
use Rattle.vg_shapes.specs.declared.match_table.Match.{Match}
use Rattle.vg_shapes.specs.declared.operand.Operand.{Operand}
use Rattle.vg_shapes.specs.declared.operand.Slot.{Slot}
use Rattle.vg_shapes.specs.declared.pack.Pack.TheVariants.{Call}
use Rattle.vg_shapes.specs.declared.ssa.Ssa.{Ssa}
use Rattle.vg_shapes.specs.Description.{Description, IsPackable}
use Rattle.vg_shapes.specs.Leaves.{bit_number}
use Rattle.vg_shapes.specs.Matches.{AreMatches}
use Rattle.vg_shapes.specs.Pack.{bounds_from, match_at}
use Rattle.vg_kernel_plans.specs.Producers.{agree}
use Rattle.vg_kernel_plans.specs.SameAs.{same_slot}
use Rattle.vg_kernel_plans.specs.Taken.{operands_from, operands_of, params_of, slot_of, slots_of}
use Rattle.vg_kernel_plans.proofs.SameTests.{both-true, operand-itself, slot-is}
use Rattle.vg_plan_relations.specs.Produces.{AreRising, Binds, LanesAgree}
use Rattle.vg_plan_relations.proofs.Fitting.{binds-param, bound-binds, bound-there}
use Rattle.vg_plan_relations.proofs.Lists.{differ-unique}

pub slot-itself : (s : Slot) → same_slot s s ≡ true
slot-itself s = (both-true (same_slot s s) true (operand-itself (record { register = 0; slots = s ∷ [] }))).0

-- ---- slots of which no two stand at one bit

agree-one : (ss : List Slot) (s t : Slot) → agree ss ≡ true → Has s ss → Has t ss → s.low ≡ t.low → s ≡ t
agree-one [] s t a h k e = absurd h
agree-one (u ∷ ss) s t a h k e =
    let b = both-true (not (list_any (λ (x : Slot). nat_eq u.low x.low) ss)) (agree ss) a in
    let none = not-true (list_any (λ (x : Slot). nat_eq u.low x.low) ss) b.0 in
    elim h [
      | inl p ↦ elim k [
        | inl q ↦ sym p ∙ q
        | inr m ↦ absurd (
            let same : u.low ≡ t.low = ap (λ (x : Slot). x.low) p ∙ e in
            let hit : nat_eq u.low t.low ≡ true = grind (arith, nat_tests, same) in
            let any = any-is (λ (x : Slot). nat_eq u.low x.low) t ss m hit in
            cc)
      ]
      | inr n ↦ elim k [
        | inl q ↦ absurd (
            let same : u.low ≡ s.low = ap (λ (x : Slot). x.low) q ∙ sym e in
            let hit : nat_eq u.low s.low ≡ true = grind (arith, nat_tests, same) in
            let any = any-is (λ (x : Slot). nat_eq u.low x.low) s ss n hit in
            cc)
        | inr m ↦ agree-one ss s t b.1 n m e
      ]
    ]

one-agree : (ss : List Slot) → Unique ss → ((s t : Slot) → Has s ss → Has t ss → s.low ≡ t.low → s ≡ t) → agree ss ≡ true
one-agree [] u f = refl
one-agree (s ∷ ss) u f =
    let rest = one-agree ss u.1 (λ x y h k e. f x y (inr h) (inr k) e) in
    elim (cases_Bool (list_any (λ (x : Slot). nat_eq s.low x.low) ss)) [
      | inl t ↦ absurd (
          let k = any-found (λ (x : Slot). nat_eq s.low x.low) ss t in
          let low : s.low ≡ k.0.low = let e = k.2 in grind (arith, nat_tests, e) in
          let same = f s k.0 (inl refl) (inr k.1) low in
          u.0 (subst (λ x. Has x ss) (sym same) k.1))
      | inr g ↦ rw g rest
    ]

-- rising slots of which no two stand at one bit
pub rise-apart : (ss : List Slot) → Rises (λ (s : Slot). s.low) ss → agree ss ≡ true → AreRising ss
rise-apart [] r a = tt
rise-apart (s ∷ ss) r a =
    let b = both-true (not (list_any (λ (x : Slot). nat_eq s.low x.low) ss)) (agree ss) a in
    (strict ss r.0 (not-true (list_any (λ (x : Slot). nat_eq s.low x.low) ss) b.0), rise-apart ss r.1 b.1)
  where
    strict : (ts : List Slot) → Every (λ (t : Slot). s.low ≤ t.low) ts → list_any (λ (x : Slot). nat_eq s.low x.low) ts ≡ false
        → Every (λ (t : Slot). s.low < t.low) ts
    strict [] l n = tt
    strict (t ∷ ts) l n = elim (cases_Bool (nat_eq s.low t.low)) [
      | inl e ↦ absurd (let y : list_any (λ (x : Slot). nat_eq s.low x.low) (t ∷ ts) ≡ true = rw e refl in cc)
      | inr f ↦ (let le = l.0 in grind (arith, nat_tests, f, le), strict ts l.1 (rw f at n))
    ]

-- ---- sorted and distinct slots stand once

from-insert : {X : Type 0} (key : X → ℕ) (x y : X) (ys : List X) → Has y (insert_by key x ys) → (x ≡ y) ⊎ Has y ys
from-insert key x y [] h = h
from-insert key x y (z ∷ ys) h = elim (cases_Bool (nat_le (key x) (key z))) [
  | inl t ↦ rw t at h
  | inr f ↦ elim (rw f at h) [
    | inl e ↦ inr (inl e)
    | inr k ↦ elim (from-insert key x y ys k) [ inl e ↦ inl e | inr m ↦ inr (inr m) ]
  ]
]

from-sort : {X : Type 0} (key : X → ℕ) (y : X) (xs : List X) → Has y (sort_by key xs) → Has y xs
from-sort key y [] h = h
from-sort key y (x ∷ xs) h = elim (from-insert key x y (sort_by key xs) h) [
  | inl e ↦ inl e
  | inr k ↦ inr (from-sort key y xs k)
]

unique-insert : {X : Type 0} (key : X → ℕ) (x : X) (ys : List X) → (Has x ys → ⊥) → Unique ys → Unique (insert_by key x ys)
unique-insert key x [] n u = (n, u)
unique-insert key x (z ∷ ys) n u = elim (cases_Bool (nat_le (key x) (key z))) [
  | inl t ↦ rw t (n, u)
  | inr f ↦ rw f (
    (λ h. elim (from-insert key x z ys h) [ inl e ↦ n (inl (sym e)) | inr k ↦ u.0 k ]),
    unique-insert key x ys (λ h. n (inr h)) u.1,
  )
]

unique-sort : {X : Type 0} (key : X → ℕ) (xs : List X) → Unique xs → Unique (sort_by key xs)
unique-sort key [] u = tt
unique-sort key (x ∷ xs) u = unique-insert key x (sort_by key xs) (λ h. u.0 (from-sort key x xs h)) (unique-sort key xs u.1)

slot-turned : (a b : Slot) → same_slot a b ≡ true → same_slot b a ≡ true
slot-turned a b t = let e = slot-is a b t in subst (λ x. same_slot x a ≡ true) e (slot-itself a)

-- ---- the slots of a parameter

-- the entries of a parameter
abbrev pub entries : List Bound → ℕ → List Bound
entries bounds k = filter (λ (b : Bound). nat_eq b.key.first k) bounds

slots-once : (bounds : List Bound) (k : ℕ) → Unique (slots_of bounds k)
slots-once bounds k =
    unique-sort (λ (s : Slot). s.low) (distinct same_slot (map slot_of (entries bounds k)))
    (differ-unique same_slot slot-itself (distinct same_slot (map slot_of (entries bounds k)))
    (distinct-differ same_slot slot-turned [] (map slot_of (entries bounds k))))

pub slot-there : (bounds : List Bound) (b : Bound) (k : ℕ) → Has b bounds → b.key.first ≡ k → Has (slot_of b) (slots_of bounds k)
slot-there bounds b k has e =
    let here : nat_eq b.key.first k ≡ true = grind (arith, nat_tests, e) in
    let all = map slot_of (entries bounds k) in
    let mapped = has-map slot_of b (entries bounds k) (has-filter (λ (c : Bound). nat_eq c.key.first k) b bounds has here) in
    let x = stays same_slot slot-itself (slot_of b) [] all mapped in
    let there : Has (slot_of b) (distinct same_slot all) = elim x.1 [
      | inl none ↦ absurd none
      | inr found ↦ subst (λ y. Has y (distinct same_slot all)) (sym (slot-is (slot_of b) x.0 x.2)) found
    ] in
    has-sort (λ (s : Slot). s.low) (slot_of b) (distinct same_slot all) there

-- a slot of a parameter is that of an entry of it
abbrev IsEntrySlot : List Bound → ℕ → Slot → Type 0
IsEntrySlot bounds k s = (b : Bound) × Has b bounds × (b.key.first ≡ k) × (slot_of b ≡ s)

entry-slots : (bounds : List Bound) (k : ℕ) → Every (IsEntrySlot bounds k) (slots_of bounds k)
entry-slots bounds k =
    every-sort (IsEntrySlot bounds k) (λ (s : Slot). s.low) (distinct same_slot (map slot_of (entries bounds k)))
    (every-distinct (IsEntrySlot bounds k) same_slot [] (map slot_of (entries bounds k))
    (every-map (IsEntrySlot bounds k) slot_of (entries bounds k) (λ b h.
    let f = from-filter (λ (c : Bound). nat_eq c.key.first k) b bounds h in
    (b, f.0, (let t = f.1 in grind (arith, nat_tests, t)), refl))))

-- ---- the operands of a call

agree-at : (bounds : List Bound) (k : ℕ) (ps : List ℕ) (i : ℕ) → list_all (λ (q : Operand). agree q.slots) (operands_from bounds k ps) ≡ true
    → i < length ps → agree (slots_of bounds (k + i)) ≡ true
agree-at bounds k [] i t l = absurd (omega (arith, l))
agree-at bounds k (p ∷ ps) zero t l =
    let b = both-true (agree (slots_of bounds k)) (list_all (λ (q : Operand). agree q.slots) (operands_from bounds (suc k) ps)) t in
    let at : k ≡ k + 0 = omega arith in
    subst (λ n. agree (slots_of bounds n) ≡ true) at b.0
agree-at bounds k (p ∷ ps) (suc i) t l =
    let b = both-true (agree (slots_of bounds k)) (list_all (λ (q : Operand). agree q.slots) (operands_from bounds (suc k) ps)) t in
    let at : suc k + i ≡ k + suc i = omega arith in
    subst (λ n. agree (slots_of bounds n) ≡ true) at (agree-at bounds (suc k) ps i b.1 (omega (arith, l)))

agree-from : (bounds : List Bound) (k : ℕ) (ps : List ℕ) → ((n : ℕ) → agree (slots_of bounds n) ≡ true)
    → list_all (λ (q : Operand). agree q.slots) (operands_from bounds k ps) ≡ true
agree-from bounds k [] f = refl
agree-from bounds k (p ∷ ps) f = rw (f k) (agree-from bounds (suc k) ps f)

pub agree-binds : (ds : List Description) (matches : List Match) (ssa : Ssa) (d : ℕ) (e : Description) (lanes : List (Option ℕ))
    → AreMatches ds ssa matches → slice_get ds d ≡ Some e → IsPackable e
    → list_all (λ (q : Operand). agree q.slots) (operands_of ds matches ssa (Call d lanes)) ≡ true → LanesAgree matches d lanes
agree-binds ds matches ssa d e lanes are there packable t b c hb hc param bit =
    let bounds = bounds_from matches d 0 lanes in
    let widths : params_of ds d ≡ e.params = ap (λ o. option_map_or (λ (x : Description). x.params) o []) there in
    let k = b.key.first in
    let inside : k < length (params_of ds d) =
    subst (λ ws. k < length ws) (sym widths) (binds-param ds matches ssa d e lanes b are there packable hb) in
    let own = agree-at bounds 0 (params_of ds d) k t inside in
    let at : 0 + k ≡ k = omega arith in
    let agreed : agree (slots_of bounds k) ≡ true = subst (λ n. agree (slots_of bounds n) ≡ true) at own in
    let has = λ (x : Bound) (h : Binds matches d lanes x). bound-there matches d 0 h.0 h.1 lanes h.2 x h.3
    (let z : 0 + h.0 ≡ h.0 = omega arith in ap (λ n. match_at matches d n h.1) z ∙ h.4) h.5 in
    agree-one (slots_of bounds k) (slot_of b) (slot_of c) agreed
    (slot-there bounds b k (has b hb) refl) (slot-there bounds c k (has c hc) (sym param)) bit

pub binds-agree : (ds : List Description) (matches : List Match) (ssa : Ssa) (d : ℕ) (lanes : List (Option ℕ))
    → LanesAgree matches d lanes → list_all (λ (q : Operand). agree q.slots) (operands_of ds matches ssa (Call d lanes)) ≡ true
binds-agree ds matches ssa d lanes one =
    let bounds = bounds_from matches d 0 lanes in
    let binds = λ (x : Bound) (h : Has x bounds).
    let k = bound-binds matches d 0 lanes x h in
    let z : k.0 ≡ 0 + k.0 = omega arith in
    let is : Binds matches d lanes x = (k.0, k.1, k.2, k.3, ap (λ n. match_at matches d n k.1) z ∙ k.4, k.5) in
    is
    in
    agree-from bounds 0 (params_of ds d) (λ n. one-agree (slots_of bounds n) (slots-once bounds n) (λ s t hs ht low.
    let x = every-has (IsEntrySlot bounds n) s (slots_of bounds n) (entry-slots bounds n) hs in
    let y = every-has (IsEntrySlot bounds n) t (slots_of bounds n) (entry-slots bounds n) ht in
    let low-x : bit_number x.0.key.second ≡ s.low = ap (λ (u : Slot). u.low) x.3 in
    let low-y : bit_number y.0.key.second ≡ t.low = ap (λ (u : Slot). u.low) y.3 in
    sym x.3 ∙ one x.0 y.0 (binds x.0 x.1) (binds y.0 y.1) (x.2 ∙ sym y.2) (low-x ∙ low ∙ sym low-y) ∙ y.3))

-- a call of which the lanes agree takes operands whose slots rise
pub call-rises : (bounds : List Bound) (k : ℕ) (ps : List ℕ) (q : Operand)
    → list_all (λ (q : Operand). agree q.slots) (operands_from bounds k ps) ≡ true → Has q (operands_from bounds k ps) → AreRising q.slots
call-rises bounds k [] q t h = absurd h
call-rises bounds k (p ∷ ps) q t h =
    let b = both-true (agree (slots_of bounds k)) (list_all (λ (q : Operand). agree q.slots) (operands_from bounds (suc k) ps)) t in
    elim h [
      | inl e ↦ subst (λ (q : Operand). AreRising q.slots) e
          (rise-apart (slots_of bounds k) (sort-rises (λ (s : Slot). s.low) (distinct same_slot (map slot_of (entries bounds k)))) b.0)
      | inr r ↦ call-rises bounds (suc k) ps q b.1 r
    ]
