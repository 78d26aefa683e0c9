-- The calls that produce an operand are of instances that match what its first slot wants.
use Rattle.std.proofs.Common.{◌≡◌, ℕ, zero, suc, ◌+◌, ◌-◌, ◌/◌, ◌<◌, ◌≤◌, Bool, true, false, List, [], ◌∷◌, ◌++◌, drop, get_or, length, map, refl, sym, ◌∙◌, ap, arith, append-nil, inl, inr}
use Rattle.std.specs.Prelude.{◌&&◌, if◌then◌else◌, filter, nat_eq, nat_le, Option, Some, None, is_some}
use Rattle.std.specs.List.{AllByRecursion, list_all, slice_get}
use Rattle.std.specs.Option.{option_map, option_map_or}
use Rattle.std.proofs.Math.Seq.{drop-cons}
use Rattle.std.proofs.lemmas.Bool.{cases_Bool}
use Rattle.std.proofs.lemmas.Bool.Decides.{nat_tests}
use Rattle.std.proofs.lemmas.List.{drop_all}
use Rattle.std.proofs.lemmas.Option.{slice_get_cases, slice_get_past, slice_get_read, slice_get-map}
use Rattle.vg_kernel_plans.specs.Producers.{call_producer, call_producers, can_be_produced}
use Rattle.vg_kernel_plans.specs.Wants.{value_of, wanted_slots, wants_value}
use Rattle.vg_kernel_plans.proofs.SameTests.{both-true}
use Rattle.vg_shapes.specs.declared.match_table.Match.{Match}
use Rattle.vg_shapes.specs.declared.operand.Operand.{Operand}
use Rattle.vg_shapes.specs.declared.operand.Slot.{Slot}
use Rattle.vg_shapes.specs.declared.pack.Pack.{Pack}
use Rattle.vg_shapes.specs.declared.ssa.Ssa.{Ssa}
use Rattle.vg_shapes.specs.declared.wanted.Wanted.{Wanted}
use Rattle.vg_shapes.specs.declared.wanted.Wanted.TheVariants.{Value, Constant, Nothing}
use Rattle.vg_shapes.specs.Description.{Description}
use Rattle.vg_shapes.specs.MatchTable.{IsTable, stands_before}
use Rattle.vg_shapes.specs.Pack.{match_at}
use Rattle.vg_packs.specs.Lanes.{beginnings, can_begin, is_matched, matches_of}
use Rattle.vg_packs.specs.Making.{numbered_producer}
use Rattle.vg_packs.proofs.Beginning.{call-not-begun}

-- no match is of an instance
abbrev pub NoneOf : ℕ → List Match → Type 0
NoneOf d ms = AllByRecursion (λ m. nat_eq m.description d ≡ false) ms

-- matches stand by their instances
abbrev pub Rise : List Match → Type 0
Rise [] = Unit {0}
Rise (m ∷ ms) = AllByRecursion (λ n. nat_le m.description n.description ≡ true) ms × Rise ms

off-place : (a b c : Bool) → a ≡ false → (a && (b && c)) ≡ false
off-place true b c e = absurd (cc)
off-place false b c e = refl

off-value : (a b c : Bool) → c ≡ false → (a && (b && c)) ≡ false
off-value true true c e = e
off-value true false c e = refl
off-value false b c e = refl

none-found : (ms : List Match) (d lane v : ℕ) → NoneOf d (filter (λ m. nat_eq m.value v) ms)
    → match_at ms d lane v ≡ None
none-found [] d lane v h = refl
none-found (m ∷ ms) d lane v h = elim (cases_Bool (nat_eq m.value v)) [
  | inl t ↦
      let here : NoneOf d (m ∷ filter (λ n. nat_eq n.value v) ms) = rw t at h in
      let off = off-place (nat_eq m.description d) (nat_eq m.lane lane) (nat_eq m.value v) here.0 in
      rw off (none-found ms d lane v here.1)
  | inr f ↦
      let past : NoneOf d (filter (λ n. nat_eq n.value v) ms) = rw f at h in
      let off = off-value (nat_eq m.description d) (nat_eq m.lane lane) (nat_eq m.value v) f in
      rw off (none-found ms d lane v past)
]

off-fits : (a b : Bool) → b ≡ false → (a && b) ≡ false
off-fits true b e = e
off-fits false b e = refl

not-matched : (ms : List Match) (d lane : ℕ) (x : Wanted) → wants_value x ≡ true
    → NoneOf d (matches_of ms (value_of x)) → is_matched ms d lane (value_of x) ≡ false
not-matched ms d lane (Value v) w h = ap is_some (none-found ms d lane v h)
not-matched ms d lane (Constant y n) w h = absurd (cc)
not-matched ms d lane Nothing w h = absurd (cc)

cannot-begin : (ms : List Match) (slots : List Slot) (d w : ℕ) → nat_le 2 (length slots) ≡ true
    → list_all (λ s. wants_value s.wanted) slots ≡ true → NoneOf d (beginnings ms slots)
    → can_begin ms slots d w ≡ false
cannot-begin ms [] d w two all h = absurd (cc)
cannot-begin ms (s ∷ ss) d w two all h =
    let wants = (both-true (wants_value s.wanted) _ all).0 in
    off-fits (nat_eq s.width w) _ (not-matched ms d (s.low / w) s.wanted wants h)

off-register : (a b c : Bool) (p : List Pack) → b ≡ false → (if a && (b && c) then p else []) ≡ []
off-register true b c p e = rw e refl
off-register false b c p e = refl

absent : (ds : List Description) (ms : List Match) (ssa : Ssa) (o : Operand) (slots : List Slot) (d : ℕ)
    (e : Description) → can_be_produced o ≡ true → slots ≡ wanted_slots o → NoneOf d (beginnings ms slots)
    → call_producer ds ms ssa o d e ≡ []
absent ds ms ssa o slots d e p s h = elim (cases_Bool (nat_eq e.register o.register)) [
  | inr f ↦ off-register (can_be_produced o) (nat_eq e.register o.register) _ _ f
  | inl t ↦
      let two = both-true (nat_le 2 (length (wanted_slots o))) _ p in
      let all = both-true (list_all (λ x. wants_value x.wanted) (wanted_slots o)) _ two.1 in
      let begins : can_begin ms (wanted_slots o) d e.lane_width ≡ false =
      cannot-begin ms (wanted_slots o) d e.lane_width two.0 all.0 (rw s at h)
      in
      let same : e.register ≡ o.register = grind (t, arith, nat_tests) in
      sym
      (call-not-begun ds ms ssa o d e (wanted_slots o) (can_begin ms (wanted_slots o) d e.lane_width) [] [] p
      refl same refl begins refl)
]

numbered-as : (ds : List Description) (ms : List Match) (ssa : Ssa) (o : Operand) (d : ℕ) {x : Option Description}
    → slice_get ds d ≡ x → numbered_producer ds ms ssa o d ≡ option_map_or (call_producer ds ms ssa o d) x []
numbered-as ds ms ssa o d e = ap (λ x. option_map_or (call_producer ds ms ssa o d) x []) e

numbered-absent : (ds : List Description) (ms : List Match) (ssa : Ssa) (o : Operand) (slots : List Slot) (d : ℕ)
    → can_be_produced o ≡ true → slots ≡ wanted_slots o → NoneOf d (beginnings ms slots)
    → numbered_producer ds ms ssa o d ≡ []
numbered-absent ds ms ssa o slots d p s h = elim ((slice_get_cases ds d).1) [
  | inl t ↦ numbered-as ds ms ssa o d t.2 ∙ absent ds ms ssa o slots d t.0 p s h
  | inr t ↦ numbered-as ds ms ssa o d t.1
]

-- the calls of the instances from this number on
abbrev pub calls_after : List Description → List Match → Ssa → Operand → ℕ → List Pack
calls_after ds ms ssa o d = call_producers ds ms ssa o d (drop d ds)

one-more : (ds : List Description) (ms : List Match) (ssa : Ssa) (o : Operand) (d : ℕ)
    → calls_after ds ms ssa o d ≡ numbered_producer ds ms ssa o d ++ calls_after ds ms ssa o (suc d)
one-more ds ms ssa o d = elim ((slice_get_cases ds d).1) [
  | inl t ↦
      let here : drop d ds ≡ t.0 ∷ drop (suc d) ds =
      drop-cons ds d t.0 t.1 ∙ ap (λ x. x ∷ drop (suc d) ds) t.3
      in
      ap (call_producers ds ms ssa o d) here
      ∙ ap (λ xs. xs ++ calls_after ds ms ssa o (suc d)) (sym (numbered-as ds ms ssa o d t.2))
  | inr t ↦
      let here : drop d ds ≡ [] = drop_all d ds t.0 in
      let next : drop (suc d) ds ≡ [] = drop_all (suc d) ds (omega (arith, t.0)) in
      ap (call_producers ds ms ssa o d) here
      ∙ sym (ap (call_producers ds ms ssa o (suc d)) next)
      ∙ ap (λ xs. xs ++ calls_after ds ms ssa o (suc d)) (sym (numbered-as ds ms ssa o d t.1))
]

-- no instance of these numbers matches
abbrev pub NoneBetween : List Match → ℕ → ℕ → Type 0
NoneBetween begun d n = (k : ℕ) → d ≤ k → k < d + n → NoneOf k begun

skip : (ds : List Description) (ms : List Match) (ssa : Ssa) (o : Operand) (slots : List Slot) (n d : ℕ)
    → can_be_produced o ≡ true → slots ≡ wanted_slots o → NoneBetween (beginnings ms slots) d n
    → calls_after ds ms ssa o d ≡ calls_after ds ms ssa o (d + n)
skip ds ms ssa o slots zero d p s h = ap (calls_after ds ms ssa o) (omega arith)
skip ds ms ssa o slots (suc n) d p s h =
    let none = numbered-absent ds ms ssa o slots d p s (h d (omega arith) (omega arith)) in
    let rest =
    skip ds ms ssa o slots n (suc d) p s (λ k below above. h k (omega (arith, below)) (omega (arith, above)))
    in
    let far : suc d + n ≡ d + suc n = omega arith in
    one-more ds ms ssa o d
    ∙ ap (λ xs. xs ++ calls_after ds ms ssa o (suc d)) none
    ∙ rest
    ∙ ap (calls_after ds ms ssa o) far

none-after : (ds : List Description) (ms : List Match) (ssa : Ssa) (o : Operand) (slots : List Slot) (d : ℕ)
    → can_be_produced o ≡ true → slots ≡ wanted_slots o
    → ((k : ℕ) → d ≤ k → NoneOf k (beginnings ms slots))
    → calls_after ds ms ssa o d ≡ []
none-after ds ms ssa o slots d p s h =
    let past : drop (d + length ds) ds ≡ [] = drop_all (d + length ds) ds (omega arith) in
    skip ds ms ssa o slots (length ds) d p s (λ k below above. h k below)
    ∙ ap (call_producers ds ms ssa o (d + length ds)) past

-- the calls of the instances of matches, each instance once, from this number on
abbrev pub calls_of : List Description → List Match → Ssa → Operand → ℕ → List Match → List Pack
calls_of ds ms ssa o next [] = []
calls_of ds ms ssa o next (m ∷ b) =
    if nat_le next m.description
    then numbered_producer ds ms ssa o m.description ++ calls_of ds ms ssa o (m.description + 1) b
    else calls_of ds ms ssa o next b

above-none : (b : List Match) (d k : ℕ) → k < d → AllByRecursion (λ n. nat_le d n.description ≡ true) b
    → NoneOf k b
above-none [] d k l h = tt
above-none (m ∷ b) d k l h = (grind (l, h.0, arith, nat_tests), above-none b d k l h.1)

calls-found : (ds : List Description) (ms : List Match) (ssa : Ssa) (o : Operand) (slots : List Slot) (b : List Match)
    (next : ℕ) → can_be_produced o ≡ true → slots ≡ wanted_slots o → Rise b
    → ((k : ℕ) → next ≤ k → NoneOf k b → NoneOf k (beginnings ms slots))
    → calls_of ds ms ssa o next b ≡ calls_after ds ms ssa o next
calls-found ds ms ssa o slots [] next p s r h =
    sym (none-after ds ms ssa o slots next p s (λ k below. h k below tt))
calls-found ds ms ssa o slots (m ∷ b) next p s r h = elim (cases_Bool (nat_le next m.description)) [
  | inl t ↦
      let d = m.description in
      let before : next ≤ d = grind (t, arith, nat_tests) in
      let width = d - next in
      let there : next + width ≡ d = omega (arith, before) in
      let apart : (k : ℕ) → k < d → nat_eq d k ≡ false = λ k l. grind (l, arith, nat_tests) in
      let beyond : (k : ℕ) → suc d ≤ k → nat_eq d k ≡ false = λ k l. grind (l, arith, nat_tests) in
      let none : NoneBetween (beginnings ms slots) next width =
      λ k below above.
      let l : k < d = omega (arith, above, there) in
      h k below (apart k l, above-none b d k l r.0)
      in
      let rest =
      calls-found ds ms ssa o slots b (suc d) p s r.1
      (λ k below none-behind. h k (omega (arith, below, before)) (beyond k below, none-behind))
      in
      let one : d + 1 ≡ suc d = omega arith in
      rw t
      (ap (λ n. numbered_producer ds ms ssa o d ++ calls_of ds ms ssa o n b) one
      ∙ ap (λ xs. numbered_producer ds ms ssa o d ++ xs) rest
      ∙ sym (one-more ds ms ssa o d)
      ∙ ap (calls_after ds ms ssa o) (sym there)
      ∙ sym (skip ds ms ssa o slots width next p s none))
  | inr f ↦
      let apart : (k : ℕ) → next ≤ k → nat_eq m.description k ≡ false = λ k l. grind (f, l, arith, nat_tests) in
      rw f
      (calls-found ds ms ssa o slots b next p s r.1
      (λ k below none-behind. h k below (apart k below, none-behind)))
]

rises : (m n : Match) (v : ℕ) → nat_eq m.value v ≡ true → nat_eq n.value v ≡ true
    → stands_before n.description n.lane n.value m ≡ true
    → nat_le m.description n.description ≡ true
rises m n v a b h = grind (a, b, h, arith, nat_tests)

later : (m : Match) (v : ℕ) (ms : List Match) → nat_eq m.value v ≡ true
    → AllByRecursion (λ n. stands_before n.description n.lane n.value m ≡ true) ms
    → AllByRecursion (λ n. nat_le m.description n.description ≡ true) (filter (λ n. nat_eq n.value v) ms)
later m v [] e h = tt
later m v (n ∷ ms) e h = elim (cases_Bool (nat_eq n.value v)) [
  | inl t ↦ rw t (rises m n v e t h.0, later m v ms e h.1)
  | inr f ↦ rw f (later m v ms e h.1)
]

rise-of : (ms : List Match) (v : ℕ) → IsTable ms → Rise (filter (λ n. nat_eq n.value v) ms)
rise-of [] v h = tt
rise-of (m ∷ ms) v h = elim (cases_Bool (nat_eq m.value v)) [
  | inl t ↦ rw t (later m v ms t h.0, rise-of ms v h.1)
  | inr f ↦ rw f (rise-of ms v h.1)
]

rise-at : (ms : List Match) (x : Option ℕ) → IsTable ms → Rise (matches_of ms x)
rise-at ms None h = tt
rise-at ms (Some v) h = rise-of ms v h

beginnings-rise : (ms : List Match) (slots : List Slot) → IsTable ms → Rise (beginnings ms slots)
beginnings-rise ms [] h = tt
beginnings-rise ms (s ∷ ss) h = rise-at ms (value_of s.wanted) h

all-found : (ds : List Description) (ms : List Match) (ssa : Ssa) (o : Operand) (slots : List Slot)
    → can_be_produced o ≡ true → slots ≡ wanted_slots o → IsTable ms
    → calls_of ds ms ssa o 0 (beginnings ms slots) ≡ call_producers ds ms ssa o 0 ds
all-found ds ms ssa o slots p s h =
    calls-found ds ms ssa o slots (beginnings ms slots) 0 p s (beginnings-rise ms slots h) (λ k below none. none)

-- past the last instance there is no call
pub not-there : {X : Type 0} (f : X → Description) (xs : List X) (ms : List Match) (ssa : Ssa) (o : Operand) (d : ℕ)
    (old new : List Pack) → length xs ≤ d → new ≡ old
    → new ≡ old ++ numbered_producer (map f xs) ms ssa o d
not-there f xs ms ssa o d old new h e =
    let gone : slice_get (map f xs) d ≡ None =
    slice_get-map f xs d ∙ ap (λ x. option_map f x) (slice_get_past xs d h)
    in
    rw gone (e ∙ sym (append-nil old))

-- the call of an instance that is there
pub there : {X : Type 0} (f : X → Description) (xs : List X) (ms : List Match) (ssa : Ssa) (o : Operand) (d : ℕ)
    (x : X) → d < length xs → x ≡ get_or xs d x
    → numbered_producer (map f xs) ms ssa o d ≡ call_producer (map f xs) ms ssa o d (f x)
there f xs ms ssa o d x h e =
    let found : slice_get (map f xs) d ≡ Some (f x) =
    slice_get-map f xs d ∙ ap (λ y. option_map f y) (slice_get_read xs (length xs) d x refl h e)
    in
    numbered-as (map f xs) ms ssa o d found

-- when all matches are gone through, all calls are there
pub all-pushed : (ds : List Description) (ms : List Match) (ssa : Ssa) (o : Operand) (slots : List Slot)
    (begun : List Match) (next i : ℕ) (packs old : List Pack) → can_be_produced o ≡ true → slots ≡ wanted_slots o
    → begun ≡ beginnings ms slots → IsTable ms → length begun ≤ i
    → packs ++ calls_of ds ms ssa o next (drop i begun) ≡ old ++ calls_of ds ms ssa o 0 begun
    → packs ≡ old ++ call_producers ds ms ssa o 0 ds
all-pushed ds ms ssa o slots begun next i packs old p s b t past h =
    let left : drop i begun ≡ [] = drop_all i begun past in
    let found : calls_of ds ms ssa o 0 begun ≡ call_producers ds ms ssa o 0 ds =
    ap (calls_of ds ms ssa o 0) b ∙ all-found ds ms ssa o slots p s t
    in
    sym (append-nil packs)
    ∙ ap (λ xs. packs ++ calls_of ds ms ssa o next xs) (sym left)
    ∙ h
    ∙ ap (λ xs. old ++ xs) found
