-- The order told by units is the order by events.
use Rattle.std.proofs.Common.{◌≡◌, ℕ, zero, suc, ◌+◌, ◌-◌, ◌<◌, ◌≤◌, ℤ, pos, Bool, true, false, List, [], ◌∷◌, length, Option, Some, None, refl, sym, ap, ◌∙◌, inl, inr, arith, length-append}
use Rattle.std.specs.Prelude.{◌+ℤ◌, ◌<ℤ◌, ◌&&◌, ◌||◌, not, nat_eq, nat_le, nat_lt, int_lt, slice_get}
use Rattle.std.specs.List.{list_any}
use Rattle.std.specs.Ordering.{int_eq}
use Rattle.std.proofs.lemmas.Int.{ints}
use Rattle.std.proofs.lemmas.Bool.{cases_Bool, cases_lt, cond-true, cond-false, eqb-true, eq-eqb, lt-ltb, le-leb, leb-true, ltb-true}
use Rattle.std.proofs.lemmas.Bool.Decides.{Decides-int_eq}
use Rattle.vg_base.specs.Trap.{◌>>=◌}
use Rattle.vg_shapes.specs.declared.access.Access.{Access}
use Rattle.vg_shapes.specs.declared.ssa.Ssa.{Ssa}
use Rattle.vg_shapes.specs.declared.ssa_unit.SsaUnit.{SsaUnit}
use Rattle.vg_shapes.specs.Depends.{conflict, conflict_at, conflict_of, may_share, overlap}
use Rattle.vg_shapes.specs.Layout.{access_at, access_of, is_noalias, noalias_flags}
use Rattle.vg_shapes.specs.Order.{one_if, Stands}
use Rattle.vg_shapes.specs.Units.{arguments}
use Rattle.vg_order_laws.proofs.Sequences.{counts-itself}
use Rattle.vg_events.specs.Events.{byte_access, kernel_labels, Label, label_at, labels, labels_in}
use Rattle.vg_events.specs.Laws.{EventOrderIsByUnits, UnitOrderIsByEvents}
use Rattle.vg_events.specs.Orders.{line_of}
use Rattle.vg_events.specs.Pairs.{AreEvents, joined}
use Rattle.vg_events.specs.UnitOrder.{is_late, is_out_of_order, may_meet, unit_events}
use Rattle.vg_events.proofs.Orders.{event-inside, lt-int}
use Rattle.vg_events.proofs.Owners.{begin, begins-rise, moved, Owned, owned, owns, unit_accesses}
use Rattle.vg_events.proofs.Ranks.{length-labels, numbers-inside}

and-parts : (a b : Bool) → (a && b) ≡ true → (a ≡ true) × (b ≡ true)
and-parts true b h = (refl, h)
and-parts false b h = absurd (cc)

-- ---- a test of some number of a list

pub any-there : (P : ℕ → Bool) (es : List ℕ) (e : ℕ) → Stands e es → P e ≡ true → list_any P es ≡ true
any-there P [] e s h = absurd (omega arith)
any-there P (x ∷ es) e s h = elim (cases_Bool (nat_eq e x)) [
  | inl t ↦ ap (λ b. b || list_any P es) (ap P (sym (eqb-true e x t)) ∙ h)
  | inr f ↦ or-right (P x) (list_any P es) (any-there P es e (let none : one_if (nat_eq e x) ≡ 0 = ap one_if f in omega arith) h)
]
  where
    or-right : (a b : Bool) → b ≡ true → (a || b) ≡ true
    or-right true b h = refl
    or-right false b h = h

pub record Found (P : ℕ → Bool) (es : List ℕ) : Type 0 where
  pub number : ℕ
  pub stands : Stands number es
  pub holds : P number ≡ true

any-found : (P : ℕ → Bool) (es : List ℕ) → list_any P es ≡ true → Found P es
any-found P [] h = absurd (cc)
any-found P (x ∷ es) h = elim (cases_Bool (P x)) [
  | inl t ↦ record { number = x; stands = (let one = counts-itself x in omega arith); holds = t }
  | inr f ↦
      let rest = any-found P es (sym (ap (λ b. b || list_any P es) f) ∙ h) in
      record { number = rest.number; stands = (let s = rest.stands in omega arith); holds = rest.holds }
]

-- ---- bytes of accesses

overlaps : (o s : ℤ) (i j n : ℕ) → j < n → (o +ℤ pos i) ≡ (s +ℤ pos j) → o <ℤ (s +ℤ pos n)
overlaps o s i j n h e = omega (arith, ints, h, e)

pub shared-offset : (a b : ℤ) → a <ℤ (b +ℤ pos 1) → b <ℤ (a +ℤ pos 1) → a ≡ b
shared-offset a b h g = omega (arith, ints)

pub int-lt : (a b : ℤ) → int_lt a b ≡ true → a <ℤ b
int-lt a b h = grind (arith, ints)

-- bytes that conflict may meet, and what they are bytes of conflicts
pub byte-conflict : (flags : List Bool) (a b : Access) (i j : ℕ) → i < a.size → j < b.size →
    let l : Label = record { writes = a.writes; address = moved a.address i } in
    let m : Label = record { writes = b.writes; address = moved b.address j } in
    conflict flags (byte_access l) (byte_access m) ≡ true → (conflict flags a b ≡ true) × (may_meet l m ≡ true)
byte-conflict flags a b i j p q h =
    let l : Label = record { writes = a.writes; address = moved a.address i } in
    let m : Label = record { writes = b.writes; address = moved b.address j } in
    let parts = and-parts (a.writes || b.writes) (may_share flags (byte_access l) (byte_access m)) h in
    elim (cases_Bool (nat_eq a.address.pointer b.address.pointer)) [
      | inl t ↦
          let x = a.address.offset in
          let y = b.address.offset in
          let both = and-parts (int_lt (x +ℤ pos i) ((y +ℤ pos j) +ℤ pos 1)) (int_lt (y +ℤ pos j) ((x +ℤ pos i) +ℤ pos 1)) (sym (cond-true _ _ _ t) ∙ parts.1) in
          let same = shared-offset (x +ℤ pos i) (y +ℤ pos j) (int-lt _ _ both.0) (int-lt _ _ both.1) in
          let share : overlap a b ≡ true = (λ k. lt-int x (y +ℤ pos b.size) (overlaps x y i j b.size q same) k && lt-int y (x +ℤ pos a.size) (overlaps y x j i a.size p (sym same)) k) in
          let shares : may_share flags a b ≡ true = cond-true _ _ _ t ∙ share in (
            (λ k. parts.0 k && shares k),
            (λ k. not (t k) || (Decides-int_eq (x +ℤ pos i) (y +ℤ pos j)).1 same k),
          )
      | inr f ↦
          let free : not (is_noalias flags a || is_noalias flags b) ≡ true = sym (cond-false _ _ _ f) ∙ parts.1 in
          let shares : may_share flags a b ≡ true = cond-false _ _ _ f ∙ free in (
            (λ k. parts.0 k && shares k),
            ap (λ k. not k || int_eq (a.address.offset +ℤ pos i) (b.address.offset +ℤ pos j)) f,
          )
    ]

-- and bytes of accesses that conflict do where they may meet
pub conflict-byte : (flags : List Bool) (a b : Access) (i j : ℕ) →
    let l : Label = record { writes = a.writes; address = moved a.address i } in
    let m : Label = record { writes = b.writes; address = moved b.address j } in
    conflict flags a b ≡ true → may_meet l m ≡ true → conflict flags (byte_access l) (byte_access m) ≡ true
conflict-byte flags a b i j h meet =
    let l : Label = record { writes = a.writes; address = moved a.address i } in
    let m : Label = record { writes = b.writes; address = moved b.address j } in
    let parts = and-parts (a.writes || b.writes) (may_share flags a b) h in
    elim (cases_Bool (nat_eq a.address.pointer b.address.pointer)) [
      | inl t ↦
          let x = a.address.offset +ℤ pos i in
          let y = b.address.offset +ℤ pos j in
          let same : x ≡ y = (Decides-int_eq x y).0 (sym (ap (λ k. not k || int_eq x y) t) ∙ meet) in
          let share : (int_lt x (y +ℤ pos 1) && int_lt y (x +ℤ pos 1)) ≡ true = (λ k. lt-int x (y +ℤ pos 1) (omega (arith, ints)) k && lt-int y (x +ℤ pos 1) (omega (arith, ints)) k) in
          let shares : may_share flags (byte_access l) (byte_access m) ≡ true = cond-true _ _ _ t ∙ share in
          (λ k. parts.0 k && shares k)
      | inr f ↦
          let free : not (is_noalias flags a || is_noalias flags b) ≡ true = sym (cond-false _ _ _ f) ∙ parts.1 in
          let shares : may_share flags (byte_access l) (byte_access m) ≡ true = cond-false _ _ _ f ∙ free in
          (λ k. parts.0 k && shares k)
    ]

-- ---- events of units

both-conflict : (flags : List Bool) (x y : Option Access) (a b : Access) → x ≡ Some a → y ≡ Some b → conflict_of flags x y ≡ conflict flags a b
both-conflict flags x y a b ex ey = (λ i. conflict_of flags (ex i) (ey i))

-- the labels of events as bytes of what their units access
owned-conflict : (ssa : Ssa) (x y v w : ℕ) (ox : Owned ssa x v) (oy : Owned ssa y w) → conflict (noalias_flags ssa) (byte_access (label_at (kernel_labels ssa) x)) (byte_access (label_at (kernel_labels ssa) y)) ≡ true
    → (conflict (noalias_flags ssa) ox.access oy.access ≡ true) × (may_meet (label_at (kernel_labels ssa) x) (label_at (kernel_labels ssa) y) ≡ true)
owned-conflict ssa x y v w ox oy h =
    let flags = noalias_flags ssa in
    let parts = byte-conflict flags ox.access oy.access ox.byte oy.byte ox.inside oy.inside (sym (λ i. conflict flags (byte_access (ox.label i)) (byte_access (oy.label i))) ∙ h) in
    (parts.0, (λ i. may_meet (ox.label i) (oy.label i)) ∙ parts.1)

same-access : (ssa : Ssa) (x y v w : ℕ) (ox : Owned ssa x v) (oy : Owned ssa y w) → v ≡ w → ox.access ≡ oy.access
same-access ssa x y v w ox oy e = let same : Some ox.access ≡ Some oy.access = sym ox.is ∙ ap (access_at ssa) e ∙ oy.is in cc

moved-back : (o : ℤ) (i j : ℕ) → (o +ℤ pos i) ≡ (o +ℤ pos j) → i ≡ j
moved-back o i j e = omega (arith, ints, e)

-- of two events that conflict the later one is of a later unit
unit-later : (ssa : Ssa) (x y v w : ℕ) (ox : Owned ssa x v) (oy : Owned ssa y w) → x < y → may_meet (label_at (kernel_labels ssa) x) (label_at (kernel_labels ssa) y) ≡ true → v < w
unit-later ssa x y v w ox oy less meet = elim (cases_lt v w) [
  | inl l ↦ l
  | inr g ↦ elim (cases_lt w v) [
    | inl m ↦
        let bx = ox.behind in
        let by = oy.behind in
        let rise = begins-rise 0 (unit_accesses ssa) (w - arguments ssa) (v - arguments ssa) oy.access (omega arith) oy.place in
        let nx = ox.number in
        let ny = oy.number in
        let iy = oy.inside in
        absurd (omega arith)
    | inr n ↦
        let e : v ≡ w = omega arith in
        let a = same-access ssa x y v w ox oy e in
        let labels_meet : may_meet (record { writes = ox.access.writes; address = moved ox.access.address ox.byte }) (record { writes = oy.access.writes; address = moved oy.access.address oy.byte }) ≡ true =
        sym (λ i. may_meet (ox.label i) (oy.label i)) ∙ meet in
        let pointers : nat_eq ox.access.address.pointer oy.access.address.pointer ≡ true = eq-eqb _ _ (ap (λ (q : Access). q.address.pointer) a) in
        let offsets : (ox.access.address.offset +ℤ pos ox.byte) ≡ (oy.access.address.offset +ℤ pos oy.byte) =
        (Decides-int_eq (ox.access.address.offset +ℤ pos ox.byte) (oy.access.address.offset +ℤ pos oy.byte)).0 (sym (ap (λ k. not k || int_eq (ox.access.address.offset +ℤ pos ox.byte) (oy.access.address.offset +ℤ pos oy.byte)) pointers) ∙ labels_meet) in
        let bytes = moved-back oy.access.address.offset ox.byte oy.byte (sym (ap (λ (q : Access). q.address.offset +ℤ pos ox.byte) a) ∙ offsets) in
        let nx = ox.number in
        let ny = oy.number in
        let begins : begin 0 (unit_accesses ssa) (v - arguments ssa) ≡ begin 0 (unit_accesses ssa) (w - arguments ssa) = ap (λ k. begin 0 (unit_accesses ssa) (k - arguments ssa)) e in
        absurd (omega arith)
  ]
]

pub unit-order-is-by-events : UnitOrderIsByEvents
unit-order-is-by-events ssa lines once none x y sx sy must = elim (cases_lt (line_of x lines) (line_of y lines)) [
  | inl less ↦ less
  | inr late ↦
      let ls = kernel_labels ssa in
      let fx = owned ssa x (event-inside ls (joined lines) once x sx) in
      let fy = owned ssa y (event-inside ls (joined lines) once y sy) in
      let v = fx.0 in
      let w = fy.0 in
      let ox = fx.1 in
      let oy = fy.1 in
      let parts = owned-conflict ssa x y v w ox oy must.1 in
      let rising = unit-later ssa x y v w ox oy must.0 parts.1 in
      let conflicts : conflict_at ssa v w ≡ true = both-conflict (noalias_flags ssa) (access_at ssa v) (access_at ssa w) ox.access oy.access ox.is oy.is ∙ parts.0 in
      let is : is_late ssa lines x y ≡ true = (λ i. parts.1 i && le-leb (line_of y lines) (line_of x lines) late i) in
      let inner = any-there (is_late ssa lines x) (unit_events ssa w) y oy.stands is in
      let outer = any-there (λ e. list_any (is_late ssa lines e) (unit_events ssa w)) (unit_events ssa v) x ox.stands inner in
      let out : is_out_of_order ssa lines v w ≡ true = (λ i. lt-ltb v w rising i && (conflicts i && outer i)) in
      absurd (let no = none v w in let both : false ≡ true = sym no ∙ out in cc)
]

-- ---- the other way

-- an event of a unit lies inside the list
labels-behind : (f : ℕ) (xs : List (Option Access)) (k : ℕ) (a : Access) → slice_get xs k ≡ Some (Some a) → begin f xs k + a.size ≤ f + length (labels xs)
labels-behind f [] k a e = absurd (cc)
labels-behind f (x ∷ xs) zero a e =
    let same : x ≡ Some a = cc in
    let size : length (labels_in x) ≡ a.size = ap (λ o. length (labels_in o)) same ∙ length-labels a.writes a.address a.size in
    omega (arith, size, length-append (labels_in x) (labels xs))
labels-behind f (x ∷ xs) (suc k) a e =
    omega (arith, labels-behind (f + length (labels_in x)) xs k a e, length-append (labels_in x) (labels xs))

below-labels : (ssa : Ssa) (e v : ℕ) → Owned ssa e v → e < length (kernel_labels ssa)
below-labels ssa e v o = let k = labels-behind 0 (unit_accesses ssa) (v - arguments ssa) o.access o.place in let n = o.number in let i = o.inside in omega arith

some-access : (flags : List Bool) (x y : Option Access) → conflict_of flags x y ≡ true → (a : Access) × (x ≡ Some a)
some-access flags None y h = absurd (cc)
some-access flags (Some a) y h = (a, refl)

second-access : (flags : List Bool) (x y : Option Access) → conflict_of flags x y ≡ true → (a : Access) × (y ≡ Some a)
second-access flags None y h = absurd (cc)
second-access flags (Some a) None h = absurd (cc)
second-access flags (Some a) (Some b) h = (b, refl)

accessed-behind : (ssa : Ssa) (v : ℕ) (a : Access) → access_at ssa v ≡ Some a → arguments ssa ≤ v
accessed-behind ssa v a e = elim (cases_lt v (arguments ssa)) [
  | inl less ↦ absurd (let none : access_at ssa v ≡ None = ap (λ (u : Option SsaUnit). u >>= access_of) (cond-true _ _ _ (lt-ltb v (arguments ssa) less)) in let both : None ≡ Some a = sym none ∙ e in cc)
  | inr above ↦ above
]

pub event-order-is-by-units : EventOrderIsByUnits
event-order-is-by-units ssa lines once order v w = elim (cases_Bool (is_out_of_order ssa lines v w)) [
  | inr f ↦ f
  | inl t ↦
      let ls = kernel_labels ssa in
      let flags = noalias_flags ssa in
      let first = and-parts (nat_lt v w) _ t in
      let rest = and-parts (conflict_at ssa v w) (list_any (λ x. list_any (is_late ssa lines x) (unit_events ssa w)) (unit_events ssa v)) first.1 in
      let rising = ltb-true v w first.0 in
      let fx = any-found (λ x. list_any (is_late ssa lines x) (unit_events ssa w)) (unit_events ssa v) rest.1 in
      let x = fx.number in
      let fy = any-found (is_late ssa lines x) (unit_events ssa w) fx.holds in
      let y = fy.number in
      let late = and-parts (may_meet (label_at ls x) (label_at ls y)) (nat_le (line_of y lines) (line_of x lines)) fy.holds in
      let va = some-access flags (access_at ssa v) (access_at ssa w) rest.0 in
      let wa = second-access flags (access_at ssa v) (access_at ssa w) rest.0 in
      let ox = owns ssa x v (accessed-behind ssa v va.0 va.1) fx.stands in
      let oy = owns ssa y w (accessed-behind ssa w wa.0 wa.1) fy.stands in
      let conflicts : conflict flags ox.access oy.access ≡ true = sym (both-conflict flags (access_at ssa v) (access_at ssa w) ox.access oy.access ox.is oy.is) ∙ rest.0 in
      let meet : may_meet (record { writes = ox.access.writes; address = moved ox.access.address ox.byte }) (record { writes = oy.access.writes; address = moved oy.access.address oy.byte }) ≡ true =
      sym (λ i. may_meet (ox.label i) (oy.label i)) ∙ late.0 in
      let bytes : conflict flags (byte_access (label_at ls x)) (byte_access (label_at ls y)) ≡ true =
      (λ i. conflict flags (byte_access (ox.label i)) (byte_access (oy.label i))) ∙ conflict-byte flags ox.access oy.access ox.byte oy.byte conflicts meet in
      let bx = ox.behind in
      let rise = begins-rise 0 (unit_accesses ssa) (v - arguments ssa) (w - arguments ssa) ox.access (omega arith) ox.place in
      let nx = ox.number in
      let ny = oy.number in
      let ix = ox.inside in
      let before = order x y (standing-event ssa lines once x v ox) (standing-event ssa lines once y w oy) ((let k : x < y = omega arith in k), bytes) in
      let behind = leb-true _ _ late.1 in
      absurd (omega arith)
]
  where
    standing-event : (ssa : Ssa) (lines : List (List ℕ)) → AreEvents (kernel_labels ssa) (joined lines) → (e v : ℕ) → Owned ssa e v → Stands e (joined lines)
    standing-event ssa lines once e v o = let k = once e in let one = numbers-inside e 0 (length (kernel_labels ssa)) (omega arith) (let below = below-labels ssa e v o in omega arith) in omega arith
