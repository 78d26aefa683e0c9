-- Events in order in a layout step as the kernel's do; and the order of the lines gives that order.
use Rattle.std.proofs.Common.{◌≡◌, ℕ, suc, ◌<◌, ◌≤◌, ℤ, pos, Bool, true, false, List, [], ◌∷◌, ◌++◌, length, refl, sym, ap, ◌∙◌, ◌⊎◌, inl, inr, arith}
use Rattle.std.specs.Prelude.{◌+ℤ◌, ◌≤ℤ◌, ◌<ℤ◌, ◌&&◌, ◌||◌, int_lt, nat_eq, not, slice_index}
use Rattle.std.proofs.lemmas.Int.{ints, by_lt_z}
use Rattle.std.proofs.lemmas.Bool.{cases_Bool, cond-true, cond-false, eq-eqb, eqb-true, lt-ltb, le-ltb}
use Rattle.vg_base.specs.Trap.{◌>>=◌}
use Rattle.vg_shapes.specs.Order.{count_of, Stands, numbers_from}
use Rattle.vg_order_laws.specs.Sequence.{run_steps, MayBeSorted}
use Rattle.vg_order_laws.proofs.Accesses.{stores-commute, seen-store-commute, seen-commute, Apart}
use Rattle.vg_order_laws.proofs.Sequences.{run-in_order, in_order-numbers, all-standing, count_of-append, counts-itself, count_of-numbers}
use Rattle.vg_base.specs.Address.{place_of}
use Rattle.vg_shapes.specs.declared.access.Access.{Access}
use Rattle.vg_shapes.specs.declared.ssa.Ssa.{Ssa}
use Rattle.vg_shapes.specs.Depends.{conflict, may_share}
use Rattle.vg_shapes.specs.Layout.{AreApart, is_noalias, noalias_flags, Respects}
use Rattle.vg_shapes.proofs.Apart.{access-listed}
use Rattle.vg_events.specs.Events.{byte_access, kernel_labels, Label, label_at}
use Rattle.vg_events.specs.Steps.{byte_step, event_step, label_place}
use Rattle.vg_events.specs.Pairs.{joined, AreEvents}
use Rattle.vg_events.specs.Laws.{OrdersStep}
use Rattle.vg_events.specs.Orders.{InOrder, line_of, LinesInOrder, Meet, MustFollow}
use Rattle.vg_events.proofs.Owners.{moved, Owned, owned}
use Rattle.vg_events.proofs.Ranks.{number-inside}

-- ---- whole numbers

not-less : (a b : ℤ) → int_lt a b ≡ false → b ≤ℤ a
not-less a b h = grind (arith, ints)

pub lt-int : (a b : ℤ) → a <ℤ b → int_lt a b ≡ true
lt-int a b h = elim (cases_Bool (int_lt a b)) [ inl t ↦ t | inr f ↦ absurd (let g = not-less a b f in omega (arith, ints)) ]

-- ---- single bytes commute

three : (a b : ℤ) → ((a +ℤ pos 1) ≤ℤ b) ⊎ (((b +ℤ pos 1) ≤ℤ a) ⊎ (a ≡ b))
three a b = by_lt_z a b (λ h. inl (omega (arith, ints))) (λ h. by_lt_z b a (λ g. inr (inl (omega (arith, ints)))) (λ g. inr (inr (omega (arith, ints)))))

apart-bytes : (a b : ℤ) → (a ≡ b → ⊥) → Apart a 1 b 1
apart-bytes a b h = elim (three a b) [ inl t ↦ inl t | inr t ↦ elim t [ inl u ↦ inr u | inr u ↦ absurd (h u) ] ]

bytes-commute : (w v : Bool) (a b : ℤ) (x y : ℕ) → ((w || v ≡ true) → a ≡ b → ⊥) → (m : List ℕ) → (byte_step w a x m >>= byte_step v b y) ≡ (byte_step v b y m >>= byte_step w a x)
bytes-commute false false a b x y h m = seen-commute m a 1 x b 1 y
bytes-commute false true a b x y h m = seen-store-commute m a 1 x b (y ∷ []) (apart-bytes a b (h refl))
bytes-commute true false a b x y h m = sym (seen-store-commute m b 1 y a (x ∷ []) (apart-bytes b a (λ e. h refl (sym e))))
bytes-commute true true a b x y h m = stores-commute m a (x ∷ []) b (y ∷ []) (apart-bytes a b (h refl))

or-turned : (w v : Bool) → (v || w ≡ true) → (w || v) ≡ true
or-turned true v h = refl
or-turned false true h = refl
or-turned false false h = h

may-sort : (places : List ℕ) (ls : List Label) (byte : ℕ → ℕ) (es : List ℕ) → InOrder places ls es → MayBeSorted (event_step places ls byte) es
may-sort places ls byte [] h = tt
may-sort places ls byte (y ∷ ys) h = (
  all-standing _ ys (λ x s less m.
      bytes-commute (label_at ls y).writes (label_at ls x).writes (label_place places (label_at ls y)) (label_place places (label_at ls x)) (byte y) (byte x)
      (λ w e. h.0 x s less (or-turned (label_at ls x).writes (label_at ls y).writes w, sym e)) m),
  may-sort places ls byte ys h.1,
)

-- events in order, each once, step as they do by their numbers
pub steps-in_order : (places : List ℕ) (ls : List Label) (byte : ℕ → ℕ) (es : List ℕ) → AreEvents ls es → InOrder places ls es → (m : List ℕ)
    → run_steps (event_step places ls byte) es m ≡ run_steps (event_step places ls byte) (numbers_from 0 (length ls)) m
steps-in_order places ls byte es once order m =
    run-in_order (event_step places ls byte) es (may-sort places ls byte es order) m
    ∙ ap (λ l. run_steps (event_step places ls byte) l m) (in_order-numbers es 0 (length ls) once)

-- ---- lines

-- the numbers that stand after another have no lesser mark
abbrev Falls : (ℕ → ℕ) → List ℕ → Type 0
Falls f [] = Unit {0}
Falls f (y ∷ ys) = ((x : ℕ) → Stands x ys → f y ≤ f x) × Falls f ys

falls-zero : (f : ℕ → ℕ) (es rest : List ℕ) → ((y : ℕ) → Stands y es → f y ≡ 0) → Falls f rest → Falls f (es ++ rest)
falls-zero f [] rest none falls = falls
falls-zero f (e ∷ es) rest none falls =
    ((λ x s. let z = none e (let one = counts-itself e in omega arith) in omega arith), falls-zero f es rest (λ y s. none y (omega arith)) falls)

falls-more : (f g : ℕ → ℕ) (es : List ℕ) → ((y : ℕ) → Stands y es → f y ≡ suc (g y)) → Falls g es → Falls f es
falls-more f g [] same falls = tt
falls-more f g (e ∷ es) same falls = (
  (λ x s. let a = same e (let one = counts-itself e in omega arith) in let b = same x (omega arith) in let c = falls.0 x s in omega arith),
  falls-more f g es (λ y s. same y (omega arith)) falls.1,
)

pub line-here : (e : ℕ) (es : List ℕ) (ess : List (List ℕ)) → Stands e es → line_of e (es ∷ ess) ≡ 0
line-here e es ess s = cond-true _ _ _ (lt-ltb 0 (count_of e es) s)

pub line-later : (e : ℕ) (es : List ℕ) (ess : List (List ℕ)) → count_of e es ≡ 0 → line_of e (es ∷ ess) ≡ suc (line_of e ess)
line-later e es ess s = cond-false _ _ _ (le-ltb 0 (count_of e es) (omega (arith, s)))

lines-fall : (lines : List (List ℕ)) → ((e : ℕ) → count_of e (joined lines) < 2) → Falls (λ e. line_of e lines) (joined lines)
lines-fall [] once = tt
lines-fall (es ∷ ess) once =
    falls-zero (λ e. line_of e (es ∷ ess)) es (joined ess) (λ y s. line-here y es ess s)
    (falls-more (λ e. line_of e (es ∷ ess)) (λ e. line_of e ess) (joined ess)
    (λ y s. line-later y es ess (let k = once y in let c = count_of-append y es (joined ess) in omega arith))
    (lines-fall ess (λ e. let k = once e in let c = count_of-append e es (joined ess) in omega arith)))

same-offset : (x : ℕ) (a b : ℤ) → (pos x +ℤ a) ≡ (pos x +ℤ b) → a ≡ b
same-offset x a b e = omega (arith, ints, e)

shared-byte : (a b : ℤ) → a ≡ b → (int_lt a (b +ℤ pos 1) && int_lt b (a +ℤ pos 1)) ≡ true
shared-byte a b e = (λ i. lt-int a (b +ℤ pos 1) (omega (arith, ints, e)) i && lt-int b (a +ℤ pos 1) (omega (arith, ints, e)) i)

-- bytes that meet conflict, where those through two pointers are not kept apart
meeting-conflicts : (flags : List Bool) (places : List ℕ) (l m : Label) → (l.writes || m.writes) ≡ true → label_place places l ≡ label_place places m
    → ((l.address.pointer ≡ m.address.pointer → ⊥) → (is_noalias flags (byte_access l) || is_noalias flags (byte_access m)) ≡ true → ⊥) → conflict flags (byte_access l) (byte_access m) ≡ true
meeting-conflicts flags places l m writes same kept = (λ i. writes i && shares i)
  where
    a : Access
    a = byte_access l

    b : Access
    b = byte_access m

    shares : may_share flags a b ≡ true
    shares = elim (cases_Bool (nat_eq l.address.pointer m.address.pointer)) [
      | inl t ↦
          let one = eqb-true l.address.pointer m.address.pointer t in
          let offsets = same-offset (slice_index places l.address.pointer) l.address.offset m.address.offset (same ∙ ap (λ p. pos (slice_index places p) +ℤ m.address.offset) (sym one)) in
          cond-true _ _ _ t ∙ shared-byte l.address.offset m.address.offset offsets
      | inr f ↦ elim (cases_Bool (is_noalias flags a || is_noalias flags b)) [
        | inl t ↦ absurd (kept (λ e. (let yes = eq-eqb _ _ e in let no : false ≡ true = sym f ∙ yes in cc)) t)
        | inr n ↦ cond-false _ _ _ f ∙ ap not n
      ]
    ]

bytes-differ : (x y : ℤ) (n m i j : ℕ) → ((x +ℤ pos n) ≤ℤ y) ⊎ ((y +ℤ pos m) ≤ℤ x) → i < n → j < m → (x +ℤ pos i) ≡ (y +ℤ pos j) → ⊥
bytes-differ x y n m i j (inl h) p q e = omega (arith, ints, h, p, e)
bytes-differ x y n m i j (inr h) p q e = omega (arith, ints, h, q, e)

inner-place : (x : ℕ) (o : ℤ) (i : ℕ) → (pos x +ℤ (o +ℤ pos i)) ≡ ((pos x +ℤ o) +ℤ pos i)
inner-place x o i = omega (arith, ints)

apart-differ : (places : List ℕ) (a b : Access) (i j : ℕ) → AreApart places a b → i < a.size → j < b.size → place_of places (moved a.address i) ≡ place_of places (moved b.address j) → ⊥
apart-differ places a b i j apart p q same =
    bytes-differ (place_of places a.address) (place_of places b.address) a.size b.size i j apart p q
    (sym (inner-place (slice_index places a.address.pointer) a.address.offset i) ∙ same ∙ inner-place (slice_index places b.address.pointer) b.address.offset j)

-- events that meet in a layout that respects noalias have to follow each other
meet-follow : (ssa : Ssa) (places : List ℕ) (x y v w : ℕ) → Respects ssa places → Owned ssa x v → Owned ssa y w → x < y → Meet places (kernel_labels ssa) x y → MustFollow (noalias_flags ssa) (kernel_labels ssa) x y
meet-follow ssa places x y v w respects ox oy less meet =
    let a = ox.access in
    let b = oy.access in
    let l : Label = record { writes = a.writes; address = moved a.address ox.byte } in
    let m : Label = record { writes = b.writes; address = moved b.address oy.byte } in
    let writes : (a.writes || b.writes) ≡ true = sym (λ i. (ox.label i).writes || (oy.label i).writes) ∙ meet.0 in
    let same : label_place places l ≡ label_place places m = sym (ap (label_place places) ox.label) ∙ meet.1 ∙ ap (label_place places) oy.label in
    let flags = noalias_flags ssa in (
      less,
      (λ i. conflict flags (byte_access (ox.label i)) (byte_access (oy.label i)))
          ∙ meeting-conflicts flags places l m writes same (λ differ noalias.
          apart-differ places a b ox.byte oy.byte (respects a b (access-listed ssa v a ox.is) (access-listed ssa w b oy.is) (differ, noalias, writes)) ox.inside oy.inside same),
    )

in-order : (ssa : Ssa) (places : List ℕ) (lines : List (List ℕ)) → Respects ssa places → LinesInOrder (noalias_flags ssa) (kernel_labels ssa) lines → (es : List ℕ)
    → ((e : ℕ) → Stands e es → Stands e (joined lines)) → ((e : ℕ) → Stands e (joined lines) → e < length (kernel_labels ssa)) → Falls (λ e. line_of e lines) es → InOrder places (kernel_labels ssa) es
in-order ssa places lines respects order [] among inside falls = tt
in-order ssa places lines respects order (y ∷ ys) among inside falls = (
  (λ x s less meet.
      let sx = among x (omega arith) in
      let sy = among y (let one = counts-itself y in omega arith) in
      let before = order x y sx sy (let ox = owned ssa x (inside x sx) in let oy = owned ssa y (inside y sy) in meet-follow ssa places x y ox.0 oy.0 respects ox.1 oy.1 less meet) in
      let behind = falls.0 x s in
      omega arith),
  in-order ssa places lines respects order ys (λ e s. among e (omega arith)) inside falls.1,
)

pub event-inside : (ls : List Label) (es : List ℕ) → AreEvents ls es → (e : ℕ) → Stands e es → e < length ls
event-inside ls es once e s = let k = once e in let h = number-inside e 0 (length ls) (omega arith) in omega arith

pub lines-in_order : (ssa : Ssa) (places : List ℕ) (lines : List (List ℕ)) → Respects ssa places → AreEvents (kernel_labels ssa) (joined lines) → LinesInOrder (noalias_flags ssa) (kernel_labels ssa) lines → InOrder places (kernel_labels ssa) (joined lines)
lines-in_order ssa places lines respects once order =
    in-order ssa places lines respects order (joined lines) (λ e s. s) (event-inside (kernel_labels ssa) (joined lines) once)
    (lines-fall lines (λ e. let k = once e in let h = count_of-numbers e 0 (length (kernel_labels ssa)) in omega arith))

pub orders-step : OrdersStep
orders-step ssa places byte lines respects once order memory =
    steps-in_order places (kernel_labels ssa) byte (joined lines) once (lines-in_order ssa places lines respects once order) memory
