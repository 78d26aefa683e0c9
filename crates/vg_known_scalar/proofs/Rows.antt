-- A program with the labels of the kernel, in the same order, has all events in a row, and in order.
use Rattle.std.proofs.Common.{◌≡◌, ℕ, zero, suc, ◌+◌, ◌-◌, ◌<◌, ◌≤◌, ℤ, pos, Bool, true, false, List, [], ◌∷◌, ◌++◌, length, Option, Some, None, refl, sym, ap, ◌∙◌, inl, inr, arith, append_assoc, length-append}
use Rattle.std.specs.Prelude.{◌+ℤ◌, ◌<ℤ◌, ◌&&◌, ◌||◌, int_lt}
use Rattle.std.proofs.lemmas.Int.{ints}
use Rattle.std.proofs.lemmas.Bool.{cases_Bool, cases_lt, cond-true, cond-false, eq-eqb}
use Rattle.std.proofs.lemmas.List.{length_push}
use Rattle.vg_base.specs.declared.address.Address.{Address}
use Rattle.vg_shapes.specs.declared.access.Access.{Access}
use Rattle.vg_shapes.specs.Depends.{conflict, may_share}
use Rattle.vg_shapes.specs.Order.{numbers_from, one_if, Stands}
use Rattle.vg_order_laws.proofs.Sequences.{count_of-append}
use Rattle.vg_events.specs.Events.{byte_access, Label, label_at, labels, labels_in, next}
use Rattle.vg_events.specs.Orders.{line_of, LinesInOrder, MustFollow}
use Rattle.vg_events.specs.Pairs.{joined, Labelled}
use Rattle.vg_events.specs.Ranks.{by_rank, count_label, event_at, paired, pairing, same_label}
use Rattle.vg_events.specs.UnitOrder.{spans}
use Rattle.vg_events.proofs.Orders.{line-here, line-later}
use Rattle.vg_events.proofs.Owners.{moved}
use Rattle.vg_events.proofs.Ranks.{label-itself, length-labels, numbers-inside, numbers-outside}
use Rattle.vg_events.proofs.Steps.{labelled-numbers, numbers_from-append}

-- ---- labels paired with themselves

event-past : (m x : Label) (k : ℕ) (xs : List Label) → same_label m x ≡ false → event_at m k (x ∷ xs) ≡ suc (event_at m k xs)
event-past m x zero xs f = cond-false _ _ _ f
event-past m x (suc k) xs f = cond-false _ _ _ f

event-own : (m : Label) (done rest : List Label) → event_at m (count_label m done) (done ++ m ∷ rest) ≡ length done
event-own m [] rest = cond-true _ _ _ (label-itself m)
event-own m (x ∷ done) rest = elim (cases_Bool (same_label m x)) [
  | inl t ↦
      let count : count_label m (x ∷ done) ≡ suc (count_label m done) = (let one : one_if (same_label m x) ≡ 1 = ap one_if t in omega arith) in
      ap (λ k. event_at m k (x ∷ (done ++ m ∷ rest))) count ∙ cond-true _ _ _ t ∙ ap suc (event-own m done rest)
  | inr f ↦
      let count : count_label m (x ∷ done) ≡ count_label m done = (let none : one_if (same_label m x) ≡ 0 = ap one_if f in omega arith) in
      ap (λ k. event_at m k (x ∷ (done ++ m ∷ rest))) count ∙ event-past m x (count_label m done) (done ++ m ∷ rest) f ∙ ap suc (event-own m done rest)
]

paired-own : (ls done ms rest : List Label) → ls ≡ done ++ (ms ++ rest) → paired ls done ms ≡ numbers_from (length done) (length ms)
paired-own ls done [] rest e = refl
paired-own ls done (m ∷ ms) rest e =
    let first : event_at m (count_label m done) ls ≡ length done = ap (event_at m (count_label m done)) e ∙ event-own m done (ms ++ rest) in
    let others : paired ls (done ++ m ∷ []) ms ≡ numbers_from (length done + 1) (length ms) =
    paired-own ls (done ++ m ∷ []) ms rest (e ∙ sym (append_assoc done (m ∷ []) (ms ++ rest))) ∙ ap (λ k. numbers_from k (length ms)) (length_push done m) in
    (λ i. first i ∷ others i)

pairing-own : (ls done : List Label) (f : ℕ) (xs : List (Option Access)) → ls ≡ done ++ labels xs → length done ≡ f → pairing ls done xs ≡ spans f xs
pairing-own ls done f [] e long = refl
pairing-own ls done f (x ∷ xs) e long =
    let n = length (labels_in x) in
    let first : paired ls done (labels_in x) ≡ numbers_from f n = paired-own ls done (labels_in x) (labels xs) e ∙ ap (λ k. numbers_from k n) long in
    let rest = pairing-own ls (done ++ labels_in x) (f + n) xs (e ∙ sym (append_assoc done (labels_in x) (labels xs))) (length-append done (labels_in x) ∙ ap (λ k. k + n) long) in
    (λ i. first i ∷ rest i)

-- the pairing by rank gives each line its own events
pub by_rank-own : (xs : List (Option Access)) → by_rank (labels xs) xs ≡ spans 0 xs
by_rank-own xs = pairing-own (labels xs) [] 0 xs refl refl

pub joined-spans : (f : ℕ) (xs : List (Option Access)) → joined (spans f xs) ≡ numbers_from f (length (labels xs))
joined-spans f [] = refl
joined-spans f (x ∷ xs) =
    let n = length (labels_in x) in
    ap (λ l. numbers_from f n ++ l) (joined-spans (f + n) xs) ∙ sym (numbers_from-append f n (length (labels xs)))
    ∙ ap (numbers_from f) (sym (length-append (labels_in x) (labels xs)))

-- ---- order

and-parts : (a b : Bool) → (a && b) ≡ true → (a ≡ true) × (b ≡ true)
and-parts true b h = (refl, h)
and-parts false b h = absurd (cc)

int-lt : (a b : ℤ) → int_lt a b ≡ true → a <ℤ b
int-lt a b h = grind (arith, ints)

shared-offset : (a b : ℤ) → a <ℤ (b +ℤ pos 1) → b <ℤ (a +ℤ pos 1) → a ≡ b
shared-offset a b h g = omega (arith, ints)

moved-back : (o : ℤ) (i j : ℕ) → (o +ℤ pos i) ≡ (o +ℤ pos j) → i ≡ j
moved-back o i j e = omega (arith, ints, e)

-- bytes of one access that conflict are one byte
one-byte : (flags : List Bool) (w : Bool) (a : Address) (i j : ℕ) →
    let l : Label = record { writes = w; address = moved a i } in
    let m : Label = record { writes = w; address = moved a j } in
    conflict flags (byte_access l) (byte_access m) ≡ true → i ≡ j
one-byte flags w a i j h =
    let l : Label = record { writes = w; address = moved a i } in
    let m : Label = record { writes = w; address = moved a j } in
    let x = a.offset +ℤ pos i in
    let y = a.offset +ℤ pos j in
    let parts = and-parts (w || w) (may_share flags (byte_access l) (byte_access m)) h in
    let both = and-parts (int_lt x (y +ℤ pos 1)) (int_lt y (x +ℤ pos 1)) (sym (cond-true _ _ _ (eq-eqb a.pointer a.pointer refl)) ∙ parts.1) in
    moved-back a.offset i j (shared-offset x y (int-lt _ _ both.0) (int-lt _ _ both.1))

label-in : (ls : List Label) (w : Bool) (a : Address) (f n e : ℕ) → Labelled ls w a (numbers_from f n) → f ≤ e → e < f + n → label_at ls e ≡ record { writes = w; address = moved a (e - f) }
label-in ls w a f zero e h low high = absurd (omega arith)
label-in ls w a f (suc n) e h low high = elim (cases_lt f e) [
  | inl l ↦
      label-in ls w (next a) (f + 1) n e h.1 (omega arith) (omega arith)
      ∙ (let same : ((a.offset +ℤ pos 1) +ℤ pos (e - (f + 1))) ≡ (a.offset +ℤ pos (e - f)) = further a.offset e f l in (λ i. record { writes = w; address = record { pointer = a.pointer; offset = same i } }))
  | inr g ↦
      let at : f ≡ e = omega arith in
      let none : a.offset ≡ (a.offset +ℤ pos (e - f)) = here a.offset (e - f) (let z : e - f ≡ 0 = omega arith in z) in
      ap (label_at ls) (sym at) ∙ h.0 ∙ (λ i. record { writes = w; address = record { pointer = a.pointer; offset = none i } })
]
  where
    here : (o : ℤ) (k : ℕ) → k ≡ 0 → o ≡ (o +ℤ pos k)
    here o k z = (let k : o ≡ (o +ℤ pos 0) = omega (arith, ints) in k) ∙ ap (λ j. o +ℤ pos j) (sym z)

    further : (o : ℤ) (e f : ℕ) → f < e → ((o +ℤ pos 1) +ℤ pos (e - (f + 1))) ≡ (o +ℤ pos (e - f))
    further o e f l = let s : e - f ≡ 1 + (e - (f + 1)) = omega arith in let k : ((o +ℤ pos 1) +ℤ pos (e - (f + 1))) ≡ (o +ℤ pos (1 + (e - (f + 1)))) = omega (arith, ints) in k ∙ ap (λ j. o +ℤ pos j) (sym s)

-- two events of one access do not have to follow each other
in-one : (flags : List Bool) (ls before rest : List Label) (o : Option Access) (f x y : ℕ) → ls ≡ before ++ (labels_in o ++ rest) → length before ≡ f → f ≤ x → x < f + length (labels_in o) → f ≤ y → y < f + length (labels_in o) → MustFollow flags ls x y → ⊥
in-one flags ls before rest None f x y e long lx hx ly hy must = omega arith
in-one flags ls before rest (Some a) f x y e long lx hx ly hy must =
    let size = length-labels a.writes a.address a.size in
    let marked = labelled-numbers ls before rest a.writes a.address a.size f e long in
    let at_x = label-in ls a.writes a.address f a.size x marked lx (omega (arith, size, hx)) in
    let at_y = label-in ls a.writes a.address f a.size y marked ly (omega (arith, size, hy)) in
    let same = one-byte flags a.writes a.address (x - f) (y - f) (sym (λ i. conflict flags (byte_access (at_x i)) (byte_access (at_y i))) ∙ must.1) in
    let less = must.0 in
    omega arith

row-order : (flags : List Bool) (ls before : List Label) (f : ℕ) (xs : List (Option Access)) → ls ≡ before ++ labels xs → length before ≡ f → (x y : ℕ) → f ≤ x → Stands x (joined (spans f xs)) → Stands y (joined (spans f xs)) → MustFollow flags ls x y → line_of x (spans f xs) < line_of y (spans f xs)
row-order flags ls before f [] e long x y low sx sy must = absurd (omega arith)
row-order flags ls before f (o ∷ xs) e long x y low sx sy must =
    let n = length (labels_in o) in
    let es = numbers_from f n in
    let ess = spans (f + n) xs in
    let less = must.0 in
    elim (cases_lt x (f + n)) [
      | inl xin ↦
          let here_x = numbers-inside x f n low xin in
          let zero_x = line-here x es ess (omega (arith, here_x)) in
          elim (cases_lt y (f + n)) [
            | inl yin ↦ absurd (in-one flags ls before (labels xs) o f x y e long low xin (omega arith) yin must)
            | inr yout ↦
                let later = line-later y es ess (numbers-outside y f n yout) in
                omega (arith, zero_x, later)
          ]
      | inr xout ↦
          let none_x = numbers-outside x f n xout in
          let none_y = numbers-outside y f n (omega arith) in
          let rest = row-order flags ls (before ++ labels_in o) (f + n) xs (e ∙ sym (append_assoc before (labels_in o) (labels xs))) (length-append before (labels_in o) ∙ ap (λ k. k + n) long) x y xout
          (omega (arith, count_of-append x es (joined ess), none_x)) (omega (arith, count_of-append y es (joined ess), none_y)) must in
          let a = line-later x es ess none_x in
          let b = line-later y es ess none_y in
          omega arith
    ]

pub rows-in-order : (flags : List Bool) (xs : List (Option Access)) → LinesInOrder flags (labels xs) (spans 0 xs)
rows-in-order flags xs x y sx sy must = row-order flags (labels xs) [] 0 xs refl refl x y (omega arith) sx sy must
