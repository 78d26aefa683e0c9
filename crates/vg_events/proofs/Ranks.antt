-- Where each label has as many events on both sides, the pairing by rank names each event once.
use Rattle.std.proofs.Common.{◌≡◌, ℕ, zero, suc, ◌+◌, ◌<◌, ◌≤◌, Bool, true, false, List, [], ◌∷◌, ◌++◌, length, take, Option, Some, None, refl, sym, ap, subst, ◌∙◌, inl, inr, arith, append_assoc, append-nil}
use Rattle.std.specs.Prelude.{◌&&◌, ◌==◌}
use Rattle.std.proofs.lemmas.Bool.{cases_Bool, cond-true, cond-false, eqb-true, eq-eqb, cases_lt}
use Rattle.std.proofs.lemmas.Bool.Decides.{Decides-int_eq}
use Rattle.vg_shapes.specs.Order.{count_of, numbers_from, one_if, Stands}
use Rattle.vg_order_laws.proofs.Sequences.{count_of-earlier}
use Rattle.vg_base.specs.declared.address.Address.{Address}
use Rattle.vg_shapes.specs.declared.access.Access.{Access}
use Rattle.vg_events.specs.Events.{Label, label_at, labels, labels_from, labels_in, labels_of, next}
use Rattle.vg_events.specs.Laws.{EqualCountsPair}
use Rattle.vg_events.specs.Pairs.{joined, Labelled, ArePaired, AreEvents}
use Rattle.vg_events.specs.Ranks.{by_rank, count_label, event_at, paired, pairing, SameCounts, same_bool, same_label}

-- ---- labels

and-parts : (a b : Bool) → (a && b) ≡ true → (a ≡ true) × (b ≡ true)
and-parts true b h = (refl, h)
and-parts false b h = absurd (cc)

same-bools : (a b : Bool) → same_bool a b ≡ true → a ≡ b
same-bools true b h = sym h
same-bools false true h = absurd (cc)
same-bools false false h = refl

bool-itself : (a : Bool) → same_bool a a ≡ true
bool-itself true = refl
bool-itself false = refl

pub same-labels : (a b : Label) → same_label a b ≡ true → a ≡ b
same-labels a b h =
    let w = and-parts _ _ h in
    let rest = and-parts _ _ w.1 in
    let writes = same-bools a.writes b.writes w.0 in
    let pointer = eqb-true a.address.pointer b.address.pointer rest.0 in
    let offset = (Decides-int_eq a.address.offset b.address.offset).0 rest.1 in
    (λ i. record { writes = writes i; address = record { pointer = pointer i; offset = offset i } })

pub label-itself : (a : Label) → same_label a a ≡ true
label-itself a = (λ i. bool-itself a.writes i && (eq-eqb a.address.pointer a.address.pointer refl i && (Decides-int_eq a.address.offset a.address.offset).1 refl i))

label-turned : (a b : Label) → same_label a b ≡ true → same_label b a ≡ true
label-turned a b h = subst (λ c. same_label c a ≡ true) (same-labels a b h) (label-itself a)

count-here : (l x : Label) (xs : List Label) → same_label l x ≡ true → count_label l (x ∷ xs) ≡ 1 + count_label l xs
count-here l x xs h = ap (λ b. one_if b + count_label l xs) h

count-other : (l x : Label) (xs : List Label) → same_label l x ≡ false → count_label l (x ∷ xs) ≡ count_label l xs
count-other l x xs h = ap (λ b. one_if b + count_label l xs) h ∙ omega arith

count-append : (l : Label) (xs ys : List Label) → count_label l (xs ++ ys) ≡ count_label l xs + count_label l ys
count-append l [] ys = omega arith
count-append l (x ∷ xs) ys = omega (arith, count-append l xs ys)

count-push : (l m : Label) (done : List Label) → count_label l (done ++ m ∷ []) ≡ count_label l done + one_if (same_label l m)
count-push l m done = omega (arith, count-append l done (m ∷ []))

-- ---- the event of a rank

event-first : (l x : Label) (xs : List Label) → same_label l x ≡ true → event_at l 0 (x ∷ xs) ≡ 0
event-first l x xs h = cond-true _ _ _ h

event-next : (l x : Label) (xs : List Label) (k : ℕ) → same_label l x ≡ true → event_at l (suc k) (x ∷ xs) ≡ suc (event_at l k xs)
event-next l x xs k h = cond-true _ _ _ h

event-behind : (l x : Label) (xs : List Label) (k : ℕ) → same_label l x ≡ false → event_at l k (x ∷ xs) ≡ suc (event_at l k xs)
event-behind l x xs zero h = cond-false _ _ _ h
event-behind l x xs (suc k) h = cond-false _ _ _ h

-- it has that label and that rank, and lies inside
pub record IsRanked (l : Label) (k e : ℕ) (xs : List Label) : Type 0 where
  pub label : label_at xs e ≡ l
  pub rank : count_label l (take e xs) ≡ k
  pub inside : e < length xs

pub event-ranked : (l : Label) (k : ℕ) (xs : List Label) → k < count_label l xs → IsRanked l k (event_at l k xs) xs
event-ranked l k [] h = absurd (omega arith)
event-ranked l zero (x ∷ xs) h = elim (cases_Bool (same_label l x)) [
  | inl t ↦ subst (λ e. IsRanked l 0 e (x ∷ xs)) (sym (event-first l x xs t)) (record { label = sym (same-labels l x t); rank = refl; inside = omega arith })
  | inr f ↦
      let c = count-other l x xs f in
      let rest = event-ranked l zero xs (omega arith) in
      subst (λ e. IsRanked l 0 e (x ∷ xs)) (sym (event-behind l x xs 0 f)) (record { label = rest.label; rank = count-other l x (take (event_at l 0 xs) xs) f ∙ rest.rank; inside = (let k = rest.inside in omega arith) })
]
event-ranked l (suc k) (x ∷ xs) h = elim (cases_Bool (same_label l x)) [
  | inl t ↦
      let c = count-here l x xs t in
      let rest = event-ranked l k xs (omega arith) in
      subst (λ e. IsRanked l (suc k) e (x ∷ xs)) (sym (event-next l x xs k t)) (record { label = rest.label; rank = (let a = count-here l x (take (event_at l k xs) xs) t in let b = rest.rank in omega arith); inside = (let q = rest.inside in omega arith) })
  | inr f ↦
      let c = count-other l x xs f in
      let rest = event-ranked l (suc k) xs (omega arith) in
      subst (λ e. IsRanked l (suc k) e (x ∷ xs)) (sym (event-behind l x xs (suc k) f)) (record { label = rest.label; rank = count-other l x (take (event_at l (suc k) xs) xs) f ∙ rest.rank; inside = (let q = rest.inside in omega arith) })
]

-- each event is the one of its own rank
rank-below : (xs : List Label) (e : ℕ) → e < length xs → count_label (label_at xs e) (take e xs) < count_label (label_at xs e) xs
rank-below [] e h = absurd (omega arith)
rank-below (x ∷ xs) zero h = let c = count-here x x xs (label-itself x) in omega arith
rank-below (x ∷ xs) (suc e) h = let rest = rank-below xs e (omega arith) in omega arith

event-back : (xs : List Label) (e : ℕ) → e < length xs → event_at (label_at xs e) (count_label (label_at xs e) (take e xs)) xs ≡ e
event-back [] e h = absurd (omega arith)
event-back (x ∷ xs) zero h = event-first x x xs (label-itself x)
event-back (x ∷ xs) (suc e) h =
    let l = label_at xs e in
    let rest = event-back xs e (omega arith) in
    elim (cases_Bool (same_label l x)) [
      | inl t ↦ ap (λ k. event_at l k (x ∷ xs)) (count-here l x (take e xs) t ∙ (let one : 1 + count_label l (take e xs) ≡ suc (count_label l (take e xs)) = omega arith in one)) ∙ event-next l x xs (count_label l (take e xs)) t ∙ ap suc rest
      | inr f ↦ ap (λ k. event_at l k (x ∷ xs)) (count-other l x (take e xs) f) ∙ event-behind l x xs (count_label l (take e xs)) f ∙ ap suc rest
    ]

-- ---- each event once

-- those that are done and those that come are together as many as the kernel has
abbrev Together : List Label → List Label → List Label → Type 0
Together ls done ms = (l : Label) → count_label l done + count_label l ms ≡ count_label l ls

together-next : (ls done : List Label) (m : Label) (ms : List Label) → Together ls done (m ∷ ms) → Together ls (done ++ m ∷ []) ms
together-next ls done m ms t l = let a = t l in let b = count-push l m done in omega arith

here-less : (ls done : List Label) (m : Label) (ms : List Label) → Together ls done (m ∷ ms) → count_label m done < count_label m ls
here-less ls done m ms t = let a = t m in let b = count-here m m ms (label-itself m) in omega arith

-- whether the event with this number is the one that the label takes
not-taken : (e f : ℕ) (es : List ℕ) → (e ≡ f → ⊥) → count_of e (f ∷ es) ≡ count_of e es
not-taken e f es h = elim (cases_Bool (e == f)) [
  | inl t ↦ absurd (h (eqb-true e f t))
  | inr n ↦ let none : one_if (e == f) ≡ 0 = ap one_if n in omega arith
]

taken : (e f : ℕ) (es : List ℕ) → e ≡ f → count_of e (f ∷ es) ≡ 1 + count_of e es
taken e f es h = ap (λ b. one_if b + count_of e es) (eq-eqb e f h)

-- an event takes the number e only where it has its label and its rank
takes-own : (ls done : List Label) (m : Label) (ms : List Label) (e : ℕ) → Together ls done (m ∷ ms) → e ≡ event_at m (count_label m done) ls → (label_at ls e ≡ m) × (count_label (label_at ls e) (take e ls) ≡ count_label (label_at ls e) done)
takes-own ls done m ms e t same =
    let ranked = event-ranked m (count_label m done) ls (here-less ls done m ms t) in
    let label : label_at ls e ≡ m = ap (label_at ls) same ∙ ranked.label in
    (label, ap (λ l. count_label l (take e ls)) label ∙ ap (λ k. count_label m (take k ls)) same ∙ ranked.rank ∙ ap (λ l. count_label l done) (sym label))

none-later : (ls done ms : List Label) (e : ℕ) → Together ls done ms → count_label (label_at ls e) (take e ls) < count_label (label_at ls e) done → count_of e (paired ls done ms) ≡ 0
none-later ls done [] e t h = refl
none-later ls done (m ∷ ms) e t h =
    not-taken e (event_at m (count_label m done) ls) (paired ls (done ++ m ∷ []) ms) (λ same. let own = takes-own ls done m ms e t same in let r = own.1 in omega arith)
    ∙ none-later ls (done ++ m ∷ []) ms e (together-next ls done m ms t) (let b = count-push (label_at ls e) m done in omega arith)

once-there : (ls done ms : List Label) (e : ℕ) → Together ls done ms → e < length ls → count_label (label_at ls e) done ≤ count_label (label_at ls e) (take e ls) → count_of e (paired ls done ms) ≡ 1
once-there ls done [] e t inside h = absurd (let a = t (label_at ls e) in let b = rank-below ls e inside in omega arith)
once-there ls done (m ∷ ms) e t inside h =
    let l = label_at ls e in
    let next = together-next ls done m ms t in
    let push = count-push l m done in
    elim (cases_Bool (same_label l m)) [
      | inl y ↦
          let same : l ≡ m = same-labels l m y in
          let more : count_label l (done ++ m ∷ []) ≡ count_label l done + 1 = push ∙ ap (λ b. count_label l done + one_if b) y in
          elim (cases_lt (count_label l done) (count_label l (take e ls))) [
            | inl less ↦
                not-taken e (event_at m (count_label m done) ls) (paired ls (done ++ m ∷ []) ms) (λ is. let own = takes-own ls done m ms e t is in let r = own.1 in omega arith)
                ∙ once-there ls (done ++ m ∷ []) ms e next inside (omega arith)
            | inr most ↦
                let rank : count_label l (take e ls) ≡ count_label l done = omega arith in
                let is : e ≡ event_at m (count_label m done) ls = sym (event-back ls e inside) ∙ ap (λ k. event_at l k ls) rank ∙ ap (λ q. event_at q (count_label q done) ls) same in
                taken e (event_at m (count_label m done) ls) (paired ls (done ++ m ∷ []) ms) is
                ∙ ap (λ k. 1 + k) (none-later ls (done ++ m ∷ []) ms e next (omega arith))
          ]
      | inr n ↦
          let kept : count_label l (done ++ m ∷ []) ≡ count_label l done = push ∙ ap (λ b. count_label l done + one_if b) n ∙ omega arith in
          not-taken e (event_at m (count_label m done) ls) (paired ls (done ++ m ∷ []) ms) (λ is.
          let own = takes-own ls done m ms e t is in
          let yes : same_label l m ≡ true = subst (λ q. same_label l q ≡ true) own.0 (label-itself l) in
          let no : false ≡ true = sym n ∙ yes in cc)
          ∙ once-there ls (done ++ m ∷ []) ms e next inside (omega arith)
    ]

none-outside : (ls done ms : List Label) (e : ℕ) → Together ls done ms → length ls ≤ e → count_of e (paired ls done ms) ≡ 0
none-outside ls done [] e t h = refl
none-outside ls done (m ∷ ms) e t h =
    let ranked = event-ranked m (count_label m done) ls (here-less ls done m ms t) in
    not-taken e (event_at m (count_label m done) ls) (paired ls (done ++ m ∷ []) ms) (λ same. let k = ranked.inside in omega arith)
    ∙ none-outside ls (done ++ m ∷ []) ms e (together-next ls done m ms t) h

pub number-inside : (e first n : ℕ) → Stands e (numbers_from first n) → e < first + n
number-inside e first zero s = absurd (omega arith)
number-inside e first (suc n) s = elim (cases_Bool (e == first)) [
  | inl t ↦ let same = eqb-true e first t in omega arith
  | inr f ↦ let none : one_if (e == first) ≡ 0 = ap one_if f in let k = number-inside e (first + 1) n (omega arith) in omega arith
]

pub numbers-inside : (e first n : ℕ) → first ≤ e → e < first + n → count_of e (numbers_from first n) ≡ 1
numbers-inside e first zero low high = absurd (omega arith)
numbers-inside e first (suc n) low high = elim (cases_Bool (e == first)) [
  | inl t ↦ let same = eqb-true e first t in taken e first (numbers_from (first + 1) n) same ∙ ap (λ k. 1 + k) (count_of-earlier e (first + 1) n (omega arith))
  | inr f ↦
      let differ : e ≡ first → ⊥ = λ same. let yes = eq-eqb e first same in let no : false ≡ true = sym f ∙ yes in cc in
      not-taken e first (numbers_from (first + 1) n) differ ∙ numbers-inside e (first + 1) n (lower e first low differ) (omega arith)
]
  where
    lower : (e first : ℕ) → first ≤ e → (e ≡ first → ⊥) → first + 1 ≤ e
    lower e first low differ = elim (cases_lt first e) [ inl l ↦ omega arith | inr g ↦ absurd (differ (omega arith)) ]

pub numbers-outside : (e first n : ℕ) → first + n ≤ e → count_of e (numbers_from first n) ≡ 0
numbers-outside e first zero h = refl
numbers-outside e first (suc n) h = not-taken e first (numbers_from (first + 1) n) (λ same. omega arith) ∙ numbers-outside e (first + 1) n (omega arith)

paired-append : (ls done xs ys : List Label) → paired ls done (xs ++ ys) ≡ paired ls done xs ++ paired ls (done ++ xs) ys
paired-append ls done [] ys = ap (λ d. paired ls d ys) (sym (append-nil done))
paired-append ls done (x ∷ xs) ys =
    ap (λ l. event_at x (count_label x done) ls ∷ l) (paired-append ls (done ++ x ∷ []) xs ys ∙ ap (λ d. paired ls (done ++ x ∷ []) xs ++ paired ls d ys) (append_assoc done (x ∷ []) xs))

joined-pairing : (ls done : List Label) (xs : List (Option Access)) → joined (pairing ls done xs) ≡ paired ls done (labels xs)
joined-pairing ls done [] = refl
joined-pairing ls done (x ∷ xs) = ap (λ l. paired ls done (labels_in x) ++ l) (joined-pairing ls (done ++ labels_in x) xs) ∙ sym (paired-append ls done (labels_in x) (labels xs))

pub pairing-once : (ls : List Label) (xs : List (Option Access)) → SameCounts ls (labels xs) → AreEvents ls (joined (by_rank ls xs))
pairing-once ls xs same e =
    let t : Together ls [] (labels xs) = λ l. let k = same l in omega arith in
    ap (count_of e) (joined-pairing ls [] xs)
    ∙ elim (cases_lt e (length ls)) [
      | inl inside ↦ once-there ls [] (labels xs) e t inside (omega arith) ∙ sym (numbers-inside e 0 (length ls) (omega arith) (omega arith))
      | inr outside ↦ none-outside ls [] (labels xs) e t outside ∙ sym (numbers-outside e 0 (length ls) (omega arith))
    ]

-- ---- the events of an act have its labels

pub length-paired : (ls done ms : List Label) → length (paired ls done ms) ≡ length ms
length-paired ls done [] = refl
length-paired ls done (m ∷ ms) = ap suc (length-paired ls (done ++ m ∷ []) ms)

paired-labelled : (ls done : List Label) (w : Bool) (a : Address) (n : ℕ) (rest : List Label) → Together ls done (labels_from w a n ++ rest) → Labelled ls w a (paired ls done (labels_from w a n))
paired-labelled ls done w a zero rest t = tt
paired-labelled ls done w a (suc n) rest t =
    let m : Label = record { writes = w; address = a } in (
      (event-ranked m (count_label m done) ls (here-less ls done m (labels_from w (next a) n ++ rest) t)).label,
      paired-labelled ls (done ++ m ∷ []) w (next a) n rest (together-next ls done m (labels_from w (next a) n ++ rest) t),
    )

together-behind : (ls done ms rest : List Label) → Together ls done (ms ++ rest) → Together ls (done ++ ms) rest
together-behind ls done ms rest t l = let a = t l in let b = count-append l ms rest in let c = count-append l done ms in omega arith

pub length-labels : (w : Bool) (a : Address) (n : ℕ) → length (labels_from w a n) ≡ n
length-labels w a zero = refl
length-labels w a (suc n) = ap suc (length-labels w (next a) n)

pairing-labelled : (ls done : List Label) (xs : List (Option Access)) → Together ls done (labels xs) → ArePaired ls xs (pairing ls done xs)
pairing-labelled ls done [] t = tt
pairing-labelled ls done (None ∷ xs) t = (refl, pairing-labelled ls (done ++ []) xs (subst (λ d. Together ls d (labels xs)) (sym (append-nil done)) t))
pairing-labelled ls done (Some x ∷ xs) t = (
  (length-paired ls done (labels_of x) ∙ length-labels x.writes x.address x.size, paired-labelled ls done x.writes x.address x.size (labels xs) t),
  pairing-labelled ls (done ++ labels_of x) xs (together-behind ls done (labels_of x) (labels xs) t),
)

pub pairing-paired : (ls : List Label) (xs : List (Option Access)) → SameCounts ls (labels xs) → ArePaired ls xs (by_rank ls xs)
pairing-paired ls xs same = pairing-labelled ls [] xs (λ l. let k = same l in omega arith)

pub equal-counts-pair : EqualCountsPair
equal-counts-pair ls xs same = record { paired = pairing-paired ls xs same; once = pairing-once ls xs same }
