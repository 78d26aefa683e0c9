-- The next event of each label, as events are taken one by one.
use Rattle.std.proofs.Common.{◌≡◌, ℕ, zero, suc, ◌+◌, ◌<◌, ◌≤◌, Bool, true, false, List, [], ◌∷◌, ◌++◌, length, map, take, get_or, length-set, set, Option, None, refl, sym, ap, subst, ◌∙◌, inl, inr, arith, append_assoc, append-nil}
use Rattle.std.specs.Prelude.{unwrap_or, slice_index}
use Rattle.std.proofs.lemmas.Bool.{cases_Bool, cases_lt, cond-true, cond-false}
use Rattle.std.proofs.lemmas.List.{get_or-set_same, get_or-set_other, length-map, take_more}
use Rattle.vg_shapes.specs.declared.access.Access.{Access}
use Rattle.vg_events.specs.Events.{Label, label_at, labels, labels_from, labels_in}
use Rattle.vg_events.specs.Ranks.{count_label, event_at, paired, pairing, same_label}
use Rattle.vg_events.proofs.Ranks.{same-labels}
use Rattle.vg_base.specs.declared.address.Address.{Address}
use Rattle.vg_paired.specs.declared.byte_label.ByteLabel.{ByteLabel}
use Rattle.vg_paired.specs.declared.label_numbers.LabelNumbers.{LabelNumbers}
use Rattle.vg_paired.specs.declared.pairing.Heads.{Heads}
use Rattle.vg_paired.specs.ByteLabels.{label_of}
use Rattle.vg_paired.specs.Heads.{AreHeads, AreHeadsFrom, event_behind, first_from, Pairs, PairsAll}
use Rattle.vg_paired.specs.Noted.{noted, Notes}
use Rattle.vg_paired.proofs.Counts.{byte_at, count-other, count-same, from-push, labels-push}
use Rattle.vg_paired.proofs.Noting.{of_label}

-- ---- the event of a rank

at-first : (l x : Label) (xs : List Label) → same_label l x ≡ true → event_at l 0 (x ∷ xs) ≡ 0
at-first l x xs h = cond-true _ _ _ h

at-next : (l x : Label) (xs : List Label) (k : ℕ) → same_label l x ≡ true → event_at l (suc k) (x ∷ xs) ≡ suc (event_at l k xs)
at-next l x xs k h = cond-true _ _ _ h

at-behind : (l x : Label) (xs : List Label) (k : ℕ) → same_label l x ≡ false → event_at l k (x ∷ xs) ≡ suc (event_at l k xs)
at-behind l x xs zero h = cond-false _ _ _ h
at-behind l x xs (suc k) h = cond-false _ _ _ h

event-bound : (l : Label) (k : ℕ) (xs : List Label) → event_at l k xs ≤ length xs
event-bound l k [] = omega arith
event-bound l zero (x ∷ xs) = elim (cases_Bool (same_label l x)) [
  | inl t ↦ let e = at-first l x xs t in omega arith
  | inr f ↦ let e = at-behind l x xs 0 f in let b = event-bound l 0 xs in omega arith
]
event-bound l (suc k) (x ∷ xs) = elim (cases_Bool (same_label l x)) [
  | inl t ↦ let e = at-next l x xs k t in let b = event-bound l k xs in omega arith
  | inr f ↦ let e = at-behind l x xs (suc k) f in let b = event-bound l (suc k) xs in omega arith
]

event-rises : (l : Label) (k : ℕ) (xs : List Label) → event_at l k xs ≤ event_at l (suc k) xs
event-rises l k [] = omega arith
event-rises l zero (x ∷ xs) = elim (cases_Bool (same_label l x)) [
  | inl t ↦ let e = at-first l x xs t in omega arith
  | inr f ↦ let e = at-behind l x xs 0 f in let g = at-behind l x xs 1 f in let b = event-rises l 0 xs in omega arith
]
event-rises l (suc k) (x ∷ xs) = elim (cases_Bool (same_label l x)) [
  | inl t ↦ let e = at-next l x xs k t in let g = at-next l x xs (suc k) t in let b = event-rises l k xs in omega arith
  | inr f ↦ let e = at-behind l x xs (suc k) f in let g = at-behind l x xs (suc (suc k)) f in let b = event-rises l (suc k) xs in omega arith
]

-- after the event of a rank its next one has the next rank
event-next : (l : Label) (k : ℕ) (xs : List Label) → event_at l k xs < length xs → event_at l (suc k) xs ≡ event_behind xs (event_at l k xs)
event-next l k [] h = absurd (omega arith)
event-next l zero (x ∷ xs) h = elim (cases_Bool (same_label l x)) [
  | inl t ↦ at-next l x xs 0 t ∙ ap (λ y. suc (event_at y 0 xs)) (same-labels l x t) ∙ sym (ap (event_behind (x ∷ xs)) (at-first l x xs t))
  | inr f ↦
      let e = at-behind l x xs 0 f in
      at-behind l x xs 1 f ∙ ap suc (event-next l 0 xs (omega arith)) ∙ sym (ap (event_behind (x ∷ xs)) e)
]
event-next l (suc k) (x ∷ xs) h = elim (cases_Bool (same_label l x)) [
  | inl t ↦
      let e = at-next l x xs k t in
      at-next l x xs (suc k) t ∙ ap suc (event-next l k xs (omega arith)) ∙ sym (ap (event_behind (x ∷ xs)) e)
  | inr f ↦
      let e = at-behind l x xs (suc k) f in
      at-behind l x xs (suc (suc k)) f ∙ ap suc (event-next l (suc k) xs (omega arith)) ∙ sym (ap (event_behind (x ∷ xs)) e)
]

-- where there is none of a rank there is none of the next
event-none : (l : Label) (k : ℕ) (xs : List Label) → length xs ≤ event_at l k xs → event_at l (suc k) xs ≡ event_at l k xs
event-none l k xs h = let a = event-rises l k xs in let b = event-bound l (suc k) xs in omega arith

-- ---- the first events, from the last event to the first

from-zero : (l : Label) (xs : List Label) → first_from l 0 xs ≡ event_at l 0 xs
from-zero l [] = refl
from-zero l (x ∷ xs) = refl

from-end : (l : Label) (xs : List Label) → first_from l (length xs) xs ≡ length xs
from-end l [] = refl
from-end l (x ∷ xs) = ap suc (from-end l xs)

from-here : (l : Label) (k : ℕ) (xs : List Label) → k < length xs → same_label l (label_at xs k) ≡ true → first_from l k xs ≡ k
from-here l k [] h t = absurd (omega arith)
from-here l zero (x ∷ xs) h t = at-first l x xs t
from-here l (suc k) (x ∷ xs) h t = ap suc (from-here l k xs (omega arith) t)

from-other : (l : Label) (k : ℕ) (xs : List Label) → k < length xs → same_label l (label_at xs k) ≡ false → first_from l k xs ≡ first_from l (suc k) xs
from-other l k [] h f = absurd (omega arith)
from-other l zero (x ∷ xs) h f = at-behind l x xs 0 f ∙ ap suc (sym (from-zero l xs))
from-other l (suc k) (x ∷ xs) h f = ap suc (from-other l k xs (omega arith) f)

behind-from : (k : ℕ) (xs : List Label) → k < length xs → event_behind xs k ≡ first_from (label_at xs k) (suc k) xs
behind-from k [] h = absurd (omega arith)
behind-from zero (x ∷ xs) h = ap suc (sym (from-zero x xs))
behind-from (suc k) (x ∷ xs) h = ap suc (behind-from k xs (omega arith))

pub label-mapped : (xs : List ByteLabel) (k : ℕ) (d : ByteLabel) → k < length xs → label_at (map label_of xs) k ≡ label_of (get_or xs k d)
label-mapped [] k d h = absurd (omega arith)
label-mapped (x ∷ xs) zero d h = refl
label-mapped (x ∷ xs) (suc k) d h = label-mapped xs k d (omega arith)

heads-last : (xs : List ByteLabel) (first : LabelNumbers) (next : List ℕ) (k : ℕ) → k ≡ length xs → ((l : Label) → noted first l ≡ None) → length next ≡ length xs →
    AreHeadsFrom (map label_of xs) k first next
heads-last xs first next k is none long =
    let same = length-map xs label_of in
    record {
      first = λ l. ap (λ o. unwrap_or o (length (map label_of xs))) (none l) ∙ sym (from-end l (map label_of xs)) ∙ ap (λ n. first_from l n (map label_of xs)) (omega arith);
      next = λ e low high. absurd (omega arith);
      all = omega arith;
    }

-- one event more, in front of the others
heads-turn : (ls : List Label) (k : ℕ) (m : Label) (old new : LabelNumbers) (next : List ℕ) (v : ℕ) → k < length ls → label_at ls k ≡ m →
    AreHeadsFrom ls (suc k) old next → v ≡ unwrap_or (noted old m) (length ls) → Notes old new m k → AreHeadsFrom ls k new (set next k v)
heads-turn ls k m old new next v inside label h is notes = record {
  first = λ l. elim (cases_Bool (same_label l m)) [
    | inl t ↦ ap (λ o. unwrap_or o (length ls)) (notes l ∙ cond-true _ _ _ t) ∙ sym (from-here l k ls inside (ap (same_label l) label ∙ t))
    | inr f ↦ ap (λ o. unwrap_or o (length ls)) (notes l ∙ cond-false _ _ _ f) ∙ h.first l ∙ sym (from-other l k ls inside (ap (same_label l) label ∙ f))
  ];
  next = λ e low high. elim (cases_lt k e) [
    | inl less ↦ get_or-set_other next k e v 0 (λ (same : e ≡ k). omega arith) ∙ h.next e less high
    | inr here ↦
        let long = h.all in
        let same : e ≡ k = omega arith in
        ap (λ n. get_or (set next k v) n 0) same ∙ get_or-set_same next k v 0 (omega arith) ∙ is ∙ h.first m
        ∙ ap (λ x. first_from x (suc k) ls) (sym label) ∙ sym (behind-from k ls inside) ∙ ap (event_behind ls) (sym same)
  ];
  all = length-set next k v ∙ h.all;
}

pub heads-first : (xs : List ByteLabel) (first : LabelNumbers) (next : List ℕ) (k : ℕ) → k ≡ length xs → ((l : Label) → noted first l ≡ None) → length next ≡ length xs →
    AreHeadsFrom (map label_of xs) k first next
heads-first = heads-last

pub heads-more : (xs : List ByteLabel) (k left : ℕ) (d : ByteLabel) (old new : LabelNumbers) (next : List ℕ) (v : ℕ) → k < length xs → left ≡ suc k →
    AreHeadsFrom (map label_of xs) left old next → v ≡ unwrap_or (noted old (label_of (get_or xs k d))) (length xs) → Notes old new (label_of (get_or xs k d)) k →
    AreHeadsFrom (map label_of xs) k new (set next k v)
heads-more xs k left d old new next v inside step h is notes =
    let same = length-map xs label_of in
    heads-turn (map label_of xs) k (label_of (get_or xs k d)) old new next v (omega arith) (label-mapped xs k d inside)
    (subst (λ n. AreHeadsFrom (map label_of xs) n old next) step h)
    (is ∙ ap (λ n. unwrap_or (noted old (label_of (get_or xs k d))) n) (sym same)) notes

pub heads-done : (ls : List Label) (h : Heads) (k : ℕ) → k ≤ 0 → AreHeadsFrom ls k h.first h.next.items → AreHeads ls [] h
heads-done ls h k none from =
    let zero : k ≡ 0 = omega arith in
    record {
      first = λ l. from.first l ∙ ap (λ n. first_from l n ls) zero ∙ from-zero l ls;
      next = λ e inside. from.next e (omega arith) inside;
      all = from.all;
    }

-- ---- taking events

-- the rank of the next event of a label after one more
rank-same : (ls done : List Label) (l m : Label) → same_label l m ≡ true → event_at l (count_label l (done ++ m ∷ [])) ls ≡ event_at m (suc (count_label m done)) ls
rank-same ls done l m t =
    let one : count_label l done + 1 ≡ suc (count_label l done) = omega arith in
    ap (λ k. event_at l k ls) (count-same l m done t ∙ one) ∙ ap (λ x. event_at x (suc (count_label x done)) ls) (same-labels l m t)

pub pairs-none : (h : Heads) (m : ByteLabel) (e : ℕ) → e ≡ unwrap_or (noted h.first (label_of m)) (length h.next.items) → length h.next.items ≤ e →
    Pairs h h (label_of m ∷ []) (e ∷ [])
pairs-none h m e is none ls done a =
    let x = label_of m in
    let event : e ≡ event_at x (count_label x done) ls = is ∙ ap (λ n. unwrap_or (noted h.first x) n) a.all ∙ a.first x in
    let all = a.all in (
      ap (λ n. n ∷ []) event,
      record {
        first = λ l. elim (cases_Bool (same_label l x)) [
          | inl t ↦ ap (λ y. unwrap_or (noted h.first y) (length ls)) (same-labels l x t) ∙ a.first x ∙ sym (event-none x (count_label x done) ls (omega arith)) ∙ sym (rank-same ls done l x t)
          | inr f ↦ a.first l ∙ ap (λ k. event_at l k ls) (sym (count-other l x done f))
        ];
        next = a.next;
        all = a.all;
      },
    )

pub pairs-some : (old new : LabelNumbers) (next : List ℕ) (hold hnew : Heads) (m : ByteLabel) (e v : ℕ) → hold.first ≡ old → hnew.first ≡ new → hold.next.items ≡ next → hnew.next.items ≡ next →
    e ≡ unwrap_or (noted old (label_of m)) (length next) → e < length next → v ≡ slice_index next e → Notes old new (label_of m) v → Pairs hold hnew (label_of m ∷ []) (e ∷ [])
pairs-some old new next hold hnew m e v of nf on nn is some read notes ls done a =
    let x = label_of m in
    let all : length next ≡ length ls = sym (ap length on) ∙ a.all in
    let event : e ≡ event_at x (count_label x done) ls = is ∙ ap (λ n. unwrap_or (noted old x) n) all ∙ ap (λ f. unwrap_or (noted f x) (length ls)) (sym of) ∙ a.first x in
    let behind : v ≡ event_at x (suc (count_label x done)) ls =
    read ∙ ap (λ xs. slice_index xs e) (sym on) ∙ a.next e (omega arith) ∙ ap (event_behind ls) event ∙ sym (event-next x (count_label x done) ls (omega arith)) in (
      ap (λ n. n ∷ []) event,
      record {
        first = λ l. ap (λ f. unwrap_or (noted f l) (length ls)) nf ∙ elim (cases_Bool (same_label l x)) [
          | inl t ↦ ap (λ o. unwrap_or o (length ls)) (notes l ∙ cond-true _ _ _ t) ∙ behind ∙ sym (rank-same ls done l x t)
          | inr f ↦
              ap (λ o. unwrap_or o (length ls)) (notes l ∙ cond-false _ _ _ f) ∙ ap (λ f. unwrap_or (noted f l) (length ls)) (sym of) ∙ a.first l
              ∙ ap (λ k. event_at l k ls) (sym (count-other l x done f))
        ];
        next = λ n inside. ap (λ xs. slice_index xs n) (nn ∙ sym on) ∙ a.next n inside;
        all = ap length nn ∙ all;
      },
    )

-- ---- turns of loops

paired-push : (ls done xs : List Label) (m : Label) → paired ls done (xs ++ m ∷ []) ≡ paired ls done xs ++ paired ls (done ++ xs) (m ∷ [])
paired-push ls done [] m = ap (λ d. event_at m (count_label m d) ls ∷ []) (sym (append-nil done))
paired-push ls done (x ∷ xs) m =
    ap (λ es. event_at x (count_label x done) ls ∷ es)
    (paired-push ls (done ++ x ∷ []) xs m ∙ ap (λ d. paired ls (done ++ x ∷ []) xs ++ paired ls d (m ∷ [])) (append_assoc done (x ∷ []) xs))

pub pairs-begin : (h : Heads) → Pairs h h [] []
pairs-begin h ls done a = (refl, subst (λ d. AreHeads ls d h) (sym (append-nil done)) a)

pub pairs-turn : (a b c : Heads) (w : Bool) (address : Address) (i : ℕ) (m : ByteLabel) (e : ℕ) (es new : List ℕ) → Pairs a b (labels_from w address i) es →
    m ≡ of_label (byte_at w address i) → Pairs b c (label_of m ∷ []) (e ∷ []) → new ≡ es ++ e ∷ [] → Pairs a c (labels_from w address (i + 1)) new
pairs-turn a b c w address i m e es new before is more grown ls done h =
    let xs = labels_from w address i in
    let x = byte_at w address i in
    let one = before ls done h in
    let two = more ls (done ++ xs) one.1 in
    let label : label_of m ≡ x = ap label_of is in (
      grown ∙ (λ j. one.0 j ++ two.0 j) ∙ ap (λ y. paired ls done xs ++ paired ls (done ++ xs) (y ∷ [])) label
          ∙ sym (paired-push ls done xs x) ∙ ap (paired ls done) (sym (from-push w address i)),
      subst (λ d. AreHeads ls d c)
          (append_assoc done xs (label_of m ∷ []) ∙ ap (λ y. done ++ (xs ++ y ∷ [])) label ∙ ap (λ ys. done ++ ys) (sym (from-push w address i))) two.1,
    )

pairing-push : (ls done : List Label) (xs : List (Option Access)) (x : Option Access) → pairing ls done (xs ++ x ∷ []) ≡ pairing ls done xs ++ paired ls (done ++ labels xs) (labels_in x) ∷ []
pairing-push ls done [] x = ap (λ d. paired ls d (labels_in x) ∷ []) (sym (append-nil done))
pairing-push ls done (y ∷ xs) x =
    ap (λ ess. paired ls done (labels_in y) ∷ ess)
    (pairing-push ls (done ++ labels_in y) xs x
    ∙ ap (λ d. pairing ls (done ++ labels_in y) xs ++ paired ls d (labels_in x) ∷ []) (append_assoc done (labels_in y) (labels xs)))

pub pairs-empty : (h : Heads) (x : Option Access) (es : List ℕ) → x ≡ None → es ≡ [] → Pairs h h (labels_in x) es
pairs-empty h x es none is = subst (λ (y : Option Access). Pairs h h (labels_in y) es) (sym none) (subst (Pairs h h []) (sym is) (pairs-begin h))

pub pairs-whole : (a b : Heads) (w : Bool) (address : Address) (i n : ℕ) (es new : List ℕ) → new ≡ es → i ≡ n → Pairs a b (labels_from w address i) es → Pairs a b (labels_from w address n) new
pairs-whole a b w address i n es new is all before =
    subst (λ k. Pairs a b (labels_from w address k) new) all (subst (Pairs a b (labels_from w address i)) (sym is) before)

pub all-begin : (h : Heads) → PairsAll h h [] []
all-begin h ls done a = (refl, subst (λ d. AreHeads ls d h) (sym (append-nil done)) a)

pub all-turn : (a b c : Heads) (xs : List (Option Access)) (i : ℕ) (d : Option Access) (es : List ℕ) (ess new : List (List ℕ)) → i < length xs → PairsAll a b (take i xs) ess →
    Pairs b c (labels_in (get_or xs i d)) es → new ≡ ess ++ es ∷ [] → PairsAll a c (take (i + 1) xs) new
all-turn a b c xs i d es ess new inside before more grown =
    subst (λ ys. PairsAll a c ys new) (sym (take_more xs i d inside)) (λ ls done h.
    let front = take i xs in
    let x = get_or xs i d in
    let one = before ls done h in
    let two = more ls (done ++ labels front) one.1 in (
      grown ∙ (λ j. one.0 j ++ two.0 j ∷ []) ∙ sym (pairing-push ls done front x),
      subst (λ q. AreHeads ls q c) (append_assoc done (labels front) (labels_in x) ∙ ap (λ ys. done ++ ys) (sym (labels-push front x))) two.1,
    ))
