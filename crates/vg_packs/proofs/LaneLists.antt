-- Lanes, one after the other.
use Rattle.std.proofs.Common.{◌≡◌, ℕ, zero, suc, ◌+◌, ◌-◌, ◌<◌, ◌≤◌, Bool, true, false, List, [], ◌∷◌, ◌++◌, drop, get_or, length, refl, sym, ◌∙◌, ap, arith, append_assoc, append-nil}
use Rattle.std.specs.Prelude.{◌&&◌, find, nat_eq, Option, Some, None}
use Rattle.std.specs.Cmp.Lexicographic.{pointwise}
use Rattle.std.proofs.lemmas.List.{drop_all, drop_more}
use Rattle.vg_kernel_plans.specs.Held.{lanes_from}
use Rattle.vg_kernel_plans.specs.Producers.{are_matched, lanes_for, value_at}
use Rattle.vg_kernel_plans.specs.SameAs.{same_slot}
use Rattle.vg_shapes.specs.declared.match_table.Match.{Match}
use Rattle.vg_shapes.specs.declared.operand.Slot.{Slot}
use Rattle.vg_packs.specs.Lanes.{begins_with, is_matched, rest_behind}

lane-first : (wanted : List Slot) (low w : ℕ) (lane : Option ℕ) (lanes : List (Option ℕ))
    → pointwise same_slot wanted (lanes_from low w (lane ∷ lanes))
    ≡ (begins_with wanted low w lane && pointwise same_slot (rest_behind wanted lane) (lanes_from (low + w) w lanes))
lane-first wanted low w None lanes = refl
lane-first [] low w (Some v) lanes = refl
lane-first (s ∷ ss) low w (Some v) lanes = refl

pub off : (a b : Bool) → a ≡ false → (a && b) ≡ false
off true b e = absurd (cc)
off false b e = refl

pub on : (a b : Bool) → a ≡ true → (a && b) ≡ b
on true b e = refl
on false b e = absurd (cc)

pub lanes-off : (left : List Slot) (low w k : ℕ) (lanes : List (Option ℕ)) (lane : Option ℕ) (b whole : Bool)
    → k < length lanes → lane ≡ get_or lanes k lane → b ≡ begins_with left low w lane → b ≡ false
    → pointwise same_slot left (lanes_from low w (drop k lanes)) ≡ whole → false ≡ whole
lanes-off left low w k lanes lane b whole l is e f h =
    sym (off (begins_with left low w lane) _ (sym e ∙ f))
    ∙ sym (lane-first left low w lane (drop (k + 1) lanes))
    ∙ ap (λ xs. pointwise same_slot left (lanes_from low w xs)) (ap (λ x. x ∷ drop (k + 1) lanes) is ∙ sym (drop_more lanes k lane l))
    ∙ h

pub lanes-on : (left rest : List Slot) (low next w k : ℕ) (lanes : List (Option ℕ)) (lane : Option ℕ) (b whole : Bool)
    → k < length lanes → lane ≡ get_or lanes k lane → b ≡ begins_with left low w lane → b ≡ true
    → rest ≡ rest_behind left lane → next ≡ low + w
    → pointwise same_slot left (lanes_from low w (drop k lanes)) ≡ whole
    → pointwise same_slot rest (lanes_from next w (drop (k + 1) lanes)) ≡ whole
lanes-on left rest low next w k lanes lane b whole l is e t r n h =
    ap (λ xs. pointwise same_slot xs (lanes_from next w (drop (k + 1) lanes))) r
    ∙ ap (λ m. pointwise same_slot (rest_behind left lane) (lanes_from m w (drop (k + 1) lanes))) n
    ∙ sym (on (begins_with left low w lane) _ (sym e ∙ t))
    ∙ sym (lane-first left low w lane (drop (k + 1) lanes))
    ∙ ap (λ xs. pointwise same_slot left (lanes_from low w xs)) (ap (λ x. x ∷ drop (k + 1) lanes) is ∙ sym (drop_more lanes k lane l))
    ∙ h

pub lanes-end : (left : List Slot) (low w k : ℕ) (lanes : List (Option ℕ)) (whole : Bool) → length lanes ≤ k
    → pointwise same_slot left (lanes_from low w (drop k lanes)) ≡ whole → pointwise same_slot left [] ≡ whole
lanes-end left low w k lanes whole l h =
    ap (λ xs. pointwise same_slot left (lanes_from low w xs)) (sym (drop_all k lanes l)) ∙ h

matched-first : (matches : List Match) (d lane : ℕ) (v : Option ℕ) (lanes : List (Option ℕ))
    → are_matched matches d lane (v ∷ lanes) ≡ (is_matched matches d lane v && are_matched matches d (suc lane) lanes)
matched-first matches d lane None lanes = refl
matched-first matches d lane (Some v) lanes = refl

pub matched-off : (matches : List Match) (d k : ℕ) (lanes : List (Option ℕ)) (v : Option ℕ) (b whole : Bool)
    → k < length lanes → v ≡ get_or lanes k v → b ≡ is_matched matches d k v → b ≡ false
    → are_matched matches d k (drop k lanes) ≡ whole → false ≡ whole
matched-off matches d k lanes v b whole l is e f h =
    sym (off (is_matched matches d k v) _ (sym e ∙ f))
    ∙ sym (matched-first matches d k v (drop (k + 1) lanes))
    ∙ ap (are_matched matches d k) (ap (λ x. x ∷ drop (k + 1) lanes) is ∙ sym (drop_more lanes k v l))
    ∙ h

pub matched-on : (matches : List Match) (d k : ℕ) (lanes : List (Option ℕ)) (v : Option ℕ) (b whole : Bool)
    → k < length lanes → v ≡ get_or lanes k v → b ≡ is_matched matches d k v → b ≡ true
    → are_matched matches d k (drop k lanes) ≡ whole → are_matched matches d (k + 1) (drop (k + 1) lanes) ≡ whole
matched-on matches d k lanes v b whole l is e t h =
    let s : k + 1 ≡ suc k = omega arith in
    ap (λ n. are_matched matches d n (drop (k + 1) lanes)) s
    ∙ sym (on (is_matched matches d k v) _ (sym e ∙ t))
    ∙ sym (matched-first matches d k v (drop (k + 1) lanes))
    ∙ ap (are_matched matches d k) (ap (λ x. x ∷ drop (k + 1) lanes) is ∙ sym (drop_more lanes k v l))
    ∙ h

pub matched-end : (matches : List Match) (d k : ℕ) (lanes : List (Option ℕ)) (whole : Bool) → length lanes ≤ k
    → are_matched matches d k (drop k lanes) ≡ whole → true ≡ whole
matched-end matches d k lanes whole l h = ap (are_matched matches d k) (sym (drop_all k lanes l)) ∙ h

pub for-end : (left low w : ℕ) (slots : List Slot) (lanes whole : List (Option ℕ)) → left ≤ 0
    → lanes ++ lanes_for left low w slots ≡ whole → lanes ≡ whole
for-end zero low w slots lanes whole l e = sym (append-nil lanes) ∙ e
for-end (suc n) low w slots lanes whole l e = absurd (omega (arith, l))

pub for-more : (left low next w : ℕ) (slots : List Slot) (lanes more whole : List (Option ℕ)) (v : Option ℕ) → 0 < left
    → v ≡ value_at (find (λ s. nat_eq s.low low && nat_eq s.width w) slots)
    → more ≡ lanes ++ v ∷ [] → next ≡ low + w
    → lanes ++ lanes_for left low w slots ≡ whole → more ++ lanes_for (left - 1) next w slots ≡ whole
for-more zero low next w slots lanes more whole v p e m n h = absurd (omega (arith, p))
for-more (suc k) low next w slots lanes more whole v p e m n h =
    let s : suc k - 1 ≡ k = omega arith in
    ap (λ xs. xs ++ lanes_for (suc k - 1) next w slots) m
    ∙ append_assoc lanes (v ∷ []) _
    ∙ ap (λ j. lanes ++ v ∷ lanes_for j next w slots) s
    ∙ ap (λ j. lanes ++ v ∷ lanes_for k j w slots) n
    ∙ ap (λ x. lanes ++ x ∷ lanes_for k (low + w) w slots) e
    ∙ h
