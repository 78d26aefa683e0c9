-- A slot among the lanes of a register, looked for from the lowest lane on.
use Rattle.std.proofs.Common.{◌≡◌, ℕ, ◌+◌, ◌<◌, true, false, List, [], ◌∷◌, map, drop, length, get_or, refl, sym, ◌∙◌, ap, inl, inr, arith}
use Rattle.std.specs.Prelude.{nat_eq, Option, Some, None}
use Rattle.std.specs.List.{list_any}
use Rattle.std.proofs.lemmas.Bool.{cases_Bool}
use Rattle.std.proofs.lemmas.List.{drop_more}
use Rattle.std.proofs.lemmas.Bool.Decides.{nat_tests}
use Rattle.vg_shapes.specs.declared.operand.Slot.{Slot}
use Rattle.vg_shapes.specs.declared.wanted.Wanted.TheVariants.{Value}
use Rattle.vg_kernel_plans.specs.Held.{is_at_lane, is_here, lanes_from}
use Rattle.vg_kernel_plans.specs.SameAs.{same_slot}
use Rattle.vg_kernel_plans.specs.Wants.{slot}

-- a lane at another bit is another slot
apart : (s : Slot) (low w v : ℕ) → nat_eq s.low low ≡ false → same_slot s (slot low w (Value v)) ≡ false
apart s low w v f = rw f refl

-- no lane after it is the slot
pub behind : (s : Slot) (low w : ℕ) (lanes : List (Option ℕ)) → s.low < low
    → list_any (same_slot s) (lanes_from low w lanes) ≡ false
behind s low w [] l = refl
behind s low w (None ∷ lanes) l = behind s (low + w) w lanes (omega (arith, l))
behind s low w (Some v ∷ lanes) l =
    rw (apart s low w v (grind (arith, nat_tests, l))) (behind s (low + w) w lanes (omega (arith, l)))

tested : (s : Slot) (low below w v : ℕ) → low + below ≡ s.low
    → same_slot s (slot low w (Value v)) ≡ is_here s below w v
tested s low below w v e =
    let f : nat_eq s.low low ≡ nat_eq below 0 = elim (cases_Bool (nat_eq below 0)) [
      | inl t ↦ let z : below ≡ 0 = grind (arith, nat_tests, t) in let g : s.low ≡ low = omega (arith, e, z) in grind (arith, nat_tests, g, t)
      | inr n ↦ let z : 0 < below = grind (arith, nat_tests, n) in let g : low < s.low = omega (arith, e, z) in grind (arith, nat_tests, g, n)
    ] in
    rw f refl

pub found-here : (s : Slot) (low below w v : ℕ) (lanes : List (Option ℕ)) → low + below ≡ s.low
    → is_here s below w v ≡ true → list_any (same_slot s) (lanes_from low w (Some v ∷ lanes)) ≡ true
found-here s low below w v lanes e t = rw (tested s low below w v e, t) refl

pub not-here : (s : Slot) (low below w v : ℕ) (lanes : List (Option ℕ)) → low + below ≡ s.low
    → is_here s below w v ≡ false
    → list_any (same_slot s) (lanes_from low w (Some v ∷ lanes)) ≡ list_any (same_slot s) (lanes_from (low + w) w lanes)
not-here s low below w v lanes e t = rw (tested s low below w v e, t) refl

pub none-behind : (s : Slot) (low below w : ℕ) (lanes : List (Option ℕ)) → low + below ≡ s.low → below < w
    → list_any (same_slot s) (lanes_from (low + w) w lanes) ≡ false
none-behind s low below w lanes e l = behind s (low + w) w lanes (omega (arith, e, l))

-- from this bit on, with so much left below the slot, the lanes tell what they tell from bit 0 on
abbrev pub Tells : Slot → ℕ → ℕ → List (Option ℕ) → List (Option ℕ) → Type 0
Tells s below w rest lanes =
    (low : ℕ) × (low + below ≡ s.low)
    × (list_any (same_slot s) (lanes_from low w rest) ≡ list_any (same_slot s) (lanes_from 0 w lanes))

pub at-lane : (s : Slot) (low below w : ℕ) (lane : Option ℕ) (lanes : List (Option ℕ)) → low + below ≡ s.low
    → is_at_lane s below w lane ≡ true → list_any (same_slot s) (lanes_from low w (lane ∷ lanes)) ≡ true
at-lane s low below w None lanes e t = absurd (cc)
at-lane s low below w (Some v) lanes e t = found-here s low below w v lanes e t

pub not-at-lane : (s : Slot) (low below w : ℕ) (lane : Option ℕ) (lanes : List (Option ℕ)) → low + below ≡ s.low
    → is_at_lane s below w lane ≡ false
    → list_any (same_slot s) (lanes_from low w (lane ∷ lanes)) ≡ list_any (same_slot s) (lanes_from (low + w) w lanes)
not-at-lane s low below w None lanes e t = refl
not-at-lane s low below w (Some v) lanes e t = not-here s low below w v lanes e t

-- the loads and lanes that are left end at one that is not the slot and reaches past its lowest bit
pub ended-loads : (s : Slot) (below w k : ℕ) (us : List ℕ) → k < length us
    → Tells s below w (map Some (drop k us)) (map Some us) → is_here s below w (get_or us k 0) ≡ false
    → below < w → false ≡ list_any (same_slot s) (lanes_from 0 w (map Some us))
ended-loads s below w k us inside t f l =
    let v = get_or us k 0 in
    let rest = map Some (drop (k + 1) us) in
    let is : map Some (drop k us) ≡ Some v ∷ rest = ap (map Some) (drop_more us k 0 inside) in
    let low = t.0 in
    sym (sym t.2 ∙ ap (λ xs. list_any (same_slot s) (lanes_from low w xs)) is
    ∙ not-here s low below w v rest t.1 f ∙ none-behind s low below w rest t.1 l)

pub ended-lanes : (s : Slot) (below w k : ℕ) (lanes : List (Option ℕ)) → k < length lanes
    → Tells s below w (drop k lanes) lanes → is_at_lane s below w (get_or lanes k None) ≡ false
    → below < w → false ≡ list_any (same_slot s) (lanes_from 0 w lanes)
ended-lanes s below w k lanes inside t f l =
    let rest = drop (k + 1) lanes in
    let low = t.0 in
    sym (sym t.2 ∙ ap (λ xs. list_any (same_slot s) (lanes_from low w xs)) (drop_more lanes k None inside)
    ∙ not-at-lane s low below w (get_or lanes k None) rest t.1 f ∙ none-behind s low below w rest t.1 l)
