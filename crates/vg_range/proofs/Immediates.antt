-- Immediates one after the other, and where they stand among the registers.
use Rattle.std.proofs.Common.{◌≡◌, ℕ, zero, suc, ◌+◌, ◌-◌, ◌<◌, ◌≤◌, ◌∙◌, refl, ap, List, [], ◌∷◌, Ok, arith, false, ◌++◌, sym, length, take, drop, append_assoc}
use Rattle.std.specs.Prelude.{nat_eq, Option, Some, None}
use Rattle.std.proofs.lemmas.Bool.{ne_eqb}
use Rattle.std.proofs.lemmas.List.{take_all}
use Rattle.vg_base.specs.Gives.{FailsBy}
use Rattle.vg_base.proofs.Gives.{fails_bind}
use Rattle.vg_pseudo.specs.Resolved.{Resolved}
use Rattle.vg_pseudo.specs.declared.header.Header.{Header}
use Rattle.vg_pseudo.specs.Tree.{Operation}
use Rattle.vg_interval.specs.declared.fault.RangeFault.{RangeFault}
use Rattle.vg_interval.specs.declared.fault.RangeFault.TheVariants.{UnknownName, IndexOutside, DynamicIndex, TooWide, TooLong, BadExtend, BareRegister, Memory}
use Rattle.vg_interval.specs.Views.{told}
use Rattle.vg_range.specs.Acceptance.{checked, judged_from}
use Rattle.vg_range.specs.Checks.{IsFirst}
use Rattle.vg_range.specs.Immediates.{first_imm}
use Rattle.vg_range.specs.Walk.{WalkState, imm_constant, instance_at}

none_before : (imm other : Option ℕ) (ws : List ℕ) → imm_constant zero imm ws ≡ imm_constant zero other ws
none_before imm other [] = refl
none_before imm other (w ∷ ws) = ap (λ t. None ∷ t) (none_before imm other ws)

pub imm_first : (k : ℕ) (imm : Option ℕ) (w : ℕ) (ws : List ℕ)
    → imm_constant k imm (w ∷ ws) ≡ first_imm k imm ∷ imm_constant (k - 1) imm ws
unfolding first_imm
imm_first zero imm w ws = refl
imm_first (suc zero) imm w ws = ap (λ t. imm ∷ t) (none_before None imm ws)
imm_first (suc (suc k)) imm w ws =
    let place : suc (suc k) - 1 ≡ suc k = omega arith in
    let other : nat_eq (suc (suc k)) 1 ≡ false = ne_eqb (suc (suc k)) 1 (λ e. omega (arith, e)) in
    rw (place, other) refl

pub imm_step : (done new : List (Option ℕ)) (imm x : Option ℕ) (k j : ℕ) (ws : List ℕ) → 1 ≤ length ws → new ≡ done ++ x ∷ [] → x ≡ first_imm k imm → j ≡ k - 1
    → new ++ imm_constant j imm (take (length ws - 1) (drop 1 ws)) ≡ done ++ imm_constant k imm ws
imm_step done new imm x k j [] h p q e = absurd (omega (arith, h))
imm_step done new imm x k j (w ∷ ws) h p q e =
    let left : take (length (w ∷ ws) - 1) ws ≡ ws = take_all (length (w ∷ ws) - 1) ws (omega arith) in
    rw (left, p, q, e) (append_assoc done (first_imm k imm ∷ []) (imm_constant (k - 1) imm ws) ∙ ap (λ t. done ++ t) (sym (imm_first k imm w ws)))

-- where no immediate is left
pub judged_done : (r : Resolved) (imm step count : ℕ) → count ≤ step → judged_from r imm (count - step) ≡ Ok r
unfolding judged_from
judged_done r imm step count h =
    let none : count - step ≡ 0 = omega (arith, h) in ap (judged_from r imm) none

-- after the first immediate
judged_next : (r : Resolved) (imm n : ℕ) (w : WalkState) → 0 < n → instance_at false r (Some imm) ≡ Ok w
    → judged_from r (imm + 1) (n - 1) ≡ judged_from r imm n
unfolding judged_from
judged_next r imm zero w h e = absurd (omega (arith, h))
judged_next r imm (suc n) w h e =
    let back : suc n - 1 ≡ n = omega arith in rw (back, e) refl

pub judged_step : (r : Resolved) (lo step count : ℕ) (w : WalkState) → step < count → instance_at false r (Some (lo + step)) ≡ Ok w
    → judged_from r (lo + (step + 1)) (count - (step + 1)) ≡ judged_from r (lo + step) (count - step)
judged_step r lo step count w h e =
    let imm : lo + (step + 1) ≡ lo + step + 1 = omega arith in
    let left : count - (step + 1) ≡ count - step - 1 = omega arith in
    (λ i. judged_from r (imm i) (left i)) ∙ judged_next r (lo + step) (count - step) w (omega (arith, h)) e

-- the first immediate has a fault
pub judged_fails : (r : Resolved) (imm n : ℕ) (fault : Option RangeFault) → 0 < n
    → FailsBy fault (instance_at false r (Some imm)) → FailsBy fault (judged_from r imm n)
unfolding judged_from
judged_fails r imm zero fault h e = absurd (omega (arith, h))
judged_fails r imm (suc n) fault h e = fails_bind fault (instance_at false r (Some imm)) (λ w. judged_from r (imm + 1) n) e

-- the fault that is told is the first
pub first_fault : (h : Header) (o : Operation) (fault : RangeFault) → FailsBy (told fault) (checked h o) → IsFirst h o fault
first_fault h o (UnknownName p) e = e
first_fault h o (IndexOutside p) e = e
first_fault h o (DynamicIndex p) e = e
first_fault h o (TooWide p) e = e
first_fault h o (TooLong p) e = e
first_fault h o (BadExtend p) e = e
first_fault h o (BareRegister p) e = e
first_fault h o (Memory a) e = tt
