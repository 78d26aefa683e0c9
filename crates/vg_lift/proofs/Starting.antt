-- An instance as it begins, and what it leaves in dst.
use Rattle.std.proofs.Common.{◌≡◌, ℕ, zero, suc, add-one, append_assoc, append-nil, ◌++◌, ◌+◌, ◌-◌, ◌<◌, ◌≤◌, refl, sym, ap, ◌∙◌, subst, arith, List, [], ◌∷◌, length, get_or, take}
use Rattle.std.specs.Prelude.{map}
use Rattle.vg_pool.specs.declared.content.Content.{Content}
use Rattle.vg_script.specs.Script.{Script}
use Rattle.vg_lift.specs.LaneTerm as lane
use Rattle.vg_lift.specs.LaneTerm.{begun, lifted, of_number, of_parameter, parameters_from}
use Rattle.vg_lift.specs.Passed.{AllPassedFit, all_passed, passed_of}
use Rattle.vg_lift.specs.States.{Begins, Leaves, state_of}
use Rattle.vg_lift.specs.Views.{BitsFit, bits_of}
use Rattle.vg_lift.specs.declared.bit.Bit.{Bit}
use Rattle.vg_lift.specs.declared.passed.Passed.{Passed}
use Rattle.vg_lift.specs.declared.passed.Passed.TheVariants.{Number, Parameter}
use Rattle.vg_lift.specs.declared.state.State.{State}
use Rattle.vg_lift.proofs.Begins.{passed_append, passed_behind}
use Rattle.vg_lift.proofs.Puts.{width_at}
use Rattle.vg_lift.proofs.StateSteps.{register_at}

-- ---- what is given

pub next_parameter : (pool : List Content) (p n : ℕ) (all : List Passed) → p < n
    → all_passed pool (all ++ Parameter p ∷ []) ++ parameters_from (p + 1) (n - (p + 1)) ≡ all_passed pool all ++ parameters_from p (n - p)
next_parameter pool p n all h =
    let m : n - p ≡ suc (n - (p + 1)) = omega arith in
    ap (λ l. l ++ parameters_from (p + 1) (n - (p + 1))) (passed_append pool all (Parameter p ∷ []))
    ∙ append_assoc (all_passed pool all) (of_parameter p ∷ []) (parameters_from (p + 1) (n - (p + 1)))
    ∙ ap (λ k. all_passed pool all ++ (of_parameter p ∷ parameters_from k (n - (p + 1)))) (add-one p)
    ∙ ap (λ k. all_passed pool all ++ parameters_from p k) (sym m)

pub no_parameter : (pool : List Content) (p n : ℕ) (all : List Passed) → n ≤ p → all_passed pool all ++ parameters_from p (n - p) ≡ all_passed pool all
no_parameter pool p n all h =
    let m : n - p ≡ 0 = omega arith in
    ap (λ k. all_passed pool all ++ parameters_from p k) m ∙ append-nil (all_passed pool all)

pub parameter_fits : (pool : List Content) (p : ℕ) (all : List Passed) → AllPassedFit pool all → AllPassedFit pool (all ++ Parameter p ∷ [])
parameter_fits pool p all h = passed_behind pool all (Parameter p) h tt

take_passed : (pool : List Content) (n : ℕ) (ps : List Passed) → all_passed pool (take n ps) ≡ take n (all_passed pool ps)
take_passed pool zero ps = refl
take_passed pool (suc n) [] = refl
take_passed pool (suc n) (p ∷ ps) = ap (λ l. passed_of pool p ∷ l) (take_passed pool n ps)

take_passed_fit : (pool : List Content) (n : ℕ) (ps : List Passed) → AllPassedFit pool ps → AllPassedFit pool (take n ps)
take_passed_fit pool zero ps h = tt
take_passed_fit pool (suc n) [] h = tt
take_passed_fit pool (suc n) (p ∷ ps) h = (h.0, take_passed_fit pool n ps h.1)

-- the parameters, and after them the immediate
pub first_of : (pool : List Content) (n imm : ℕ) (all : List Passed) (gs : List lane.Passed) → all_passed pool all ≡ gs
    → all_passed pool (take n (all ++ Number imm ∷ [])) ≡ take n (gs ++ of_number imm ∷ [])
first_of pool n imm all gs e =
    take_passed pool n (all ++ Number imm ∷ [])
    ∙ ap (take n) (passed_append pool all (Number imm ∷ []) ∙ ap (λ l. l ++ of_number imm ∷ []) e)

pub first_fit : (pool : List Content) (n imm : ℕ) (all : List Passed) → AllPassedFit pool all → AllPassedFit pool (take n (all ++ Number imm ∷ []))
first_fit pool n imm all h = take_passed_fit pool n (all ++ Number imm ∷ []) (passed_behind pool all (Number imm) h tt)

-- ---- what is left

bits_in : (pool : List Content) (rs : List (List Bit)) (i : ℕ) → get_or (map (bits_of pool) rs) i [] ≡ bits_of pool (get_or rs i [])
bits_in pool [] i = refl
bits_in pool (r ∷ rs) zero = refl
bits_in pool (r ∷ rs) (suc i) = bits_in pool rs i

-- the bits of a register after the statements of a body
pub left_in_dst : (now new : List Content) (ws : List ℕ) (own left : State) (p : lane.State) (t : Script) (i : ℕ) (bits : List Bit) → Begins now ws own p
    → Leaves new own left (lifted t (state_of now own)) → bits ≡ get_or left.registers.items i []
    → bits_of new bits ≡ get_or (lifted t p).registers i []
left_in_dst now new ws own left p t i bits b l e =
    ap (bits_of new) e
    ∙ sym (bits_in new left.registers.items i)
    ∙ ap (λ (s : lane.State). get_or s.registers i []) (l.is ∙ ap (lifted t) b.is)

pub dst_fits : (new : List Content) (own left : State) (p : lane.State) (i : ℕ) (bits : List Bit) → Leaves new own left p → bits ≡ get_or left.registers.items i [] → BitsFit new bits
dst_fits new own left p i bits l e = subst (BitsFit new) (sym e) (register_at new left.registers.items i (l.fits).registers)

pub dst_width : (now new : List Content) (ws : List ℕ) (own left : State) (p q : lane.State) (i : ℕ) (bits : List Bit) → Begins now ws own p → Leaves new own left q
    → bits ≡ get_or left.registers.items i [] → length bits ≡ get_or ws i 0
dst_width now new ws own left p q i bits b l e =
    ap (λ (r : List Bit). length r) e ∙ sym (width_at left i) ∙ ap (λ v. get_or v i 0) (l.widths ∙ b.widths_are)
