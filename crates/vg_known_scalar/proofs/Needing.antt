-- What stores and needed operations take is needed.
use Rattle.std.proofs.Common.{◌≡◌, ℕ, ◌+◌, Bool, true, List, [], ◌∷◌, ◌++◌, length, Option, Some, refl, sym, ap, subst, ◌∙◌, ◌⊎◌, inl, inr, arith, append_assoc, length-append}
use Rattle.std.specs.Prelude.{filter_map, nat_eq, ◌||◌}
use Rattle.std.specs.List.{cons_option}
use Rattle.std.specs.Option.{is_some}
use Rattle.std.proofs.lemmas.Bool.{cases_Bool}
use Rattle.std.proofs.lemmas.List.{length_push}
use Rattle.vg_base.specs.Trap.{◌>>=◌}
use Rattle.vg_plans.specs.World.{is_in}
use Rattle.vg_shapes.specs.declared.ssa.Ssa.{Ssa}
use Rattle.vg_shapes.specs.declared.ssa_unit.SsaUnit.{SsaUnit}
use Rattle.vg_shapes.specs.declared.ssa_unit.SsaUnit.TheVariants.{Load, Store, Operation}
use Rattle.vg_shapes.specs.declared.wanted.Wanted.{Wanted}
use Rattle.vg_shapes.specs.declared.wanted.Wanted.TheVariants.{Value, Constant, Nothing}
use Rattle.vg_shapes.specs.Layout.{access_at, access_of}
use Rattle.vg_shapes.specs.Order.{one_if, Stands}
use Rattle.vg_shapes.specs.Sound.{TakeEarlier}
use Rattle.vg_shapes.specs.Units.{arguments, unit_at}
use Rattle.vg_kernel_plans.specs.Packing.{falling_units, used_by}
use Rattle.vg_kernel_plans.specs.Wants.{value_of}
use Rattle.vg_order_laws.proofs.Runs.{unit-there}
use Rattle.vg_order_laws.proofs.Sequences.{counts-itself}
use Rattle.vg_emission.specs.Program.{needed_behind}
use Rattle.vg_emission.specs.Scalar.{is_needed}
use Rattle.vg_emission.proofs.Marks.{stands-in, used-needed}

abbrev pub IsNeeded : (ℕ → Bool) → Wanted → Type 0
IsNeeded needed (Value v) = needed v ≡ true
IsNeeded needed (Constant w n) = Unit {0}
IsNeeded needed Nothing = Unit {0}

abbrev pub UnitNeeds : (ℕ → Bool) → ℕ → SsaUnit → Type 0
UnitNeeds needed v (Load a w) = Unit {0}
UnitNeeds needed v (Store a w x) = IsNeeded needed x
UnitNeeds needed v (Operation op w k xs) = needed v ≡ true → IsNeeded needed xs.first × IsNeeded needed xs.second × IsNeeded needed xs.third

-- the same of units from a number on
abbrev pub AllNeed : (ℕ → Bool) → ℕ → List SsaUnit → Type 0
AllNeed needed v [] = Unit {0}
AllNeed needed v (u ∷ us) = UnitNeeds needed v u × AllNeed needed (v + 1) us

abbrev AllWanted : (ℕ → Bool) → List Wanted → Type 0
AllWanted needed [] = Unit {0}
AllWanted needed (w ∷ ws) = IsNeeded needed w × AllWanted needed ws

all-wanted : (needed : ℕ → Bool) (ws : List Wanted) → ((y : ℕ) → Stands y (filter_map value_of ws) → needed y ≡ true) → AllWanted needed ws
all-wanted needed [] f = tt
all-wanted needed (w ∷ ws) f = by w f (all-wanted needed ws)
  where
    by : (w : Wanted) → ((y : ℕ) → Stands y (cons_option (value_of w) (filter_map value_of ws)) → needed y ≡ true) → (((y : ℕ) → Stands y (filter_map value_of ws) → needed y ≡ true) → AllWanted needed ws) → IsNeeded needed w × AllWanted needed ws
    by (Value v) g rest = (g v (let one = counts-itself v in omega arith), rest (λ y s. g y (omega arith)))
    by (Constant m n) g rest = (tt, rest g)
    by Nothing g rest = (tt, rest g)

from-in : (v : ℕ) (ys : List ℕ) → is_in v ys ≡ true → Stands v ys
from-in v [] h = absurd (cc)
from-in v (y ∷ ys) h = elim (cases_Bool (nat_eq v y)) [
  | inl t ↦ (let one : one_if (nat_eq v y) ≡ 1 = ap one_if t in omega arith)
  | inr f ↦ (let rest = from-in v ys (sym (ap (λ b. b || is_in v ys) f) ∙ h) in omega arith)
]

-- what a store takes is needed, and what an operation takes that is needed
unit-needs : (ssa : Ssa) (done : List SsaUnit) (u : SsaUnit) (us : List SsaUnit) → TakeEarlier (arguments ssa) ssa.units → ssa.units ≡ done ++ u ∷ us → UnitNeeds (is_needed ssa) (arguments ssa + length done) u
unit-needs ssa done u us early whole = by u there
  where
    v : ℕ
    v = arguments ssa + length done

    there : unit_at ssa v ≡ Some u
    there = unit-there ssa done u us v whole refl

    used : (w : SsaUnit) → unit_at ssa v ≡ Some w → (is_some (access_of w) ≡ true) ⊎ (is_needed ssa v ≡ true) → (x : ℕ) → Stands x (used_by (Some w)) → is_needed ssa x ≡ true
    used w e emitted x s =
        let n = arguments ssa + length ssa.units in
        let size = ap length whole ∙ length-append done (u ∷ us) in
        let how : (is_some (access_at ssa v) ≡ true) ⊎ Stands v (needed_behind ssa [] [] (falling_units ssa)) = elim emitted [
          | inl a ↦ inl (ap (λ (o : Option SsaUnit). is_some (o >>= access_of)) e ∙ a)
          | inr m ↦ inr (from-in v (needed_behind ssa [] [] (falling_units ssa)) m)
        ] in
        stands-in x (needed_behind ssa [] [] (falling_units ssa))
        (used-needed ssa [] n [] v x early (omega (arith, size)) (ap is_some e) refl how (subst (λ o. Stands x (used_by o)) (sym e) s))

    by : (w : SsaUnit) → unit_at ssa v ≡ Some w → UnitNeeds (is_needed ssa) v w
    by (Load a w) e = tt
    by (Store a w x) e = (all-wanted (is_needed ssa) (x ∷ []) (used (Store a w x) e (inl refl))).0
    by (Operation op w k xs) e = λ is.
        let all = all-wanted (is_needed ssa) (xs.first ∷ xs.second ∷ xs.third ∷ []) (used (Operation op w k xs) e (inr is)) in
        (all.0, all.1.0, all.1.1.0)

pub all-need : (ssa : Ssa) (done us : List SsaUnit) (v : ℕ) → TakeEarlier (arguments ssa) ssa.units → ssa.units ≡ done ++ us → arguments ssa + length done ≡ v → AllNeed (is_needed ssa) v us
all-need ssa done [] v early whole at = tt
all-need ssa done (u ∷ us) v early whole at = (
  subst (λ n. UnitNeeds (is_needed ssa) n u) at (unit-needs ssa done u us early whole),
  all-need ssa (done ++ u ∷ []) us (v + 1) early (whole ∙ sym (append_assoc done (u ∷ []) us)) (let l = length_push done u in omega (arith, at, l)),
)
