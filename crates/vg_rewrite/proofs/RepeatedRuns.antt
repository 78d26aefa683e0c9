-- The repeated units run as the given ones do.
use Rattle.std.proofs.Common.{◌≡◌, ℕ, false, List, length, Option, Some, None, refl, sym, ap, ◌∙◌, inl, inr}
use Rattle.std.specs.List.{list_all}
use Rattle.std.specs.Option.{is_some}
use Rattle.std.proofs.lemmas.Bool.{cases_Bool, true≢false}
use Rattle.vg_base.specs.Trap.{◌>>=◌}
use Rattle.vg_order_laws.specs.Steps.{stays_inside}
use Rattle.vg_order_laws.proofs.Traps.{runs-trap-outside}
use Rattle.vg_rewrite.specs.Repeated.{repeated_units}
use Rattle.vg_rewrite.specs.Running.{memory_behind, RepeatedUnitsRunAlike}
use Rattle.vg_rewrite.proofs.Covering.{given-pass}
use Rattle.vg_rewrite.proofs.Rereading.{all-from, begun, repeated-run}
use Rattle.vg_shapes.specs.declared.ssa.Ssa.{Ssa}
use Rattle.vg_shapes.specs.Layout.{Respects}
use Rattle.vg_shapes.specs.RunUnits.{Reached, run_units, start_of}
use Rattle.vg_shapes.specs.Sound.{TakeEarlier}
use Rattle.vg_shapes.specs.Units.{arguments}

none-some : {A : Type 0} (o : Option A) → is_some o ≡ false → o ≡ None
none-some None e = refl
none-some (Some x) e = absurd (true≢false e)

-- where a given unit leaves the memory, a repeated one does
repeated-traps : (ssa : Ssa) (places memory args : List ℕ) → run_units places ssa.units (start_of memory args) ≡ None → run_units places (repeated_units ssa) (start_of memory args) ≡ None
repeated-traps ssa places memory args trap =
    let start = start_of memory args in
    let p = stays_inside places (length memory) in
    elim (cases_Bool (list_all p (repeated_units ssa))) [
      | inr c ↦ none-some (run_units places (repeated_units ssa) start) (runs-trap-outside places (repeated_units ssa) start ∙ c)
      | inl c ↦
          let all = given-pass ssa p (λ a w x y. refl) (λ op w k xs. refl) (begun ssa) (all-from ssa) c in
          absurd (true≢false (sym all ∙ sym (runs-trap-outside places ssa.units start) ∙ ap is_some trap))
    ]

pub repeated-alike : (ssa : Ssa) (places memory args : List ℕ) → TakeEarlier (arguments ssa) ssa.units → length args ≡ arguments ssa → Respects ssa places → memory_behind places (repeated_units ssa) memory args ≡ memory_behind places ssa.units memory args
repeated-alike ssa places memory args earlier long respects = by (run_units places ssa.units (start_of memory args)) refl
  where
    by : (o : Option Reached) → run_units places ssa.units (start_of memory args) ≡ o → memory_behind places (repeated_units ssa) memory args ≡ memory_behind places ssa.units memory args
    by None e = ap (λ o. o >>= λ r. Some r.memory) (repeated-traps ssa places memory args e ∙ sym e)
    by (Some t) e = repeated-run ssa places memory args t respects earlier long e ∙ sym (ap (λ o. o >>= λ r. Some r.memory) e)

pub repeated-units_run_alike : RepeatedUnitsRunAlike
repeated-units_run_alike ssa places memory args sound long respects = repeated-alike ssa places memory args sound.earlier long respects
