-- A run of units traps exactly where one of them leaves the memory.
use Rattle.std.proofs.Common.{◌≡◌, ℕ, ◌+◌, ◌≤◌, ℤ, pos, negsuc, List, [], ◌∷◌, ◌++◌, length, take, drop, Bool, true, false, ◌&&◌, Option, Some, None, refl, ap, ◌∙◌, inl, inr, arith}
use Rattle.std.specs.Prelude.{nat_le, slice_index}
use Rattle.std.specs.List.{list_all}
use Rattle.std.specs.Option.{is_some}
use Rattle.std.proofs.lemmas.Bool.{cases_Bool, leb-true}
use Rattle.std.proofs.lemmas.List.{length-append, length-take-le, length-drop}
use Rattle.vg_base.specs.Trap.{◌>>=◌}
use Rattle.vg_base.specs.Address.{place_of}
use Rattle.vg_base.specs.Bits.{bytes}
use Rattle.vg_base.specs.Memory.{loaded, stored}
use Rattle.vg_base.specs.Width.{size_of}
use Rattle.vg_bits.proofs.ByteLists.{length-bytes}
use Rattle.vg_shapes.specs.declared.ssa_unit.SsaUnit.{SsaUnit}
use Rattle.vg_shapes.specs.declared.ssa_unit.SsaUnit.TheVariants.{Load, Store, Operation}
use Rattle.vg_shapes.specs.RunUnits.{number_of, Reached, run_units, unit_run}
use Rattle.vg_order_laws.specs.Laws.{RunsTrapOutside}
use Rattle.vg_order_laws.specs.Steps.{is_inside, stays_inside}

-- a step that traps where this is false, and else leaves a memory of this length
abbrev Steps : Option Reached → Bool → ℕ → Type 0
Steps None inside long = inside ≡ false
Steps (Some t) inside long = (inside ≡ true) × (length t.memory ≡ long)

loaded_steps : (memory : List ℕ) (z : ℤ) (size : ℕ) (f : List ℕ → Reached) → ((read : List ℕ) → length (f read).memory ≡ length memory) → Steps (loaded memory z size >>= λ read. Some (f read)) (is_inside (length memory) z size) (length memory)
loaded_steps memory (negsuc at) size f same = refl
loaded_steps memory (pos at) size f same = elim (cases_Bool (nat_le (at + size) (length memory))) [
  | inl inside ↦ rw inside (refl, same (take size (drop at memory)))
  | inr outside ↦ rw outside refl
]

length-stored : (at : ℕ) (new memory : List ℕ) → at + length new ≤ length memory → length (take at memory ++ new ++ drop (at + length new) memory) ≡ length memory
length-stored at new memory inside =
    omega (arith, inside, length-append (take at memory ++ new) (drop (at + length new) memory), length-append (take at memory) new, length-take-le at memory (omega (arith, inside)), length-drop (at + length new) memory)

stored_steps : (memory : List ℕ) (z : ℤ) (new : List ℕ) (size : ℕ) (f : List ℕ → Reached) → ((after : List ℕ) → (f after).memory ≡ after) → length new ≡ size → Steps (stored memory z new >>= λ after. Some (f after)) (is_inside (length memory) z size) (length memory)
stored_steps memory (negsuc at) new size f same long = refl
stored_steps memory (pos at) new size f same long = rw (← long) (elim (cases_Bool (nat_le (at + length new) (length memory))) [
  | inl inside ↦ rw inside (refl, ap length (same _) ∙ length-stored at new memory (leb-true (at + length new) (length memory) inside))
  | inr outside ↦ rw outside refl
])

unit_steps : (places : List ℕ) (u : SsaUnit) (r : Reached) → Steps (unit_run places u r) (stays_inside places (length r.memory) u) (length r.memory)
unit_steps places (Load a w) r = loaded_steps r.memory (place_of places a) (size_of w) _ (λ read. refl)
unit_steps places (Store a w x) r = stored_steps r.memory (place_of places a) (bytes (size_of w) (number_of (slice_index r.numbers) x)) (size_of w) _ (λ after. refl) (length-bytes (size_of w) (number_of (slice_index r.numbers) x))
unit_steps places (Operation op w k xs) r = (refl, refl)

-- a step and what follows it
behind_step : (places : List ℕ) (us : List SsaUnit) (long : ℕ) (o : Option Reached) (inside : Bool) → Steps o inside long → ((t : Reached) → is_some (run_units places us t) ≡ list_all (stays_inside places (length t.memory)) us) → is_some (o >>= run_units places us) ≡ (inside && list_all (stays_inside places long) us)
behind_step places us long None inside e others = rw e refl
behind_step places us long (Some t) inside e others = rw e.0 (others t ∙ ap (λ (n : ℕ). list_all (stays_inside places n) us) e.1)

pub runs-trap-outside : RunsTrapOutside
unfolding run_units
runs-trap-outside places [] r = refl
runs-trap-outside places (u ∷ us) r = behind_step places us (length r.memory) (unit_run places u r) (stays_inside places (length r.memory) u) (unit_steps places u r) (runs-trap-outside places us)
