-- How a run ended, against what was to come of it.
use Rattle.std.specs.Prelude.{◌≡◌, Option, Some, None}
use Rattle.vg_bits.specs.declared.outcome.Outcome.{Outcome}
use Rattle.vg_bits.specs.declared.outcome.Outcome.TheVariants.{Done, Trap}

-- Done leaves exactly what was to come, and Trap answers exactly a trap, whatever it leaves.
abbrev pub Leaves : {A : Type 0} → Outcome → A → Option A → Type 0
Leaves Done after expected = expected ≡ Some after
Leaves Trap after expected = expected ≡ None
