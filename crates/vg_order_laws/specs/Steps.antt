-- What a unit does to memory alone, where the numbers of all values are known beforehand: a load has to
-- read its own number, a store writes that of its operand, and an operation does nothing.
use Rattle.std.specs.Prelude.{◌≡◌, ℕ, ◌+◌, ℤ, pos, negsuc, Bool, true, false, List, [], ◌∷◌, length, Option, Some, None, nat_eq, nat_le, if◌then◌else◌}
use Rattle.std.specs.Option.{option_map_or}
use Rattle.vg_base.specs.Address.{place_of}
use Rattle.vg_base.specs.Bits.{number, bytes}
use Rattle.vg_base.specs.Memory.{loaded, stored}
use Rattle.vg_base.specs.Trap.{◌>>=◌}
use Rattle.vg_base.specs.Width.{bits_of, size_of}
use Rattle.vg_shapes.specs.declared.ssa.Ssa.{Ssa}
use Rattle.vg_shapes.specs.declared.ssa_unit.SsaUnit.{SsaUnit}
use Rattle.vg_shapes.specs.declared.ssa_unit.SsaUnit.TheVariants.{Load, Store, Operation}
use Rattle.vg_shapes.specs.Layout.{access_of}
use Rattle.vg_shapes.specs.Order.{numbers_from}
use Rattle.vg_shapes.specs.RunUnits.{number_of, result_of}
use Rattle.vg_shapes.specs.Units.{arguments, unit_at}

-- memory itself where so many bytes from there on are this number, else a trap
abbrev pub seen : List ℕ → ℤ → ℕ → ℕ → Option (List ℕ)
seen memory at size n =
    loaded memory at size >>= λ read. if nat_eq (number read) n then Some memory else None

abbrev pub work_step : List ℕ → (ℕ → ℕ) → ℕ → SsaUnit → List ℕ → Option (List ℕ)
work_step places numbers v (Load a w) memory =
    seen memory (place_of places a) (size_of w) (numbers v)
work_step places numbers v (Store a w x) memory =
    stored memory (place_of places a) (bytes (size_of w) (number_of numbers x))
work_step places numbers v (Operation op w k xs) memory = Some memory

abbrev pub step_of : Option SsaUnit → List ℕ → (ℕ → ℕ) → ℕ → List ℕ → Option (List ℕ)
step_of None places numbers v memory = Some memory
step_of (Some u) places numbers v memory = work_step places numbers v u memory

-- the same of the unit of a number
abbrev pub unit_step : Ssa → List ℕ → (ℕ → ℕ) → ℕ → List ℕ → Option (List ℕ)
unit_step ssa places numbers v memory = step_of (unit_at ssa v) places numbers v memory

-- the numbers of all units, rising
abbrev pub unit_numbers : Ssa → List ℕ
unit_numbers ssa = numbers_from (arguments ssa) (length ssa.units)

-- each operation has the number that it makes of those of its operands
abbrev pub HasNumber : (ℕ → ℕ) → ℕ → SsaUnit → Type 0
HasNumber numbers v (Load a w) = Unit {0}
HasNumber numbers v (Store a w x) = Unit {0}
HasNumber numbers v (Operation op w k xs) = numbers v ≡ result_of numbers op (bits_of w) k xs

abbrev pub HaveNumbers : (ℕ → ℕ) → ℕ → List SsaUnit → Type 0
HaveNumbers numbers v [] = Unit {0}
HaveNumbers numbers v (u ∷ us) = HasNumber numbers v u × HaveNumbers numbers (v + 1) us

-- whether so many bytes from there on lie inside a memory of this length
abbrev pub is_inside : ℕ → ℤ → ℕ → Bool
is_inside long (pos at) size = nat_le (at + size) long
is_inside long (negsuc at) size = false

-- whether a unit stays inside the memory
abbrev pub stays_inside : List ℕ → ℕ → SsaUnit → Bool
stays_inside places long u =
    option_map_or (λ a. is_inside long (place_of places a.address) a.size) (access_of u) true
