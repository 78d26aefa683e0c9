-- The immediates of an entry, and the register that has one.
use Rattle.std.specs.Prelude.{ℕ, ◌<◌, nat_eq, nat_le, Bool, true, false, ◌&&◌, Option, Some, None, if◌then◌else◌}
use Rattle.vg_pseudo.specs.declared.header.ImmRange.{ImmRange}

-- the immediate, where the next register is the one before dst
unfoldable pub first_imm : ℕ → Option ℕ → Option ℕ
first_imm place imm = if nat_eq place 1 then imm else None

-- Whether an entry has an instance for this: a number of its range, or none where it has no
-- immediate.
abbrev pub has_instance : Option ImmRange → Option ℕ → Bool
has_instance None None = true
has_instance None (Some n) = false
has_instance (Some i) None = false
has_instance (Some i) (Some n) = nat_le i.lo n && nat_le n i.hi

-- what stands for an immediate: nothing where the entry has none
abbrev pub immediate_of : Option ImmRange → ℕ → Option ℕ
immediate_of None imm = None
immediate_of (Some i) imm = Some imm

-- numbers of a byte
abbrev pub IsByte : Option ℕ → Type 0
IsByte None = Unit {0}
IsByte (Some n) = n < 256
