-- The immediates for which an entry has instances.
use Rattle.std.specs.Prelude.{ℕ, ◌-◌, ◌+◌, List, Option, Some, None}
use Rattle.vg_pseudo.specs.declared.header.ImmRange.{ImmRange}
use Rattle.vg_shapes.specs.Order.{numbers_from}

-- the immediates of an entry, rising; 0 alone where it has none, where no operation reads it
abbrev pub immediates_of : Option ImmRange → List ℕ
immediates_of None = numbers_from 0 1
immediates_of (Some range) = numbers_from range.lo (range.hi + 1 - range.lo)
