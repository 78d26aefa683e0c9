-- The stores of a kernel against what a program stores in their places, unit by unit.
use Rattle.std.specs.Prelude.{◌≡◌, ℕ, ◌+◌, Bool, List, [], ◌∷◌, map, length, drop, Option, Some, None, if◌then◌else◌}
use Rattle.std.specs.Option.{option_or}
use Rattle.vg_base.specs.Trap.{◌>>=◌}
use Rattle.vg_terms.specs.Term.{Tree}
use Rattle.vg_lift.specs.Gather.{Bit}
use Rattle.vg_shapes.specs.declared.ssa.Ssa.{Ssa}
use Rattle.vg_shapes.specs.declared.ssa_unit.SsaUnit.{SsaUnit}
use Rattle.vg_shapes.specs.Layout.{access_of}
use Rattle.vg_shapes.specs.Order.{numbers_from}
use Rattle.vg_events.specs.Events.{labels_in}
use Rattle.vg_known.specs.Cuts.{gathered}
use Rattle.vg_known.specs.Difference.{Difference, Equality, first_of, own_term, Sides, unit_numbers, value, value_by}
use Rattle.vg_known.specs.Kernels.{bits_at}
use Rattle.vg_known.specs.Known.{event_bits}
use Rattle.vg_known.specs.WiderDifference.{equality}
use Rattle.vg_verify.specs.declared.comparer.Comparer.{Comparer}
use Rattle.vg_verify.specs.Comparers.{IsStill}

-- the terms of a kernel's values, the terms that were met, and the bits of the events that are stored
abbrev pub compared : List Tree → List Tree → List (ℕ × List Bit) → Sides
compared terms met puts = record {
  terms = terms;
  known = record { scalars = []; vectors = []; met = met; puts = puts };
}

-- how many events a unit has
abbrev pub event_count : SsaUnit → ℕ
event_count u = length (labels_in (access_of u))

-- the term of what is stored by these events
abbrev pub put_from : Sides → List ℕ → Tree
put_from s es = gathered s.known.met (event_bits (bits_at s.known.puts) es)

-- a store with two terms, unless they count as equal
abbrev pub told : Bool → ℕ → Tree → Tree → Option Difference
told same v own put = if same then None else Some (value v own put)

-- the same by the terms that were met
abbrev pub told_by : Equality → Sides → ℕ → Tree → Tree → Option Difference
told_by equal s v own put = told (equal s.known.met own put) v own put

-- of the unit of this number, of which the first event has this number
abbrev pub unit_value : Equality → Sides → ℕ → ℕ → SsaUnit → Option Difference
unit_value equal s v f u =
    own_term s u >>= λ own. told_by equal s v own (put_from s (numbers_from f (event_count u)))

-- of the first of these units that has one
abbrev pub values_from : Equality → Sides → ℕ → ℕ → List SsaUnit → Option Difference
values_from equal s v f [] = None
values_from equal s v f (u ∷ us) =
    option_or (unit_value equal s v f u) (values_from equal s (v + 1) (f + event_count u) us)

-- the least store whose two terms differ
abbrev pub first_value : Equality → Sides → Ssa → Option Difference
first_value equal s ssa = first_of (map (value_by equal s ssa) (unit_numbers ssa))

-- The units before a place have no difference: what is found after them is what is found of all. The
-- unit there has this number, its first event that one, and no more terms were met.
pub record Compared
    (old now : Comparer) (terms : List Tree) (puts : List (ℕ × List Bit)) (units : List SsaUnit)
    (place v f : ℕ) (all : Option Difference)
    : Type 0 where
  pub still : IsStill old now
  pub is :
      values_from (equality old.more) (compared terms old.maker.classes puts) v f (drop place units)
      ≡ all
