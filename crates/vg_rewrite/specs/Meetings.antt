-- How far behind an access the first one stands that may meet it.
use Rattle.std.specs.Prelude.{ℕ, not, Bool, List, [], ◌∷◌, length, Option, Some, None}
use Rattle.std.specs.List.{prefix_len}
use Rattle.vg_shapes.specs.declared.access.Access.{Access}
use Rattle.vg_shapes.specs.declared.ssa.Ssa.{Ssa}
use Rattle.vg_shapes.specs.declared.ssa_unit.SsaUnit.{SsaUnit}
use Rattle.vg_shapes.specs.Depends.{conflict_of}
use Rattle.vg_shapes.specs.Layout.{access_of, noalias_flags}

-- of units behind an access, how many there are before the first that may meet it
abbrev pub units_apart : List Bool → Option Access → List SsaUnit → ℕ
units_apart flags None us = length us
units_apart flags (Some x) us =
    prefix_len (λ u. not (conflict_of flags (Some x) (access_of u))) us

-- the same of each unit
abbrev pub reaches_from : List Bool → List SsaUnit → List ℕ
reaches_from flags [] = []
reaches_from flags (u ∷ us) = units_apart flags (access_of u) us ∷ reaches_from flags us

abbrev pub reaches_of : Ssa → List ℕ
reaches_of ssa = reaches_from (noalias_flags ssa) ssa.units
