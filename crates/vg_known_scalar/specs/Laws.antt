-- The law on the scalar program of a kernel: it has no difference to the kernel.
use Rattle.std.specs.Prelude.{◌≡◌, List, None}
use Rattle.vg_shapes.specs.declared.ssa.Ssa.{Ssa}
use Rattle.vg_shapes.specs.Sound.{IsSound}
use Rattle.vg_emission.specs.Scalar.{scalar_program}
use Rattle.vg_catalog.specs.Entries.{Entry}
use Rattle.vg_known.specs.Difference.{difference}

-- whatever instances there are
abbrev pub ScalarProgramsAreSame : Type 0
ScalarProgramsAreSame =
    (entries : List Entry) (ssa : Ssa) → IsSound ssa →
    difference entries ssa (scalar_program ssa) ≡ None
