-- The laws on what is levelled: it means what was given, and is valid where that is.
use Rattle.std.specs.Prelude.{◌≡◌, ◌++◌, List, true}
use Rattle.vg_program.specs.declared.program.Program.{Program}
use Rattle.vg_program.specs.Meaning.{Instructions}
use Rattle.vg_program.specs.Valid.{KeepsRules}
use Rattle.vg_pseudo.specs.declared.header.Header.{Header}
use Rattle.vg_shapes.specs.declared.ssa.Ssa.{Ssa}
use Rattle.vg_shapes.specs.Sound.{IsSound}
use Rattle.vg_emission.specs.Laws.{MeansUnits}
use Rattle.vg_rewrite.specs.Rewritten.{over}
use Rattle.vg_ssa.specs.OfUnits.{CanBeNumbered}
use Rattle.vg_levelled.specs.Levelled.{added, fits, levelled, with_added}

-- where the levelled program means the levelled units, the program means the units
abbrev pub LevelledMeans : Type 0
LevelledMeans =
    (called : Instructions) (ssa : Ssa) (p : Program) →
    MeansUnits called (levelled ssa p).program (levelled ssa p).ssa → MeansUnits called p ssa

-- what is added to sound units can be numbered
abbrev pub AddedCanBeNumbered : Type 0
AddedCanBeNumbered =
    (ssa : Ssa) (p : Program) → IsSound ssa → fits ssa p (added ssa p) ≡ true →
    CanBeNumbered (over ssa (ssa.units ++ (added ssa p).units))

-- a valid program stays valid
abbrev pub AddedKeepsRules : Type 0
AddedKeepsRules =
    (headers : List Header) (ssa : Ssa) (p : Program) → KeepsRules headers p → fits ssa p (added ssa p) ≡ true →
    KeepsRules headers (with_added ssa p (added ssa p)).program
