-- What emitted programs mean.
use Rattle.std.specs.Prelude.{◌≡◌, ℕ, List, slice_index, Some}
use Rattle.vg_base.specs.Trap.{◌>>=◌}
use Rattle.vg_bits.specs.BitList.{IsBytes}
use Rattle.vg_program.specs.declared.program.Program.{Program}
use Rattle.vg_program.specs.Meaning.{Instructions, meaning}
use Rattle.vg_shapes.specs.declared.match_table.Match.{Match}
use Rattle.vg_shapes.specs.declared.order.Node.{Node}
use Rattle.vg_shapes.specs.declared.pack.Pack.{Pack}
use Rattle.vg_shapes.specs.declared.ssa.Ssa.{Ssa}
use Rattle.vg_shapes.specs.Description.{Description}
use Rattle.vg_shapes.specs.Layout.{Respects}
use Rattle.vg_shapes.specs.Nodes.{IsOrder}
use Rattle.vg_shapes.specs.RunUnits.{Reached, run_units, start_of}
use Rattle.vg_shapes.specs.Sound.{AreArguments}
use Rattle.vg_shapes.specs.Units.{integers}
use Rattle.vg_kernel_plans.specs.declared.recipe.Recipe.{Recipe}
use Rattle.vg_emission.specs.Emission.{Job}
use Rattle.vg_emission.specs.Planned.{IsPlanned}
use Rattle.vg_emission.specs.Program.{job_of, program_of}
use Rattle.vg_emission.specs.Promises.{KeepPromises}

-- The units of a kernel, run on these places from a memory of bytes and with arguments in their
-- widths, come to an end without a trap.
pub record IsRun (ssa : Ssa) (places memory args : List ℕ) (last : Reached) : Type 0 where
  pub bytes : IsBytes memory
  pub arguments : AreArguments (integers ssa) args
  pub runs : run_units places ssa.units (start_of memory args) ≡ Some last

-- recipes and calls keep their promises with the numbers that any run of the units gives the values
abbrev pub AlwaysKeep : Job → Instructions → Type 0
AlwaysKeep j called =
    (places memory args : List ℕ) (last : Reached) → IsRun j.ssa places memory args last →
    KeepPromises j called (slice_index last.numbers)

-- In each layout that respects noalias, from each memory of bytes and with all arguments in their
-- widths, a program leaves the memory that the units leave, or traps where they do.
abbrev pub MeansUnits : Instructions → Program → Ssa → Type 0
MeansUnits called p ssa =
    (memory places args : List ℕ) →
    IsBytes memory → AreArguments (integers ssa) args → Respects ssa places →
    meaning called p memory places args
    ≡ (run_units places ssa.units (start_of memory args) >>= λ last. Some last.memory)

-- The program that is emitted for the packs of a sound kernel in any legal order means its units,
-- where calls give this and recipes and calls keep their promises.
abbrev pub EmittedMeansUnits : Type 0
EmittedMeansUnits =
    (called : Instructions) (ds : List Description) (matches : List Match) (ssa : Ssa)
    (packs : List Pack) (recipes : List Recipe) (order : List Node) →
    IsPlanned (job_of ds matches ssa packs recipes) → IsOrder ssa matches packs order →
    AlwaysKeep (job_of ds matches ssa packs recipes) called →
    MeansUnits called (program_of ds matches ssa packs recipes order) ssa
