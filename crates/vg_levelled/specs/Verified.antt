-- What a comparison of a kernel and a program with their loads more tells.
use Rattle.std.specs.Prelude.{◌≡◌, List}
use Rattle.vg_program.specs.declared.program.Program.{Program}
use Rattle.vg_program.specs.Valid.{KeepsRules}
use Rattle.vg_shapes.specs.declared.ssa.Ssa.{Ssa}
use Rattle.vg_catalog.specs.Called.{called_by, headers_of}
use Rattle.vg_catalog.specs.Entries.{Entry}
use Rattle.vg_emission.specs.Laws.{MeansUnits}
use Rattle.vg_verify.specs.declared.verdict.Verdict.{Verdict}
use Rattle.vg_verify.specs.declared.verdict.Verdict.TheVariants.{Same}
use Rattle.vg_verify.specs.Heads.{HasHead}
use Rattle.vg_verify.specs.Verdicts.{verdict_of}
use Rattle.vg_levelled.specs.Levelled.{levelled_difference}

-- It is the first wider difference of the two. Where there is none, a valid program means the units of the
-- kernel, each call giving what its entry means, and it has the kernel's name and parameters.
pub record IsVerified (entries : List Entry) (ssa : Ssa) (p : Program) (v : Verdict) : Type 0 where
  pub exact : verdict_of v ≡ levelled_difference entries ssa p
  pub same :
      v ≡ Same → KeepsRules (headers_of entries) p → MeansUnits (called_by entries) p ssa
  pub head : v ≡ Same → HasHead ssa p
