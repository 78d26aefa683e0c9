-- Tables, constants and walks on the way.
use Rattle.std.specs.Prelude.{◌≡◌, ℕ, ◌-◌, ◌*◌, List, ◌++◌, length, drop}
use Rattle.vg_base.specs.Bits.{bits_of_bytes, num}
use Rattle.vg_terms.specs.Term.{Tree}
use Rattle.vg_shapes.specs.declared.ssa_unit.SsaUnit.{SsaUnit}
use Rattle.vg_known.specs.Kernels.{reads_from}
use Rattle.vg_lift.specs.Gather.{Bit}
use Rattle.vg_lift.specs.LaneTerm.{pieces}
use Rattle.vg_program.specs.declared.line.Line.{Line}
use Rattle.vg_known.specs.Known.{Given, Known, know_all}
use Rattle.vg_forms.specs.declared.run.Run.{Run}
use Rattle.vg_forms.specs.Runs.{bits_in}
use Rattle.vg_verify.specs.Finding.{HasFirst}
use Rattle.vg_verify.specs.Views.{pairs_in}

-- the table has what stands first among the pairs that were noted, and the others are left
pub record Noting (table : List (ℕ × List Run)) (rest all : List (ℕ × List Bit)) : Type 0 where
  pub done : List (ℕ × List Bit)
  pub has : HasFirst table done
  pub is : done ++ rest ≡ all

-- the runs are those of so many pieces of a constant
pub record Pieced (bytes : List ℕ) (runs : List Run) (q : ℕ) : Type 0 where
  pub is : bits_in runs ++ pieces (8 * length bytes) (num (bits_of_bytes bytes)) (q * 64) (8 * length bytes - q * 64)
      ≡ pieces (8 * length bytes) (num (bits_of_bytes bytes)) 0 (8 * length bytes)

-- what is known before the line at a place, and the other lines leave the same as all
pub record Walked (g : Given) (lines : List Line) (events : List (List ℕ)) (place : ℕ) (k all : Known) : Type 0 where
  pub is : know_all g (drop place lines) (drop place events) k ≡ all

-- these are the reads of the units before a place, and the first event after them has this number
pub record ReadSoFar
    (units : List SsaUnit) (terms : List Tree) (place first : ℕ) (reads : List (ℕ × List Run))
    : Type 0 where
  pub is : pairs_in reads ++ reads_from first (drop place units) (drop place terms) ≡ reads_from 0 units terms
