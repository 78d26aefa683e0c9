-- The line on the trial of a number.
use Rattle.std.specs.Prelude.{◌≡◌, false, ℕ, ◌%◌, ◌^◌, List, [], ◌++◌, length, Some, Ok, codes, sum}
use Rattle.std.specs.Fmt.{decimal}
use Rattle.vg_catalog.specs.Called.{called_by}
use Rattle.vg_catalog.specs.Entries.{Entry}
use Rattle.vg_catalog.specs.Extensions.{all_extensions}
use Rattle.vg_compile.specs.Compiled.{IsCompiled}
use Rattle.vg_kernel.specs.Cost.{scalar_cost}
use Rattle.vg_kernel.specs.Meaning as of_kernels
use Rattle.vg_kernel.specs.Statements.{kernel_of}
use Rattle.vg_kernel.specs.Tree.{Tree}
use Rattle.vg_program.specs.declared.program.Program.{Program}
use Rattle.vg_program.specs.Cost.{cost_of}
use Rattle.vg_program.specs.Meaning as of_programs
use Rattle.vg_trial.specs.Trial.{kernel_text, memory}
use Rattle.vg_trial.specs.TrialKernel.{places}

-- how many plans of each size the search keeps
abbrev pub width : ℕ
width = 32

-- `trial 0: statements 4 scalar 16 cost 4 sum 10680`
abbrev pub trial_text : ℕ → ℕ → ℕ → ℕ → ℕ → List ℕ
trial_text number statements scalar cost sum =
    (codes "trial " ++ decimal number) ++ (codes ": statements " ++ decimal statements)
    ++ (codes " scalar " ++ decimal scalar) ++ (codes " cost " ++ decimal cost)
    ++ (codes " sum " ++ decimal sum) ++ codes "\n"

-- The line on the trial of number n: the statements and the scalar cost of the kernel that its text
-- spells, the cost of a program compiled for it with all extensions, and the sum of the bytes that
-- both leave of the trial's memory. The program costs at most what the kernel does, and exactly what
-- the chosen plan costs.
pub record IsTrialLine (entries : List Entry) (n : ℕ) (text : List ℕ) : Type 0 where
  pub kernel : Tree
  pub spelled : kernel_of (kernel_text n) ≡ Ok kernel
  pub program : Program
  pub compiled : IsCompiled entries all_extensions kernel width false program
  pub left : List ℕ
  pub by_kernel : of_kernels.meaning kernel (memory n) (places n) [] ≡ Some left
  pub by_program :
      of_programs.meaning (called_by entries) program (memory n) (places n) [] ≡ Some left
  pub line : text ≡ trial_text n (length kernel.statements) (scalar_cost kernel)
      (cost_of program) (sum left % 2 ^ 32)
