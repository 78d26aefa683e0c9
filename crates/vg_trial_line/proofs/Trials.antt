-- What the line on a trial tells.
use Rattle.std.proofs.Common.{◌≡◌, false, ◌%◌, ◌^◌, ℕ, List, [], length, Some, Ok, sum, sym, ◌∙◌, ap, subst}
use Rattle.vg_catalog.specs.Called.{called_by}
use Rattle.vg_catalog.specs.Entries.{Entry}
use Rattle.vg_catalog.specs.Extensions.{all_extensions}
use Rattle.vg_compile.specs.Compiled.{IsCompiled}
use Rattle.vg_kernel.specs.Cost.{scalar_cost}
use Rattle.vg_kernel.specs.Meaning as of_kernels
use Rattle.vg_kernel.specs.Statements.{kernel_of}
use Rattle.vg_kernel.specs.Tree.{Tree}
use Rattle.vg_program.specs.declared.program.Program.{Program}
use Rattle.vg_program.specs.Cost.{cost_of}
use Rattle.vg_program.specs.Meaning as of_programs
use Rattle.vg_trial.specs.Trial.{kernel_text, memory}
use Rattle.vg_trial.specs.TrialKernel.{kernel, places}
use Rattle.vg_trial_line.specs.TrialLine.{IsTrialLine, width, trial_text}

-- a line with numbers that are those of the kernel, of the program and of what both leave
pub told : (entries : List Entry) (n set : ℕ) (k : Tree) (p : Program) (left text : List ℕ) (statements scalar sum_left : ℕ) → kernel_of (kernel_text n) ≡ Ok k → k ≡ kernel n → set ≡ all_extensions → IsCompiled entries set k width false p
    → of_kernels.meaning (kernel n) (memory n) (places n) [] ≡ Some left → of_programs.meaning (called_by entries) p (memory n) (places n) [] ≡ Some left
    → statements ≡ length k.statements → scalar ≡ scalar_cost k → sum_left ≡ sum left % 2 ^ 32 → text ≡ trial_text n statements scalar p.cost sum_left → IsTrialLine entries n text
told entries n set k p left text statements scalar sum_left spelled known all compiled by_kernel by_program counted costs summed line = record {
  kernel = k;
  spelled = spelled;
  program = p;
  compiled = subst (λ s. IsCompiled entries s k width false p) all compiled;
  left = left;
  by_kernel = subst (λ t. of_kernels.meaning t (memory n) (places n) [] ≡ Some left) (sym known) by_kernel;
  by_program = by_program;
  line = line ∙ ap (λ x. trial_text n x scalar p.cost sum_left) counted ∙ ap (λ x. trial_text n (length k.statements) x p.cost sum_left) costs
      ∙ ap (λ x. trial_text n (length k.statements) (scalar_cost k) x sum_left) compiled.valid.rules.cost
      ∙ ap (λ x. trial_text n (length k.statements) (scalar_cost k) (cost_of p) x) summed;
}
