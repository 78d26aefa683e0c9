-- What `terms` answers, where it is known what the shelf holds: the lines on the values of the kernel in
-- a file, or the first refusal.
use Rattle.std.specs.Prelude.{ℕ, Bool, List, Result, Ok}
use Rattle.vg_base.specs.Bind.{◌>>=◌}
use Rattle.vg_outside.specs.Shelf.{Held}
use Rattle.vg_kernel.specs.Tree.{Tree}
use Rattle.vg_loop_laws.specs.Limits.{turns_of}
use Rattle.vg_loop_laws.specs.Unrolled.{unrolled}
use Rattle.vg_value_text.specs.Listed.{values_text}
use Rattle.vg_top.specs.declared.ending.Ending.{Ending}
use Rattle.vg_top.specs.Files.{first_file, kernel_limit, file_of}
use Rattle.vg_top.specs.KernelFile.{KernelFile, plain, counted, kernel_file, kernel_or_refusal}

-- the kernel, or that of the turns that a block of the loop has
abbrev pub kernel_in : KernelFile → Tree
kernel_in (plain k) = k
kernel_in (counted l) = unrolled l (turns_of l)

-- the lines on what is told
abbrev pub values_told : Bool → Result KernelFile Ending → Result (List ℕ) Ending
values_told more told = told >>= λ f. Ok (values_text (kernel_in f) more)

abbrev pub values_listed : Held → List ℕ → Bool → Result (List ℕ) Ending
values_listed held kernel more = do
  text ← file_of held first_file kernel kernel_limit
  values_told more (kernel_or_refusal first_file (kernel_file text))
