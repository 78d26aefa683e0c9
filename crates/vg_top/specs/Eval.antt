-- What `eval` answers, where it is known what the shelf holds: the memory that the kernel or the loop
-- leaves, or the first refusal. The files are judged one after the other, and after them the bindings.
use Rattle.std.specs.Prelude.{ℕ, List, map, Option, Some, Result}
use Rattle.vg_base.specs.Bind.{◌>>=◌}
use Rattle.vg_outside.specs.Shelf.{Held}
use Rattle.vg_kernel.specs.declared.parameter.KParam.{KParam}
use Rattle.vg_kernel.specs.Meaning.{meaning}
use Rattle.vg_loop_laws.specs.Loops.{Run, loop_meaning}
use Rattle.vg_top.specs.declared.ending.Ending.{Ending}
use Rattle.vg_request.specs.Binding.{Binding}
use Rattle.vg_top.specs.Inputs.{InputLists, inputs_of}
use Rattle.vg_compile.specs.Means.{param_of}
use Rattle.vg_top.specs.Files.{first_file, second_file, kernel_limit, memory_limit, file_of}
use Rattle.vg_top.specs.KernelFile.{KernelFile, plain, counted, kernel_file, kernel_or_refusal}
use Rattle.vg_top.specs.Left.{left_by, loop_inputs}

-- the parameters
abbrev pub params_in : KernelFile → List KParam
params_in (plain k) = k.params
params_in (counted l) = l.kernel.params

-- what it leaves
abbrev pub meaning_in : KernelFile → Run
meaning_in (plain k) = meaning k
meaning_in (counted l) = loop_meaning l

-- what its parameters may be
abbrev pub inputs_in : KernelFile → Option InputLists → Option InputLists
inputs_in (plain k) inputs = inputs
inputs_in (counted l) inputs = loop_inputs l.times l.steps inputs

-- with these values of its parameters
abbrev pub evaluated_bound : InputLists → KernelFile → List ℕ → Result (List ℕ) Ending
evaluated_bound i f memory = left_by (meaning_in f) memory (inputs_in f (Some i))

abbrev pub evaluated_on : List Binding → KernelFile → List ℕ → Result (List ℕ) Ending
evaluated_on bindings f memory =
    left_by (meaning_in f) memory (inputs_in f (inputs_of bindings (map param_of (params_in f))))

abbrev pub evaluated : Held → List ℕ → List ℕ → List Binding → Result (List ℕ) Ending
evaluated held kernel memory bindings = do
  text ← file_of held first_file kernel kernel_limit
  f ← kernel_or_refusal first_file (kernel_file text)
  bytes ← file_of held second_file memory memory_limit
  evaluated_on bindings f bytes
