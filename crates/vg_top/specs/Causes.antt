-- Which commands may end how. It is a fact on the words alone, whatever the files hold.
use Rattle.std.specs.Prelude.{◌≡◌, Bool, true, false, Option, Some, None}
use Rattle.vg_top.specs.declared.ending.Ending.{Ending}
use Rattle.vg_top.specs.declared.ending.Ending.TheVariants.{WriteFault}
use Rattle.vg_top.specs.declared.status.Status.{Status}
use Rattle.vg_top.specs.declared.status.Status.TheVariants as status
use Rattle.vg_top.specs.Ending.{status_of}
use Rattle.vg_request.specs.Request.{Asked, compile, run, eval, lift, explain, trial, check, terms}

-- the commands that read a file of instructions
abbrev pub reads_instructions : Asked → Bool
reads_instructions (compile instructions kernel choices guard) = true
reads_instructions (run instructions program memory bindings) = true
reads_instructions (eval kernel memory bindings) = false
reads_instructions (explain instructions kernel choices) = true
reads_instructions (lift instructions) = true
reads_instructions (trial instructions number) = true
reads_instructions (check instructions kernel program more) = true
reads_instructions (terms kernel more) = false

-- the commands that read a kernel
abbrev pub reads_kernel : Asked → Bool
reads_kernel (compile instructions kernel choices guard) = true
reads_kernel (run instructions program memory bindings) = false
reads_kernel (eval kernel memory bindings) = true
reads_kernel (explain instructions kernel choices) = true
reads_kernel (lift instructions) = false
reads_kernel (trial instructions number) = false
reads_kernel (check instructions kernel program more) = true
reads_kernel (terms kernel more) = true

-- the commands that read a program
abbrev pub reads_program : Asked → Bool
reads_program (compile instructions kernel choices guard) = false
reads_program (run instructions program memory bindings) = true
reads_program (eval kernel memory bindings) = false
reads_program (explain instructions kernel choices) = false
reads_program (lift instructions) = false
reads_program (trial instructions number) = false
reads_program (check instructions kernel program more) = true
reads_program (terms kernel more) = false

-- the commands that bind parameters and run something on a memory
abbrev pub runs : Asked → Bool
runs (compile instructions kernel choices guard) = false
runs (run instructions program memory bindings) = true
runs (eval kernel memory bindings) = true
runs (explain instructions kernel choices) = false
runs (lift instructions) = false
runs (trial instructions number) = false
runs (check instructions kernel program more) = false
runs (terms kernel more) = false

-- the command that compares a program with a kernel
abbrev pub compares : Asked → Bool
compares (compile instructions kernel choices guard) = false
compares (run instructions program memory bindings) = false
compares (eval kernel memory bindings) = false
compares (explain instructions kernel choices) = false
compares (lift instructions) = false
compares (trial instructions number) = false
compares (check instructions kernel program more) = true
compares (terms kernel more) = false

-- A request may end so: its instructions, its kernel, its program are refused only where it reads
-- them, bindings are refused and runs trap only where it binds parameters and runs something, and a
-- program differs only where it is compared.
-- Words that are no request have one ending, want of memory aside.
abbrev pub MayEnd : Option Asked → Status → Type 0
MayEnd None status.Usage = Unit {0}
MayEnd None status.NoMemory = Unit {0}
MayEnd None s = ⊥
MayEnd (Some asked) status.Usage = ⊥
MayEnd (Some asked) status.InstructionsRefused = reads_instructions asked ≡ true
MayEnd (Some asked) status.KernelRefused = reads_kernel asked ≡ true
MayEnd (Some asked) status.ProgramRefused = reads_program asked ≡ true
MayEnd (Some asked) status.BindingsRefused = runs asked ≡ true
MayEnd (Some asked) status.Trap = runs asked ≡ true
MayEnd (Some asked) status.Differs = compares asked ≡ true
MayEnd (Some asked) s = Unit {0}

-- The work on what was asked for may end so: with an answer, or with an ending that its command may
-- have. Nothing is written in it.
abbrev pub MayStop : Option Asked → Option Ending → Type 0
MayStop None None = ⊥
MayStop (Some asked) None = Unit {0}
MayStop asked (Some WriteFault) = ⊥
MayStop asked (Some e) = MayEnd asked (status_of e)
