-- The exit status of each ending.
use Rattle.std.specs.Prelude.{ℕ}
use Rattle.vg_top.specs.declared.status.Status.{Status}
use Rattle.vg_top.specs.declared.status.Status.TheVariants as status

abbrev pub code_of : Status → ℕ
code_of status.Ok = 0
code_of status.Usage = 2
code_of status.InstructionsRefused = 3
code_of status.KernelRefused = 4
code_of status.ProgramRefused = 5
code_of status.InputAbsent = 6
code_of status.ReadFault = 7
code_of status.WriteFault = 8
code_of status.BindingsRefused = 9
code_of status.Trap = 10
code_of status.TooLarge = 11
code_of status.NoMemory = 12
code_of status.Differs = 13
