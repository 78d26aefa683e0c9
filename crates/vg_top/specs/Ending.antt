-- The status of each ending.
use Rattle.vg_top.specs.declared.ending.Ending.{Ending}
use Rattle.vg_top.specs.declared.ending.Ending.TheVariants.{Usage, Instructions, Kernel, Program, Absent, ReadFault, TooLarge, Bindings, Trap, WriteFault, Memory, Differs}
use Rattle.vg_top.specs.declared.status.Status.{Status}
use Rattle.vg_top.specs.declared.status.Status.TheVariants as status

abbrev pub status_of : Ending → Status
status_of Usage = status.Usage
status_of (Instructions n f) = status.InstructionsRefused
status_of (Kernel n f) = status.KernelRefused
status_of (Program n f) = status.ProgramRefused
status_of (Absent n) = status.InputAbsent
status_of (ReadFault n) = status.ReadFault
status_of (TooLarge n) = status.TooLarge
status_of Bindings = status.BindingsRefused
status_of Trap = status.Trap
status_of WriteFault = status.WriteFault
status_of Memory = status.NoMemory
status_of (Differs text) = status.Differs
