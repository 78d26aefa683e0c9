-- What a function of the code returned, seen by a view, against what reading gives.
use Rattle.std.specs.Prelude.{Option, Some, None, Result}
use Rattle.vg_base.specs.Gives as returned
use Rattle.vg_kernel.specs.declared.fault.KernelFault.{KernelFault}
use Rattle.vg_kernel.specs.declared.fault.KernelFault.TheVariants.{Memory}

-- the fault of a text that an error tells; want of memory tells none
abbrev pub told : KernelFault → Option KernelFault
told (Memory e) = None
told fault = Some fault

-- the same fault, unless there was no memory
abbrev pub Fails : {Y : Type 0} → KernelFault → Result Y KernelFault → Type 0
Fails fault read = returned.Fails told fault read

-- the same value or fault, unless there was no memory
abbrev pub Gives : {X Y : Type 0} → (X → Y) → Result X KernelFault → Result Y KernelFault → Type 0
Gives view result read = returned.Gives told view result read
