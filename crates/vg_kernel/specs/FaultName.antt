-- Refusals of kernels by their names.
use Rattle.std.specs.Prelude.{ℕ, List, codes}
use Rattle.vg_kernel.specs.declared.fault.KernelFault.{KernelFault}
use Rattle.vg_kernel.specs.declared.fault.KernelFault.TheVariants.{Token, Shape, UnknownName, DuplicateName, WidthMismatch, LiteralRange, ShiftRange, TooMany, TooLarge, NestingTooDeep, NoMovingStore, LoopHere, Memory}

-- the number and the name, as `2 Shape`
abbrev pub name_of_fault : KernelFault → List ℕ
name_of_fault (Token p) = codes "1 Token"
name_of_fault (Shape p) = codes "2 Shape"
name_of_fault (UnknownName p) = codes "3 UnknownName"
name_of_fault (DuplicateName p) = codes "4 DuplicateName"
name_of_fault (WidthMismatch p) = codes "5 WidthMismatch"
name_of_fault (LiteralRange p) = codes "6 LiteralRange"
name_of_fault (ShiftRange p) = codes "7 ShiftRange"
name_of_fault (TooMany p) = codes "8 TooMany"
name_of_fault (TooLarge p) = codes "9 TooLarge"
name_of_fault (NestingTooDeep p) = codes "10 NestingTooDeep"
name_of_fault (NoMovingStore p) = codes "11 NoMovingStore"
name_of_fault (LoopHere p) = codes "12 LoopHere"
name_of_fault (Memory e) = codes "memory"
