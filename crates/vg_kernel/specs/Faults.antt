-- Refusals by their numbers and places.
use Rattle.std.specs.Prelude.{ℕ, Option, Some, None}
use Rattle.vg_text.specs.declared.place.Place.{Place}
use Rattle.vg_kernel.specs.declared.fault.KernelFault.{KernelFault}
use Rattle.vg_kernel.specs.declared.fault.KernelFault.TheVariants.{Token, Shape, UnknownName, DuplicateName, WidthMismatch, LiteralRange, ShiftRange, TooMany, TooLarge, NestingTooDeep, NoMovingStore, LoopHere, Memory}

-- the number of a refusal; want of memory has none
abbrev pub number_of_fault : KernelFault → Option ℕ
number_of_fault (Token p) = Some 1
number_of_fault (Shape p) = Some 2
number_of_fault (UnknownName p) = Some 3
number_of_fault (DuplicateName p) = Some 4
number_of_fault (WidthMismatch p) = Some 5
number_of_fault (LiteralRange p) = Some 6
number_of_fault (ShiftRange p) = Some 7
number_of_fault (TooMany p) = Some 8
number_of_fault (TooLarge p) = Some 9
number_of_fault (NestingTooDeep p) = Some 10
number_of_fault (NoMovingStore p) = Some 11
number_of_fault (LoopHere p) = Some 12
number_of_fault (Memory e) = None

-- the place of a refusal
abbrev pub place_of_fault : KernelFault → Option Place
place_of_fault (Token p) = Some p
place_of_fault (Shape p) = Some p
place_of_fault (UnknownName p) = Some p
place_of_fault (DuplicateName p) = Some p
place_of_fault (WidthMismatch p) = Some p
place_of_fault (LiteralRange p) = Some p
place_of_fault (ShiftRange p) = Some p
place_of_fault (TooMany p) = Some p
place_of_fault (TooLarge p) = Some p
place_of_fault (NestingTooDeep p) = Some p
place_of_fault (NoMovingStore p) = Some p
place_of_fault (LoopHere p) = Some p
place_of_fault (Memory e) = None
