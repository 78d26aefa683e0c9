-- The files of a request, where it is known what the shelf holds.
use Rattle.std.specs.Prelude.{◌≡◌, ℕ, List, length, Option, Some, None, Result, Ok, Err, nat_le, if◌then◌else◌, Vec}
use Rattle.std.specs.FinMap.{get}
use Rattle.std.specs.declared.alloc.Global.{Global}
use Rattle.vg_outside.specs.Shelf.{Held}
use Rattle.vg_top.specs.declared.ending.FileNumber.{FileNumber}
use Rattle.vg_top.specs.declared.ending.Ending.{Ending}
use Rattle.vg_top.specs.declared.ending.Ending.TheVariants.{Absent, ReadFault, TooLarge, WriteFault, Memory}

abbrev pub first_file : FileNumber
first_file = record { 0 = 1 }

abbrev pub second_file : FileNumber
second_file = record { 0 = 2 }

abbrev pub third_file : FileNumber
third_file = record { 0 = 3 }

-- the bytes that a file of each kind may have
abbrev pub instructions_limit : ℕ
instructions_limit = 1048576

abbrev pub kernel_limit : ℕ
kernel_limit = 262144

abbrev pub program_limit : ℕ
program_limit = 4194304

abbrev pub memory_limit : ℕ
memory_limit = 16777216

-- the bytes of the n-th file, or why it is refused: it is not there, or has more bytes than its
-- limit
abbrev pub judged : FileNumber → ℕ → Option (List ℕ) → Result (List ℕ) Ending
judged n limit None = Err (Absent n)
judged n limit (Some file) = if nat_le (length file) limit then Ok file else Err (TooLarge n)

abbrev pub file_of : Held → FileNumber → List ℕ → ℕ → Result (List ℕ) Ending
file_of held n name limit = judged n limit (get held name)

-- A result against what the definition says. A fault of the outside and want of memory may come in
-- its place; counts tell of the first.
abbrev pub Tells : {X Y : Type 0} → (X → Y → Type 0) → Result X Ending → Result Y Ending → Type 0
Tells same (Ok x) (Ok y) = same x y
Tells same (Ok x) (Err e) = ⊥
Tells same (Err (ReadFault n)) told = Unit {0}
Tells same (Err WriteFault) told = Unit {0}
Tells same (Err Memory) told = Unit {0}
Tells same (Err e) told = told ≡ Err e

-- the bytes of a vector
abbrev pub AreBytes : Vec ℕ Global → List ℕ → Type 0
AreBytes bytes file = bytes.items ≡ file
