-- What the work on a request does to the shelf, and how it may end.
use Rattle.std.specs.Prelude.{◌≡◌, ℕ, ◌+◌, ◌<◌, ◌≤◌, ◌^◌, length, Option, Some, None, Result, Ok, Err}
use Rattle.std.specs.Option.{IfSome}
use Rattle.vg_outside.specs.Count.{Rose}
use Rattle.vg_outside.specs.Shelf.{CountsRead}
use Rattle.vg_outside.specs.declared.shelf.Shelf as shelf
use Rattle.vg_top.specs.declared.ending.FileNumber.{FileNumber}
use Rattle.vg_top.specs.declared.ending.Ending.{Ending}
use Rattle.vg_top.specs.declared.ending.Ending.TheVariants.{Usage, Instructions, Kernel, Program, Absent, ReadFault, TooLarge, Bindings, Trap, WriteFault, Memory, Differs}
use Rattle.vg_top.specs.Causes.{MayStop}
use Rattle.vg_request.specs.Request.{Asked, files_in}

-- where told and far below its last value, the number of reads is so many more
abbrev pub GrewBy : ℕ → Option ℕ → Option ℕ → Type 0
GrewBy n (Some before) now = before < 2 ^ 63 → now ≡ Some (before + n)
GrewBy n None now = Unit {0}

-- a file of a request, by its number among them, was the last of so many that were read
abbrev pub IsLastRead : ℕ → ℕ → FileNumber → Type 0
IsLastRead files n number = (n ≡ number.0) × (1 ≤ n) × (n ≤ files)

-- So many of the files were read where a run ends so: those up to and with the refused one, and all
-- where none was refused. Want of memory may come after each of them.
abbrev pub IsReadCount : ℕ → ℕ → Option Ending → Type 0
IsReadCount files n None = n ≡ files
IsReadCount files n (Some Usage) = n ≡ 0
IsReadCount files n (Some (Instructions number f)) = IsLastRead files n number
IsReadCount files n (Some (Kernel number f)) = IsLastRead files n number
IsReadCount files n (Some (Program number f)) = IsLastRead files n number
IsReadCount files n (Some (Absent number)) = IsLastRead files n number
IsReadCount files n (Some (ReadFault number)) = IsLastRead files n number
IsReadCount files n (Some (TooLarge number)) = IsLastRead files n number
IsReadCount files n (Some Bindings) = n ≡ files
IsReadCount files n (Some Trap) = n ≡ files
IsReadCount files n (Some WriteFault) = n ≡ files
IsReadCount files n (Some Memory) = n ≤ files
IsReadCount files n (Some (Differs text)) = n ≡ files

-- the number of reads grew by the files that were read
abbrev pub Reads : ℕ → Option ℕ → Option ℕ → Option Ending → Type 0
Reads files before now ending = (n : ℕ) × IsReadCount files n ending × GrewBy n before now

-- an absence comes only with a risen count, and no other ending changes that count
abbrev pub CountsAbsence : ℕ → ℕ → Option Ending → Type 0
CountsAbsence before now (Some (Absent n)) = Rose before now
CountsAbsence before now _ = now ≡ before

-- a read fault comes only with a risen count, and no other ending changes that count
abbrev pub CountsFault : ℕ → ℕ → Option Ending → Type 0
CountsFault before now (Some (ReadFault n)) = Rose before now
CountsFault before now _ = now ≡ before

abbrev pub ending_of : {X : Type 0} → Result X Ending → Option Ending
ending_of (Ok x) = None
ending_of (Err e) = Some e

-- The work on what was asked for ended so, and left the shelf so: it holds what it held, so many
-- files were read, and the counts tell of an absence and of a fault.
pub record Works {S : Type 0} (g : shelf.Ghosts S) (asked : Option Asked) (before now : S)
    (ending : Option Ending) : Type 0 where
  pub may_end : MayStop asked ending
  pub keeps : g.holds now ≡ g.holds before
  pub read : Reads (length (files_in asked)) (g.reads before) (g.reads now) ending
  pub absence : CountsAbsence (g.absents before) (g.absents now) ending
  pub fault : CountsFault (g.faults before) (g.faults now) ending
  pub absents_never_fall : g.absents before ≤ g.absents now
  pub faults_never_fall : g.faults before ≤ g.faults now

-- the reading of a file, by its number in the request, may end so
abbrev pub IsOfFile : FileNumber → Ending → Type 0
IsOfFile number (Absent n) = n ≡ number
IsOfFile number (ReadFault n) = n ≡ number
IsOfFile number (TooLarge n) = n ≡ number
IsOfFile number Memory = Unit {0}
IsOfFile number e = ⊥

-- the judging of an instruction file
abbrev pub IsOfInstructions : FileNumber → Ending → Type 0
IsOfInstructions number (Instructions n f) = n ≡ number
IsOfInstructions number Memory = Unit {0}
IsOfInstructions number e = ⊥

-- the judging of a kernel in a file
abbrev pub IsOfKernel : FileNumber → Ending → Type 0
IsOfKernel number (Kernel n f) = n ≡ number
IsOfKernel number Memory = Unit {0}
IsOfKernel number e = ⊥

-- the judging of a program in a file
abbrev pub IsOfProgram : FileNumber → Ending → Type 0
IsOfProgram number (Program n f) = n ≡ number
IsOfProgram number Memory = Unit {0}
IsOfProgram number e = ⊥

-- the binding of parameters, and a run
abbrev pub IsOfRun : Ending → Type 0
IsOfRun Bindings = Unit {0}
IsOfRun Trap = Unit {0}
IsOfRun Memory = Unit {0}
IsOfRun e = ⊥

-- the comparison of a program with a kernel
abbrev pub IsOfComparison : Ending → Type 0
IsOfComparison (Differs text) = Unit {0}
IsOfComparison Memory = Unit {0}
IsOfComparison e = ⊥

-- One file was read, by its number in the request.
pub record ReadsFile {S : Type 0} (g : shelf.Ghosts S) (number : FileNumber) (before now : S)
    (ending : Option Ending) : Type 0 where
  pub may_end : IfSome ending (IsOfFile number)
  pub keeps : g.holds now ≡ g.holds before
  pub counted : CountsRead (g.reads before) (g.reads now)
  pub absence : CountsAbsence (g.absents before) (g.absents now) ending
  pub fault : CountsFault (g.faults before) (g.faults now) ending
  pub absents_never_fall : g.absents before ≤ g.absents now
  pub faults_never_fall : g.faults before ≤ g.faults now
