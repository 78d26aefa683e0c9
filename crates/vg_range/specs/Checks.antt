-- What judging an operation answers.
use Rattle.std.specs.Prelude.{◌≡◌, true, is_ok, Result, Ok, Err}
use Rattle.vg_pseudo.specs.declared.header.Header.{Header}
use Rattle.vg_pseudo.specs.Tree.{Operation, operation_of}
use Rattle.vg_range.specs.declared.checked.Checked.{Checked}
use Rattle.vg_interval.specs.declared.fault.RangeFault.{RangeFault}
use Rattle.vg_interval.specs.declared.fault.RangeFault.TheVariants.{Memory}
use Rattle.vg_range.specs.Acceptance.{checked}

-- the parts of an accepted entry
abbrev pub header_in : Checked → Header
header_in c = c.header

abbrev pub operation_in : Checked → Operation
operation_in c = operation_of c.operation

-- this fault is the first that is met; want of memory says nothing
abbrev pub IsFirst : Header → Operation → RangeFault → Type 0
IsFirst h o (Memory e) = Unit {0}
IsFirst h o fault = checked h o ≡ Err fault

-- an accepted entry has these parts, or this is the first fault
abbrev pub Checks : Header → Operation → Result Checked RangeFault → Type 0
Checks h o (Ok c) = (header_in c ≡ h) × (operation_in c ≡ o) × (is_ok (checked h o) ≡ true)
Checks h o (Err fault) = IsFirst h o fault
