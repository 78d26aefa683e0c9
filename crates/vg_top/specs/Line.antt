-- The line that tells of an ending.
use Rattle.std.specs.Prelude.{ℕ, ◌-◌, ◌≤◌, List, [], ◌∷◌, ◌++◌, Option, Some, None, Result, OnOk, OnErr, slice_get, unwrap_or, codes, ◌⊎◌}
use Rattle.std.specs.Fmt.{decimal}
use Rattle.vg_text.specs.declared.place.Place.{Place}
use Rattle.vg_catalog.specs.declared.fault.CatalogFault.{CatalogFault}
use Rattle.vg_catalog.specs.Faults as catalog
use Rattle.vg_kernel.specs.declared.fault.KernelFault.{KernelFault}
use Rattle.vg_kernel.specs.Faults as kernel
use Rattle.vg_kernel.specs.FaultName as kernel_names
use Rattle.vg_program.specs.declared.program_fault.ProgramFault.{ProgramFault}
use Rattle.vg_program.specs.declared.program_fault.ProgramFault.TheVariants.{CostWrong}
use Rattle.vg_program.specs.Faults.{place_of_fault}
use Rattle.vg_program.specs.FaultName.{name_of_fault}
use Rattle.vg_outside.specs.declared.sink.Sink as sink
use Rattle.vg_outside.specs.declared.sink.SinkFault.{SinkFault}
use Rattle.vg_outside.specs.Count.{Rose}
use Rattle.vg_outside.specs.Sink.{Appends, AppendsFront}
use Rattle.vg_top.specs.declared.ending.FileNumber.{FileNumber}
use Rattle.vg_top.specs.declared.ending.Ending.{Ending}
use Rattle.vg_top.specs.declared.ending.Ending.TheVariants.{Usage, Instructions, Kernel, Program, Absent, ReadFault, TooLarge, Bindings, Trap, WriteFault, Memory, Differs}

-- the name of a file, by its number among the files of the request
abbrev pub file_name : List (List ℕ) → FileNumber → List ℕ
file_name files n = unwrap_or (slice_get files (n.0 - 1)) []

-- behind `6 CostWrong`: the stated cost and the counted one
abbrev pub costs_text : ProgramFault → List ℕ
costs_text (CostWrong stated counted p) =
    (codes " " ++ decimal stated) ++ (codes " " ++ decimal counted)
costs_text f = []

-- ` at 3:14`
abbrev pub place_text : Option Place → List ℕ
place_text None = []
place_text (Some p) = (codes " at " ++ decimal p.line) ++ (codes ":" ++ decimal p.column)

-- what it begins with
abbrev pub head_of : Ending → List ℕ
head_of Usage = codes "vegen: usage"
head_of (Instructions n f) = codes "vegen: instructions: "
head_of (Kernel n f) = codes "vegen: kernel: "
head_of (Program n f) = codes "vegen: program: "
head_of (Absent n) = codes "vegen: absent: "
head_of (ReadFault n) = codes "vegen: read fault: "
head_of (TooLarge n) = codes "vegen: too large: "
head_of Bindings = codes "vegen: bindings"
head_of Trap = codes "vegen: trap"
head_of WriteFault = codes "vegen: write fault"
head_of Memory = codes "vegen: memory"
head_of (Differs text) = codes "vegen: differs: "

-- the refusal of an instruction file: its name and its place
abbrev pub instructions_refusal : CatalogFault → List ℕ
instructions_refusal f = catalog.name_of_fault f ++ place_text (catalog.place_of_fault f)

-- the refusal of a kernel: its name and its place
abbrev pub kernel_refusal : KernelFault → List ℕ
kernel_refusal f = kernel_names.name_of_fault f ++ place_text (kernel.place_of_fault f)

-- the refusal of a program: its name, after 6 CostWrong both costs, and its place
abbrev pub program_refusal : ProgramFault → List ℕ
program_refusal f = name_of_fault f ++ (costs_text f ++ place_text (place_of_fault f))

-- the file that it names, the refusal, or the first difference
abbrev pub tail_of : List (List ℕ) → Ending → List ℕ
tail_of files (Instructions n f) = instructions_refusal f
tail_of files (Kernel n f) = kernel_refusal f
tail_of files (Program n f) = program_refusal f
tail_of files (Absent n) = file_name files n
tail_of files (ReadFault n) = file_name files n
tail_of files (TooLarge n) = file_name files n
tail_of files (Differs text) = text
tail_of files _ = []

abbrev pub line_of : List (List ℕ) → Ending → List ℕ
line_of files e = head_of e ++ (tail_of files e ++ 10 ∷ [])

-- What is done to a sink where these bytes are written to it piece by piece, up to the first piece
-- that it does not take: all of the bytes were written, or a front of them and its faults rose.
pub record Writes {W : Type 0} (g : sink.Ghosts W) (bytes : List ℕ) (before now : W)
    (result : Result Unit SinkFault) : Type 0 where
  pub whole : OnOk result (Appends (g.written before) bytes (g.written now))
  pub front : OnErr result (AppendsFront (g.written before) bytes (g.written now))
  pub fault : OnErr result (Rose (g.faults before) (g.faults now))
  pub faults_never_fall : g.faults before ≤ g.faults now

-- the line stands after what was written; or a front of it does, and the count of faults rose
abbrev pub Says : {W : Type 0} → sink.Ghosts W → List ℕ → W → W → Type 0
Says g line before now =
    Appends (g.written before) line (g.written now)
    ⊎ (AppendsFront (g.written before) line (g.written now) × Rose (g.faults before) (g.faults now))
