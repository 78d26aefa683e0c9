-- What a machine keeps of the instructions that its program calls.
use Rattle.std.specs.Prelude.{◌≡◌, ℕ, ◌*◌, ◌/◌, ◌+◌, ◌≤◌, List, [], ◌∷◌, length, map, get_or, slice_get, Option, Some, IsSomeAnd}
use Rattle.vg_base.specs.Bits.{bits, num}
use Rattle.vg_range.specs.declared.checked.Checked.{Checked}
use Rattle.vg_catalog.specs.Entries.{Entry, entry_of}
use Rattle.vg_catalog.specs.Called.{called_by, entry_named, imm_number, numbers_given}
use Rattle.vg_machine.specs.declared.instances.Called.{Called}
use Rattle.vg_machine.specs.declared.instances.KeptInstance.{KeptInstance}
use Rattle.vg_machine.specs.declared.instances.Instances as code
use Rattle.vg_pmean.specs.Readied.{ready_of}
use Rattle.vg_pmean.specs.Applied.{Ready, answer}
use Rattle.vg_pmean.specs.Entries.{AnswersOne}
use Rattle.vg_program.specs.declared.program.Program.{Program}
use Rattle.vg_program.specs.declared.line.Line.{Line}
use Rattle.vg_program.specs.declared.line.Line.TheVariants.{Load, Store, Two, Shift, Resize, Compare, Select, VectorLoad, VectorStore, Constant, Insert, Extract, Call}

-- an entry made ready for one immediate
pub record ReadyInstance : Type 0 where
  pub called : Called
  pub ready : Ready

-- the entries that may be called, and what is made ready of them
pub record Instances : Type 0 where
  pub entries : List Entry
  pub kept : List ReadyInstance

-- what the code holds of them
abbrev pub kept_of : KeptInstance → ReadyInstance
kept_of k = record { called = k.called; ready = ready_of k.prepared }

abbrev pub instances_of : code.Instances → Instances
instances_of i = record { entries = map entry_of i.entries.now; kept = map kept_of i.kept.items }

-- a program that is made ready to run, with the entries that it may call
pub record Loaded : Type 0 where
  pub entries : List Checked
  pub program : Program

-- it answers what its entry means
abbrev pub IsKept : List Entry → ReadyInstance → Type 0
IsKept entries k =
    IsSomeAnd (slice_get entries k.called.entry)
    (λ e. AnswersOne e.header e.operation k.called.imm k.ready)

abbrev pub AreKept : List Entry → List ReadyInstance → Type 0
AreKept entries ks = (at : ℕ) (k : ReadyInstance) → slice_get ks at ≡ Some k → IsKept entries k

-- what was kept before is kept at its place
abbrev pub Stays : List ReadyInstance → List ReadyInstance → Type 0
Stays before after =
    (at : ℕ) (k : ReadyInstance) → slice_get before at ≡ Some k → slice_get after at ≡ Some k

-- at this place this entry and immediate are kept
abbrev pub StandsAt : List ReadyInstance → ℕ → Called → Type 0
StandsAt ks place c = (k : ReadyInstance) × (slice_get ks place ≡ Some k) × (k.called ≡ c)

-- the places in a table are those of what is kept
abbrev pub AreFound : List (Called × ℕ) → List ReadyInstance → Type 0
AreFound table ks =
    (i : ℕ) (c : Called) (place : ℕ) → slice_get table i ≡ Some (c, place) → StandsAt ks place c

-- What is kept at this place answers the calls of this instruction with so many registers and this
-- immediate, whose results have this width. A machine passes at most four registers.
pub record DoesCall (i : Instances) (place : ℕ) (name : List ℕ) (count : ℕ) (imm : Option ℕ) (width : ℕ) : Type 0 where
  pub instance : ReadyInstance
  pub there : slice_get i.kept place ≡ Some instance
  pub few : count ≤ 4
  pub most : width ≤ 512
  pub whole : 8 * (width / 8) ≡ width
  pub same : (registers : List (List ℕ)) → length registers ≡ count
      → called_by i.entries name registers imm
      ≡ bits width (num (answer instance.ready (imm_number imm) (numbers_given registers imm)))

-- what is kept at this place answers the call of a line, if it is one
abbrev pub IsPlanned : Instances → ℕ → Line → Type 0
IsPlanned i place (Load w a) = Unit {0}
IsPlanned i place (Store w a v) = Unit {0}
IsPlanned i place (Two op w l r) = Unit {0}
IsPlanned i place (Shift op w v n) = Unit {0}
IsPlanned i place (Resize op w from v) = Unit {0}
IsPlanned i place (Compare op w l r) = Unit {0}
IsPlanned i place (Select w c x y) = Unit {0}
IsPlanned i place (VectorLoad z a) = Unit {0}
IsPlanned i place (VectorStore z a v) = Unit {0}
IsPlanned i place (Constant bs) = Unit {0}
IsPlanned i place (Insert v bits n w x) = Unit {0}
IsPlanned i place (Extract v n w) = Unit {0}
IsPlanned i place (Call name rs imm bits cost) = DoesCall i place name (length rs) imm bits

-- lines with the places of what answers them, the first of which has this number in the plan
abbrev pub ArePlanned : Instances → List ℕ → ℕ → List Line → Type 0
ArePlanned i plan number [] = Unit {0}
ArePlanned i plan number (l ∷ ls) =
    IsPlanned i (get_or plan number 0) l × ArePlanned i plan (number + 1) ls

-- what is kept of these entries grew, and has this entry and immediate at this place
pub record Placed (before after : Instances) (c : Called) (place : ℕ) : Type 0 where
  pub same : after.entries ≡ before.entries
  pub stays : Stays before.kept after.kept
  pub stands : StandsAt after.kept place c

-- and there answers the calls of this name with this immediate
pub record Answered (before after : Instances) (name : List ℕ) (imm place : ℕ) : Type 0 where
  pub same : after.entries ≡ before.entries
  pub stays : Stays before.kept after.kept
  pub entry : Entry
  pub named : entry_named before.entries name ≡ Some entry
  pub instance : ReadyInstance
  pub there : slice_get after.kept place ≡ Some instance
  pub answers : AnswersOne entry.header entry.operation imm instance.ready

-- and there answers a line
pub record Planned (before after : Instances) (l : Line) (place : ℕ) : Type 0 where
  pub same : after.entries ≡ before.entries
  pub stays : Stays before.kept after.kept
  pub planned : IsPlanned after place l

-- a call is one of an instruction of the entries, with as many registers as that takes
abbrev pub IsCalled : List Entry → Line → Type 0
IsCalled es (Load w a) = Unit {0}
IsCalled es (Store w a v) = Unit {0}
IsCalled es (Two op w l r) = Unit {0}
IsCalled es (Shift op w v n) = Unit {0}
IsCalled es (Resize op w from v) = Unit {0}
IsCalled es (Compare op w l r) = Unit {0}
IsCalled es (Select w c x y) = Unit {0}
IsCalled es (VectorLoad z a) = Unit {0}
IsCalled es (VectorStore z a v) = Unit {0}
IsCalled es (Constant bs) = Unit {0}
IsCalled es (Insert v bits n w x) = Unit {0}
IsCalled es (Extract v n w) = Unit {0}
IsCalled es (Call name rs imm bits cost) =
    IsSomeAnd (entry_named es name)
    (λ e. (length rs ≡ length e.header.params) × (bits ≡ e.header.register))

abbrev pub AreCalled : List Entry → List Line → Type 0
AreCalled es [] = Unit {0}
AreCalled es (l ∷ ls) = IsCalled es l × AreCalled es ls
