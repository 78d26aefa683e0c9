-- An entry written out for one of its immediates, and what it means.
use Rattle.std.specs.Prelude.{◌≡◌, ℕ, Bool, true, false, List, [], Option, Some, None, Result, Ok, Err, get_or, take, length, replicate}
use Rattle.std.specs.declared.alloc.AllocError.{AllocError}
use Rattle.vg_base.specs.Bind.{◌>>=◌}
use Rattle.vg_pseudo.specs.declared.header.Header.{Header}
use Rattle.vg_pseudo.specs.Tree.{Operation}
use Rattle.vg_pseudo.specs.Resolved.{Resolved}
use Rattle.vg_pseudo.specs.Resolve.{NameFault, resolve}
use Rattle.vg_pseudo.specs.Instance.{meaning}
use Rattle.vg_script.specs.Cells.{Cells, entered, after}
use Rattle.vg_script.specs.Formed.{ScriptFormed}
use Rattle.vg_script.specs.Views.{Whole, whole_of}
use Rattle.vg_script.specs.declared.whole.Whole as in_memory
use Rattle.vg_interval.specs.declared.fault.RangeFault.{RangeFault}
use Rattle.vg_interval.specs.declared.fault.RangeFault.TheVariants.{Memory}
use Rattle.vg_names.specs.Written.{IsWritten}
use Rattle.vg_range.specs.declared.checked.Checked.{Checked}
use Rattle.vg_range.specs.Acceptance.{named}
use Rattle.vg_range.specs.Checks.{header_in, operation_in}
use Rattle.vg_range.specs.Immediates.{has_instance}
use Rattle.vg_range.specs.Walk.{WalkState, instance_at}

-- an operation whose walk ends here, written out
abbrev pub whole_from : Resolved → WalkState → Whole
whole_from r w = record {
  widths = r.body.widths;
  parameters = r.body.parameters;
  variables = r.body.numbers;
  result = r.result;
  script = w.script;
  is_dynamic = w.count.is_dynamic;
}

-- an entry written out for an immediate, where it has one
abbrev pub unrolled : Header → Operation → Option ℕ → Result Whole RangeFault
unrolled h o imm = do
  r ← named (resolve h o)
  w ← instance_at true r imm
  Ok (whole_from r w)

-- whether there was no memory
abbrev pub is_memory : RangeFault → Bool
is_memory (Memory e) = true
is_memory fault = false

-- the cells as an instance begins
abbrev pub cells_given : Whole → List ℕ → Cells
cells_given i given = record {
  registers = entered i.widths (take i.parameters given);
  variables = replicate i.variables 0;
}

-- the bits that an instance leaves in dst, where its parameters and after them the immediate have
-- these numbers
abbrev pub left_by : Whole → List ℕ → List ℕ
left_by i given = get_or (after i.script (cells_given i given)).registers i.result []

abbrev pub meant_by : Result Resolved NameFault → List ℕ → List ℕ
meant_by (Ok r) given = meaning r given
meant_by (Err fault) given = []

-- the bits of dst that an entry means, where its parameters and after them the immediate have these
-- numbers
abbrev pub meant : Header → Operation → List ℕ → List ℕ
meant h o given = meant_by (resolve h o) given

-- the immediate stands after the parameters
abbrev pub IsGiven : Header → Option ℕ → List ℕ → Type 0
IsGiven h None given = Unit {0}
IsGiven h (Some imm) given = get_or given (length h.params) 0 ≡ imm

-- what an instance does, in an entry that a text can say: for all numbers of the parameters it
-- leaves in dst the bits that the entry means
abbrev pub MeansEntry : Header → Operation → Option ℕ → Whole → Type 0
MeansEntry h o imm i =
    IsWritten h o → (given : List ℕ) → IsGiven h imm given → left_by i given ≡ meant h o given

-- in an entry that a text can say its words and slices keep their widths
abbrev pub IsFormedEntry : Header → Operation → Whole → Type 0
IsFormedEntry h o i = IsWritten h o → ScriptFormed i.widths i.script

-- There is an instance for an immediate of the entry alone, and it is the one that is written out.
abbrev pub Unrolls : Checked → Option ℕ → Result (Option in_memory.Whole) AllocError → Type 0
Unrolls c imm (Ok (Some i)) =
    (has_instance (header_in c).imm imm ≡ true)
    × ∥ unrolled (header_in c) (operation_in c) imm ≡ Ok (whole_of i) ∥₁
Unrolls c imm (Ok None) = has_instance (header_in c).imm imm ≡ false
Unrolls c imm (Err e) = Unit {0}

abbrev pub OnInstance : (Whole → Type 0) → Result (Option in_memory.Whole) AllocError → Type 0
OnInstance p (Ok (Some i)) = p (whole_of i)
OnInstance p (Ok None) = Unit {0}
OnInstance p (Err e) = Unit {0}
