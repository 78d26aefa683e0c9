-- What is kept of the instances that a program calls.
use Rattle.std.specs.Prelude.{◌≡◌, ℕ, List, Option, slice_get, IsSomeAnd}
use Rattle.std.specs.List.{AllByRecursion, list_any}
use Rattle.vg_lift.specs.Instances.{instance_lanes}
use Rattle.vg_catalog.specs.Entries.{Entry}
use Rattle.vg_known.specs.Calls.{calls_opaque, is_opaque, lane_bits}
use Rattle.vg_verify.specs.declared.instance.Instance.{Instance}
use Rattle.vg_verify.specs.declared.instance.Lanes.{Lanes}
use Rattle.vg_verify.specs.Forms.{called_forms, forms_of}

-- these are the lanes of the instance of an entry for an immediate
pub record IsInstance (e : Entry) (imm : ℕ) (l : Lanes) : Type 0 where
  pub forms : l.forms.items ≡ forms_of (instance_lanes e.header e.operation imm)
  pub width : l.width ≡ e.header.lane_width
  pub none : l.is_opaque ≡ list_any is_opaque (instance_lanes e.header e.operation imm)

abbrev pub IsKept : List Entry → Instance × Lanes → Type 0
IsKept entries p = IsSomeAnd (slice_get entries p.0.entry) (λ e. IsInstance e p.0.imm p.1)

-- all that is kept are instances of these entries
abbrev pub AreKept : List Entry → List (Instance × Lanes) → Type 0
AreKept entries table = AllByRecursion (IsKept entries) table

-- these are the lanes of what is called
pub record Answers (entries : List Entry) (name : List ℕ) (imm : Option ℕ) (l : Lanes) : Type 0 where
  pub forms : l.forms.items ≡ called_forms entries name imm
  pub width : l.width ≡ lane_bits entries name
  pub none : l.is_opaque ≡ calls_opaque entries name imm
