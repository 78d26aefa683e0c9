-- The laws on the first difference: where there is none, the program means the units of the kernel.
use Rattle.std.specs.Prelude.{◌≡◌, ℕ, ◌<◌, ◌≤◌, Bool, true, false, List, map, Option, Some, None}
use Rattle.std.specs.List.{list_any}
use Rattle.vg_terms.specs.declared.value.Env.{Env}
use Rattle.vg_terms.specs.Term.{Tree, WellFormed}
use Rattle.vg_terms.specs.Value.{value}
use Rattle.vg_program.specs.declared.program.Program.{Program}
use Rattle.vg_program.specs.Meaning.{Instructions}
use Rattle.vg_program.specs.Valid.{IsImm, KeepsRules}
use Rattle.vg_shapes.specs.declared.ssa.Ssa.{Ssa}
use Rattle.vg_shapes.specs.Sound.{IsSound}
use Rattle.vg_lanes.specs.Described.{AreLanes, canonical_lane, description}
use Rattle.vg_emission.specs.Laws.{MeansUnits}
use Rattle.vg_emission.specs.Truth.{IsTrueOf}
use Rattle.vg_catalog.specs.Called.{entry_named, headers_of, imm_number}
use Rattle.vg_catalog.specs.Entries.{Entry}
use Rattle.vg_known.specs.Calls.{is_opaque, lanes_of}
use Rattle.vg_known.specs.Classes.{AllFormed, ClassesMean}
use Rattle.vg_known.specs.Difference.{difference, difference_by, Equality}
use Rattle.vg_known.specs.WiderDifference.{equality, wider_difference}

-- The lanes of an instance fill its result, each at most 128 bits wide, and what its lanes say is what a
-- call of it gives.
pub record IsTold (called : Instructions) (e : Entry) (imm : Option ℕ) : Type 0 where
  pub lanes : AreLanes e.header (lanes_of e imm)
  pub some : 0 < e.header.lane_width
  pub few : e.header.lane_width ≤ 128
  pub means : IsTrueOf called (description e.header (imm_number imm) (map canonical_lane (lanes_of e imm)))

-- so it is of each instance all of whose lanes have terms
abbrev pub CallsAreTold : Instructions → List Entry → Type 0
CallsAreTold called entries =
    (name : List ℕ) (e : Entry) (imm : Option ℕ) → entry_named entries name ≡ Some e →
    IsImm e.header.imm imm → list_any is_opaque (lanes_of e imm) ≡ false → IsTold called e imm

-- In each environment in which the leaf of each class has the value of the class's term, terms that count as
-- equal have one value.
abbrev pub IsSoundEquality : Equality → Type 0
IsSoundEquality equal =
    (env : Env) (met : List Tree) (t u : Tree) →
    AllFormed met → ClassesMean env met → WellFormed t → WellFormed u →
    equal met t u ≡ true → value env t ≡ value env u

abbrev pub EqualitiesAreSound : Type 0
EqualitiesAreSound = (more : Bool) → IsSoundEquality (equality more)

-- a valid program without a difference to a sound kernel, with more or without, leaves what the units of the
-- kernel leave, or traps where they do, in each layout that respects noalias
abbrev pub SameMeansUnits : Type 0
SameMeansUnits =
    (more : Bool) (called : Instructions) (entries : List Entry) (ssa : Ssa) (p : Program) →
    IsSound ssa → KeepsRules (headers_of entries) p → CallsAreTold called entries →
    difference_by (equality more) entries ssa p ≡ None → MeansUnits called p ssa

-- where there is no difference, there is no wider one
abbrev pub SameIsSameWithMore : Type 0
SameIsSameWithMore =
    (entries : List Entry) (ssa : Ssa) (p : Program) →
    difference entries ssa p ≡ None → wider_difference entries ssa p ≡ None
