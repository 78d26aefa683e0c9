-- What the types of the code stand for.
use Rattle.std.specs.Prelude.{ℕ, ◌<◌, ◌^◌, ◌&&◌, List, ◌++◌, map, Option, Some, None}
use Rattle.vg_shapes.specs.declared.ssa_unit.SsaUnit.{SsaUnit}
use Rattle.vg_shapes.specs.declared.ssa_unit.SsaUnit.TheVariants.{Load, Store, Operation}
use Rattle.vg_shapes.specs.declared.wanted.Wanted.{Wanted}
use Rattle.vg_shapes.specs.declared.wanted.Wanted.TheVariants.{Value, Constant, Nothing}
use Rattle.vg_shapes.specs.Description.{description_of}
use Rattle.vg_emission.specs.Draft.{Draft, Made}
use Rattle.vg_emission.specs.Emission.{AllPlaced, Job, Placed}
use Rattle.vg_emission.specs.Program.{has_value}
use Rattle.vg_emit.specs.declared.draft.Draft as code
use Rattle.vg_emit.specs.declared.job.Job as code_job
use Rattle.vg_emit.specs.Marks.{is_marked}

-- what is known after the lines of a draft
abbrev pub known : code.Draft → Draft
known d = record {
  scalars = d.scalars;
  vectors = d.vectors;
  names = d.names;
  held = d.held;
  built = d.built;
}

-- the same with the lines
abbrev pub made_of : code.Draft → Made
made_of d = record { lines = d.lines.items; draft = known d }

-- lines after others, and what is known after them
abbrev pub behind : Made → Made → Made
behind m n = record { lines = m.lines ++ n.lines; draft = n.draft }

-- lines of an operand after others
abbrev pub placed_behind : Made → Placed → Placed
placed_behind m p = record { lines = m.lines ++ p.lines; draft = p.draft; register = p.register }

-- the draft with the register of an operand
abbrev pub placed_of : code.Draft → ℕ → Placed
placed_of d r = record { lines = d.lines.items; draft = known d; register = r }

-- the same of several operands
abbrev pub all_placed_of : code.Draft → List ℕ → AllPlaced
all_placed_of d rs = record { lines = d.lines.items; draft = known d; registers = rs }

abbrev pub all_placed_behind : AllPlaced → AllPlaced → AllPlaced
all_placed_behind m p = record {
  lines = m.lines ++ p.lines;
  draft = p.draft;
  registers = m.registers ++ p.registers;
}

-- a job, where the values that are needed have marks
abbrev pub job_of : code_job.Job → Job
job_of j = record {
  ssa = j.ssa.now;
  descriptions = map description_of j.descriptions.now;
  packs = j.packs.now;
  takes = j.takes.items;
  operands = j.operands.items;
  recipes = j.recipes.now;
  needed = λ v. has_value j.ssa.now v && is_marked j.needed v;
}

-- constants of at most 64 bits
abbrev pub IsNarrow : Wanted → Type 0
IsNarrow (Value v) = Unit {0}
IsNarrow (Constant w n) = n < 2 ^ 64
IsNarrow Nothing = Unit {0}

-- of the operands of a unit
abbrev pub TakesNarrow : Option SsaUnit → Type 0
TakesNarrow None = Unit {0}
TakesNarrow (Some (Load a w)) = Unit {0}
TakesNarrow (Some (Store a w x)) = IsNarrow x
TakesNarrow (Some (Operation op w k xs)) =
    IsNarrow xs.first × IsNarrow xs.second × IsNarrow xs.third
