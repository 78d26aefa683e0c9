-- The program that is emitted for packs, with a recipe for each of their operands, in an order.
use Rattle.std.specs.Prelude.{ℕ, suc, ◌+◌, ◌&&◌, ◌||◌, not, Bool, List, [], ◌∷◌, ◌++◌, length, map, flat_map, sum_by, is_some, if◌then◌else◌}
use Rattle.vg_base.specs.Trap.{◌>>=◌}
use Rattle.vg_plans.specs.Levels.{distinct}
use Rattle.vg_plans.specs.World.{is_in}
use Rattle.vg_program.specs.declared.line.Line.{Line}
use Rattle.vg_program.specs.declared.param.Param.{Param}
use Rattle.vg_program.specs.declared.param_kind.ParamKind.{ParamKind}
use Rattle.vg_program.specs.declared.param_kind.ParamKind.TheVariants as kind
use Rattle.vg_program.specs.declared.program.Program.{Program}
use Rattle.vg_program.specs.Cost.{line_cost}
use Rattle.vg_shapes.specs.declared.match_table.Match.{Match}
use Rattle.vg_shapes.specs.declared.operand.Operand.{Operand}
use Rattle.vg_shapes.specs.declared.order.Node.{Node}
use Rattle.vg_shapes.specs.declared.order.Node.TheVariants.{UnitAt}
use Rattle.vg_shapes.specs.declared.pack.Pack.{Pack}
use Rattle.vg_shapes.specs.declared.ssa.Ssa.{Ssa}
use Rattle.vg_shapes.specs.declared.ssa.SsaParam.{SsaParam}
use Rattle.vg_shapes.specs.declared.ssa.SsaParamKind.{SsaParamKind}
use Rattle.vg_shapes.specs.declared.ssa.SsaParamKind.TheVariants.{Pointer, Integer}
use Rattle.vg_shapes.specs.Description.{Description}
use Rattle.vg_shapes.specs.Layout.{access_at}
use Rattle.vg_shapes.specs.Nodes.{is_packed}
use Rattle.vg_shapes.specs.Order.{numbers_from}
use Rattle.vg_shapes.specs.Sound.{unit_bits}
use Rattle.vg_shapes.specs.Units.{arguments, unit_at}
use Rattle.vg_kernel_plans.specs.declared.recipe.Recipe.{Recipe}
use Rattle.vg_kernel_plans.specs.declared.recipe.Recipe.TheVariants as recipe
use Rattle.vg_kernel_plans.specs.Packing.{falling_units, used_by}
use Rattle.vg_kernel_plans.specs.SameAs.{same_operand}
use Rattle.vg_kernel_plans.specs.Taken.{operands_of}
use Rattle.vg_kernel_plans.specs.Wants.{wanted_values}
use Rattle.vg_emission.specs.Draft.{Draft, blank}
use Rattle.vg_emission.specs.Emission.{Job, emitted}

-- ---- operands

-- the operands of packs, each once, in the order in which the packs take them
abbrev pub operands_in : List Description → List Match → Ssa → List Pack → List Operand
operands_in ds matches ssa packs = distinct same_operand (flat_map (operands_of ds matches ssa) packs)

-- the number of an operand among them
abbrev pub number_in : List Operand → Operand → ℕ
number_in [] o = 0
number_in (x ∷ xs) o = if same_operand x o then 0 else suc (number_in xs o)

-- for each pack the numbers of the operands that it takes
abbrev pub takes_in : List Description → List Match → Ssa → List Pack → List Operand → List (List ℕ)
takes_in ds matches ssa packs operands =
    map (λ p. map (number_in operands) (operands_of ds matches ssa p)) packs

-- ---- values that are needed as scalars

-- the values that a recipe puts into a register
abbrev pub inserted_by : Recipe → Operand → List ℕ
inserted_by (recipe.Reuse k) o = []
inserted_by (recipe.Constant bs) o = []
inserted_by (recipe.Shuffle e packs) o = []
inserted_by recipe.Inserts o = wanted_values o

-- the same of recipes, each of which is that of one of the operands
abbrev pub all_inserted : List Recipe → List Operand → List ℕ
all_inserted [] os = []
all_inserted (r ∷ rs) [] = []
all_inserted (r ∷ rs) (o ∷ os) = inserted_by r o ++ all_inserted rs os

-- a unit that is emitted as a scalar: outside all packs, an access or a value that is needed
abbrev pub is_scalar : Ssa → List Pack → List ℕ → ℕ → Bool
is_scalar ssa packs needed v =
    not (is_packed packs v) && (is_some (access_at ssa v) || is_in v needed)

-- what is needed after units by falling number: what is needed before, and what units use that are
-- emitted as scalars
abbrev pub needed_behind : Ssa → List Pack → List ℕ → List ℕ → List ℕ
needed_behind ssa packs needed [] = needed
needed_behind ssa packs needed (v ∷ vs) =
    needed_behind ssa packs
    (if is_scalar ssa packs needed v then used_by (unit_at ssa v) ++ needed else needed) vs

-- a load or an operation
abbrev pub has_value : Ssa → ℕ → Bool
has_value ssa v = is_some (unit_at ssa v >>= unit_bits)

-- ---- the program

-- what the lines of packs are emitted from
abbrev pub job_of : List Description → List Match → Ssa → List Pack → List Recipe → Job
job_of ds matches ssa packs recipes =
    let operands = operands_in ds matches ssa packs in
    let needed = needed_behind ssa packs (all_inserted recipes operands) (falling_units ssa) in
    record {
      ssa = ssa;
      descriptions = ds;
      packs = packs;
      takes = takes_in ds matches ssa packs operands;
      operands = operands;
      recipes = recipes;
      needed = λ v. has_value ssa v && is_in v needed;
    }

-- without packs the units stand in the order of their numbers, whatever order is given
abbrev pub ordered : Ssa → List Pack → List Node → List Node
ordered ssa [] order = map UnitAt (numbers_from (arguments ssa) (length ssa.units))
ordered ssa (p ∷ packs) order = order

-- nothing is emitted yet
abbrev pub begin : Job → Draft
begin j = blank (arguments j.ssa + length j.ssa.units) (length j.packs) (length j.operands)

abbrev pub lines_of : Job → List Node → List Line
lines_of j order = emitted j (begin j) (ordered j.ssa j.packs order)

abbrev pub kind_of : SsaParamKind → ParamKind
kind_of (Pointer noalias) = kind.Pointer
kind_of (Integer w) = kind.Integer w

abbrev pub param_of : SsaParam → Param
param_of p = record { name = p.name; kind = kind_of p.kind }

-- it states its own cost, and as the cost of the kernel as written the number of its units
abbrev pub program_from : Job → List Node → Program
program_from j order = record {
  name = j.ssa.name;
  params = map param_of j.ssa.params;
  lines = lines_of j order;
  cost = sum_by line_cost (lines_of j order);
  scalar = length j.ssa.units;
}

abbrev pub program_of : List Description → List Match → Ssa → List Pack → List Recipe → List Node → Program
program_of ds matches ssa packs recipes order = program_from (job_of ds matches ssa packs recipes) order
