-- The scalar program of a kernel: a line for each load, each store and each needed operation, in the
-- order of their numbers.
use Rattle.std.specs.Prelude.{◌≡◌, ℕ, zero, suc, ◌+◌, Bool, List, [], ◌∷◌, ◌++◌, length, map, sum_by, slice_index_or, if◌then◌else◌}
use Rattle.vg_base.specs.declared.width.Width.TheVariants.{W8}
use Rattle.vg_plans.specs.World.{is_in}
use Rattle.vg_program.specs.declared.line.Line.{Line}
use Rattle.vg_program.specs.declared.line.Line.TheVariants as line
use Rattle.vg_program.specs.declared.operand.Operand.{Operand as Number}
use Rattle.vg_program.specs.declared.operand.Operand.TheVariants.{Register, Argument, Literal}
use Rattle.vg_program.specs.declared.program.Program.{Program}
use Rattle.vg_program.specs.Cost.{line_cost}
use Rattle.vg_shapes.specs.declared.match_table.Match.{Match}
use Rattle.vg_shapes.specs.declared.order.Node.{Node}
use Rattle.vg_shapes.specs.declared.ssa.Ssa.{Ssa}
use Rattle.vg_shapes.specs.declared.ssa_unit.SsaUnit.{SsaUnit}
use Rattle.vg_shapes.specs.declared.ssa_unit.SsaUnit.TheVariants.{Load, Store, Operation}
use Rattle.vg_shapes.specs.declared.wanted.Wanted.{Wanted}
use Rattle.vg_shapes.specs.declared.wanted.Wanted.TheVariants.{Value, Constant, Nothing}
use Rattle.vg_shapes.specs.Description.{Description}
use Rattle.vg_shapes.specs.Units.{arguments}
use Rattle.vg_kernel_plans.specs.Packing.{falling_units}
use Rattle.vg_emission.specs.Emission.{operation_line, width_for}
use Rattle.vg_emission.specs.Program.{needed_behind, param_of, program_of}

-- stores and needed operations take the value
abbrev pub is_needed : Ssa → ℕ → Bool
is_needed ssa v = is_in v (needed_behind ssa [] [] (falling_units ssa))

-- what stands for an operand, by what stands for each value so far
abbrev pub scalar_operand : List Number → Wanted → Number
scalar_operand names (Value v) = slice_index_or names v (Register 0)
scalar_operand names (Constant w n) = Literal (width_for w) n
scalar_operand names Nothing = Literal W8 0

abbrev pub argument_names : ℕ → ℕ → List Number
argument_names k zero = []
argument_names k (suc n) = Argument k ∷ argument_names (k + 1) n

-- The lines of units after lines that gave so many scalars. Nothing stands for the value of a store or
-- of an operation that is not needed; the first register is named in its place.
abbrev pub scalar_lines : (ℕ → Bool) → ℕ → List Number → List SsaUnit → List Line
scalar_lines needed k names [] = []
scalar_lines needed k names (Load a w ∷ us) =
    line.Load w a ∷ scalar_lines needed (k + 1) (names ++ Register k ∷ []) us
scalar_lines needed k names (Store a w x ∷ us) =
    line.Store w a (scalar_operand names x) ∷ scalar_lines needed k (names ++ Register 0 ∷ []) us
scalar_lines needed k names (Operation op w n xs ∷ us) =
    if needed (length names)
    then operation_line op w n (scalar_operand names xs.first) (scalar_operand names xs.second)
    (scalar_operand names xs.third)
    ∷ scalar_lines needed (k + 1) (names ++ Register k ∷ []) us
    else scalar_lines needed k (names ++ Register 0 ∷ []) us

abbrev pub lines_of_units : Ssa → List Line
lines_of_units ssa =
    scalar_lines (is_needed ssa) 0 (argument_names 0 (arguments ssa)) ssa.units

abbrev pub scalar_program : Ssa → Program
scalar_program ssa = record {
  name = ssa.name;
  params = map param_of ssa.params;
  lines = lines_of_units ssa;
  cost = sum_by line_cost (lines_of_units ssa);
  scalar = length ssa.units;
}

-- it is what is emitted for no packs, whatever descriptions, matches and order are given
abbrev pub NoPacksAreScalar : Type 0
NoPacksAreScalar =
    (ds : List Description) (matches : List Match) (ssa : Ssa) (order : List Node) →
    program_of ds matches ssa [] [] order ≡ scalar_program ssa
