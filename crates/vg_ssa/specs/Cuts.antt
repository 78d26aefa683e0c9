-- The cut terms of the values of a kernel.
use Rattle.std.specs.Prelude.{◌≡◌, ℕ, List, Some, unwrap_or}
use Rattle.vg_base.specs.declared.width.Width.{Width}
use Rattle.vg_base.specs.Width.{bits_of}
use Rattle.vg_kernel.specs.Tree.{Tree as Kernel}
use Rattle.vg_kernel.specs.WellFormed.{integer_widths}
use Rattle.vg_shapes.specs.declared.ssa.Ssa.{Ssa}
use Rattle.vg_shapes.specs.declared.ssa_unit.Operands.{Operands}
use Rattle.vg_shapes.specs.declared.ssa_unit.Operator.{Operator}
use Rattle.vg_shapes.specs.declared.ssa_unit.SsaUnit.TheVariants.{Operation}
use Rattle.vg_shapes.specs.declared.wanted.Wanted.{Wanted}
use Rattle.vg_shapes.specs.declared.wanted.Wanted.TheVariants.{Value, Constant, Nothing}
use Rattle.vg_shapes.specs.Sound.{cut_at, cuts_of, name_at}
use Rattle.vg_shapes.specs.Units.{unit_at}
use Rattle.vg_ssa.specs.declared.value_terms.Depth.TheVariants.{Whole, Cut}
use Rattle.vg_ssa.specs.Numbering.{first_unit, units_of}
use Rattle.vg_ssa.specs.ValueTerm.{argument_terms, no_term, over_operands, terms_behind}
use Rattle.vg_terms.specs.Term.{Tree, constant}

-- for each number of the values of a kernel its term
abbrev pub whole_terms : Kernel → List Tree
whole_terms k =
    terms_behind Whole (first_unit k) (argument_terms 0 (integer_widths k.params)) (units_of k)

-- and its cut term
abbrev pub cut_terms : Kernel → List Tree
cut_terms k =
    terms_behind Cut (first_unit k) (argument_terms 0 (integer_widths k.params)) (units_of k)

-- each value has its cut term
abbrev pub HasCuts : Kernel → Ssa → Type 0
HasCuts k ssa = cuts_of ssa ≡ cut_terms k

-- the name of an operand; a constant is itself
abbrev pub named : Ssa → Wanted → Tree
named ssa (Value v) = unwrap_or (name_at ssa v) no_term
named ssa (Constant w n) = constant w n
named ssa Nothing = no_term

-- the cut term of an operation is its canonical form over the names of its operands
abbrev pub AreOverNames : Ssa → Type 0
AreOverNames ssa =
    (v : ℕ) (op : Operator) (w : Width) (k : ℕ) (xs : Operands) →
    unit_at ssa v ≡ Some (Operation op w k xs) →
    cut_at ssa v ≡ Some (over_operands (named ssa) op (bits_of w) k xs)
