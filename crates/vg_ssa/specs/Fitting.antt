-- Operands whose terms an operation can take.
use Rattle.std.specs.Prelude.{◌≡◌, ◌<◌, ℕ, List, [], ◌∷◌, ◌++◌}
use Rattle.vg_base.specs.declared.width.Width.{Width}
use Rattle.vg_base.specs.Width.{bits_of}
use Rattle.vg_canon.specs.Canonical.{IsCanonical}
use Rattle.vg_shapes.specs.declared.ssa_unit.Operands.{Operands}
use Rattle.vg_shapes.specs.declared.ssa_unit.Operator.{Operator}
use Rattle.vg_shapes.specs.declared.ssa_unit.Operator.TheVariants.{Two, Shift, Resize, Compare, Select}
use Rattle.vg_shapes.specs.declared.ssa_unit.SsaUnit.{SsaUnit}
use Rattle.vg_shapes.specs.declared.ssa_unit.SsaUnit.TheVariants.{Load, Store, Operation}
use Rattle.vg_shapes.specs.declared.wanted.Wanted.{Wanted}
use Rattle.vg_shapes.specs.Sound.{IsChange}
use Rattle.vg_ssa.specs.declared.value_terms.Depth.{Depth}
use Rattle.vg_ssa.specs.ValueTerm.{cut_term, operand_term, unit_term, writes_bits}
use Rattle.vg_terms.specs.Term.{Tree, width_of, WellFormed}

-- a canonical term of this width
pub record IsTermOf (w : ℕ) (t : Tree) : Type 0 where
  pub well_formed : WellFormed t
  pub width : width_of t ≡ w
  pub is_canonical : IsCanonical t

-- terms that an operation of a width and an amount can take
abbrev pub OperandsFit : Operator → Width → ℕ → Tree → Tree → Tree → Type 0
OperandsFit (Two op) w k x y z = IsTermOf (bits_of w) x × IsTermOf (bits_of w) y
OperandsFit (Shift op) w k x y z = (k < bits_of w) × IsTermOf (bits_of w) x
OperandsFit (Resize op v) w k x y z = IsChange op w v × IsTermOf (bits_of v) x
OperandsFit (Compare op) w k x y z = IsTermOf (bits_of w) x × IsTermOf (bits_of w) y
OperandsFit Select w k x y z = IsTermOf 1 x × IsTermOf (bits_of w) y × IsTermOf (bits_of w) z

-- the same of what stands for operands
abbrev pub Fit : (Wanted → Tree) → Operator → Width → ℕ → Operands → Type 0
Fit term op w k xs = OperandsFit op w k (term xs.first) (term xs.second) (term xs.third)

-- the operands of a unit, whole and cut, where the first unit has this number
abbrev pub UnitFits : Depth → ℕ → List Tree → SsaUnit → Type 0
UnitFits d first terms (Load a w) = Unit {0}
UnitFits d first terms (Store a w x) = Unit {0}
UnitFits d first terms (Operation op w k xs) =
    Fit (operand_term terms) op w k xs × Fit (cut_term (writes_bits d) first terms) op w k xs

-- units, each after the terms so far
abbrev pub UnitsFit : Depth → ℕ → List Tree → List SsaUnit → Type 0
UnitsFit d first terms [] = Unit {0}
UnitsFit d first terms (u ∷ us) =
    UnitFits d first terms u × UnitsFit d first (terms ++ unit_term d first terms u ∷ []) us
