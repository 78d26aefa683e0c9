-- Narrowed units of small kernels, as the definition computes them.
use Rattle.std.proofs.Common.{◌≡◌, ℕ, false, List, [], ◌∷◌, refl}
use Rattle.std.specs.Prelude.{pos}
use Rattle.vg_base.specs.declared.address.Address.{Address}
use Rattle.vg_base.specs.declared.width.Width.TheVariants.{W8, W16, W32}
use Rattle.vg_rewrite.specs.Narrowed.{narrowed_units}
use Rattle.vg_scalar.specs.declared.comparison.Comparison.TheVariants.{Slt}
use Rattle.vg_scalar.specs.declared.resize.Resize.TheVariants.{Sext, Zext, Trunc}
use Rattle.vg_scalar.specs.declared.shift.Shift.TheVariants.{Shl, Lshr, Ashr}
use Rattle.vg_scalar.specs.declared.two_op.TwoOp.TheVariants.{Add, Mul, Umin}
use Rattle.vg_shapes.specs.declared.ssa.Ssa.{Ssa}
use Rattle.vg_shapes.specs.declared.ssa.SsaParamKind.TheVariants.{Pointer, Integer}
use Rattle.vg_shapes.specs.declared.ssa_unit.Operands.{Operands}
use Rattle.vg_shapes.specs.declared.ssa_unit.Operator.TheVariants.{Two, Shift, Resize, Compare, Select}
use Rattle.vg_shapes.specs.declared.ssa_unit.SsaUnit.{SsaUnit}
use Rattle.vg_shapes.specs.declared.ssa_unit.SsaUnit.TheVariants.{Load, Store, Operation}
use Rattle.vg_shapes.specs.declared.wanted.Wanted.{Wanted}
use Rattle.vg_shapes.specs.declared.wanted.Wanted.TheVariants.{Value, Constant, Nothing}

abbrev place : ℕ → ℕ → Address
place p n = record { pointer = p; offset = pos n }

abbrev one : Wanted → Operands
one x = record { first = x; second = Nothing; third = Nothing }

abbrev two : Wanted → Wanted → Operands
two x y = record { first = x; second = y; third = Nothing }

abbrev three : Wanted → Wanted → Wanted → Operands
three x y z = record { first = x; second = y; third = z }

-- units over an integer of 32 bits and a pointer
abbrev over : List SsaUnit → Ssa
over us =
    record {
      name = [];
      params = (record { name = []; kind = Integer W32 }) ∷ (record { name = []; kind = Pointer false }) ∷ [];
      units = us;
      terms = [];
      cuts = [];
    }

-- a negative number's low bits come from above, so 16 bits are taken
negative-number :
    narrowed_units (over (Load (place 0 0) W8
    ∷ Operation (Resize Sext W8) W32 0 (one (Value 1))
    ∷ Operation (Two Add) W32 0 (two (Value 2) (Constant 32 1))
    ∷ Operation (Shift Lshr) W32 1 (one (Value 3))
    ∷ Operation (Resize Trunc W32) W8 0 (one (Value 4))
    ∷ Store (place 0 0) W8 (Value 5)
    ∷ []))
    ≡ (Load (place 0 0) W8
    ∷ Operation (Resize Sext W8) W16 0 (one (Value 1))
    ∷ Operation (Two Add) W16 0 (two (Value 2) (Constant 16 1))
    ∷ Operation (Shift Lshr) W16 1 (one (Value 3))
    ∷ Operation (Resize Trunc W16) W8 0 (one (Value 4))
    ∷ Store (place 0 0) W8 (Value 5)
    ∷ [])
negative-number = refl

-- sums of bytes fit 16 bits
sums-of-bytes :
    narrowed_units (over (Load (place 0 0) W8
    ∷ Operation (Resize Zext W8) W32 0 (one (Value 1))
    ∷ Operation (Two Mul) W32 0 (two (Value 2) (Constant 32 3))
    ∷ Load (place 0 1) W8
    ∷ Operation (Resize Zext W8) W32 0 (one (Value 4))
    ∷ Operation (Two Add) W32 0 (two (Value 3) (Value 5))
    ∷ Operation (Shift Lshr) W32 2 (one (Value 6))
    ∷ Operation (Resize Trunc W32) W8 0 (one (Value 7))
    ∷ Store (place 0 0) W8 (Value 8)
    ∷ []))
    ≡ (Load (place 0 0) W8
    ∷ Operation (Resize Zext W8) W16 0 (one (Value 1))
    ∷ Operation (Two Mul) W16 0 (two (Value 2) (Constant 16 3))
    ∷ Load (place 0 1) W8
    ∷ Operation (Resize Zext W8) W16 0 (one (Value 4))
    ∷ Operation (Two Add) W16 0 (two (Value 3) (Value 5))
    ∷ Operation (Shift Lshr) W16 2 (one (Value 6))
    ∷ Operation (Resize Trunc W16) W8 0 (one (Value 7))
    ∷ Store (place 0 0) W8 (Value 8)
    ∷ [])
sums-of-bytes = refl

-- an unsigned and a signed byte compare at 16 bits, two unsigned ones at 8
comparisons :
    narrowed_units (over (Load (place 0 0) W8
    ∷ Operation (Resize Zext W8) W32 0 (one (Value 1))
    ∷ Load (place 0 1) W8
    ∷ Operation (Resize Sext W8) W32 0 (one (Value 3))
    ∷ Operation (Compare Slt) W32 0 (two (Value 2) (Value 4))
    ∷ Operation Select W32 0 (three (Value 5) (Value 2) (Constant 32 4294967295))
    ∷ Store (place 0 4) W32 (Value 6)
    ∷ Operation (Two Umin) W32 0 (two (Value 2) (Constant 32 9))
    ∷ Operation (Resize Trunc W32) W8 0 (one (Value 8))
    ∷ Store (place 0 8) W8 (Value 9)
    ∷ []))
    ≡ (Load (place 0 0) W8
    ∷ Operation (Resize Zext W8) W16 0 (one (Value 1))
    ∷ Load (place 0 1) W8
    ∷ Operation (Resize Sext W8) W16 0 (one (Value 3))
    ∷ Operation (Compare Slt) W16 0 (two (Value 2) (Value 4))
    ∷ Operation Select W16 0 (three (Value 5) (Value 2) (Constant 16 65535))
    ∷ Operation (Resize Sext W16) W32 0 (one (Value 6))
    ∷ Store (place 0 4) W32 (Value 7)
    ∷ Operation (Two Umin) W8 0 (two (Value 1) (Constant 8 9))
    ∷ Store (place 0 8) W8 (Value 9)
    ∷ [])
comparisons = refl

-- a parameter has what is asked of it; a shift by all bits is 0
parameters :
    narrowed_units (over (Operation (Two Add) W32 0 (two (Value 0) (Constant 32 5))
    ∷ Operation (Shift Shl) W32 9 (one (Value 1))
    ∷ Operation (Resize Trunc W32) W8 0 (one (Value 2))
    ∷ Store (place 0 0) W8 (Value 3)
    ∷ Operation (Resize Trunc W32) W16 0 (one (Value 1))
    ∷ Store (place 0 2) W16 (Value 5)
    ∷ Operation (Shift Ashr) W32 4 (one (Value 0))
    ∷ Operation (Resize Trunc W32) W16 0 (one (Value 7))
    ∷ Store (place 0 4) W16 (Value 8)
    ∷ []))
    ≡ (Operation (Resize Trunc W32) W16 0 (one (Value 0))
    ∷ Operation (Two Add) W16 0 (two (Value 1) (Constant 16 5))
    ∷ Store (place 0 0) W8 (Constant 8 0)
    ∷ Store (place 0 2) W16 (Value 2)
    ∷ Operation (Shift Ashr) W32 4 (one (Value 0))
    ∷ Operation (Resize Trunc W32) W16 0 (one (Value 5))
    ∷ Store (place 0 4) W16 (Value 6)
    ∷ [])
parameters = refl
