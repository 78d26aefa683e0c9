-- Repeated units of small kernels, as the definition computes them.
use Rattle.std.proofs.Common.{◌≡◌, ℕ, Bool, true, false, List, [], ◌∷◌, refl}
use Rattle.std.specs.Prelude.{pos}
use Rattle.vg_base.specs.declared.address.Address.{Address}
use Rattle.vg_base.specs.declared.width.Width.TheVariants.{W8, W32}
use Rattle.vg_rewrite.specs.Repeated.{repeated_units}
use Rattle.vg_scalar.specs.declared.resize.Resize.TheVariants.{Zext}
use Rattle.vg_scalar.specs.declared.two_op.TwoOp.TheVariants.{Add, Mul}
use Rattle.vg_shapes.specs.declared.ssa.Ssa.{Ssa}
use Rattle.vg_shapes.specs.declared.ssa.SsaParamKind.TheVariants.{Pointer}
use Rattle.vg_shapes.specs.declared.ssa_unit.Operands.{Operands}
use Rattle.vg_shapes.specs.declared.ssa_unit.Operator.TheVariants.{Two, Resize}
use Rattle.vg_shapes.specs.declared.ssa_unit.SsaUnit.{SsaUnit}
use Rattle.vg_shapes.specs.declared.ssa_unit.SsaUnit.TheVariants.{Load, Store, Operation}
use Rattle.vg_shapes.specs.declared.wanted.Wanted.{Wanted}
use Rattle.vg_shapes.specs.declared.wanted.Wanted.TheVariants.{Value, Constant, Nothing}

abbrev place : ℕ → ℕ → Address
place p n = record { pointer = p; offset = pos n }

abbrev one : Wanted → Operands
one x = record { first = x; second = Nothing; third = Nothing }

abbrev two : Wanted → Wanted → Operands
two x y = record { first = x; second = y; third = Nothing }

abbrev three : Wanted → Wanted → Wanted → Operands
three x y z = record { first = x; second = y; third = z }

-- units over a pointer that is written and one that is read
abbrev over : Bool → List SsaUnit → Ssa
over noalias us =
    record {
      name = [];
      params = (record { name = []; kind = Pointer noalias }) ∷ (record { name = []; kind = Pointer false }) ∷ [];
      units = us;
      terms = [];
      cuts = [];
    }

-- two sums of neighbours: the second use of a load reads anew
shared-load :
    repeated_units (over true (Load (place 1 0) W32
    ∷ Load (place 1 4) W32
    ∷ Load (place 1 8) W32
    ∷ Operation (Two Add) W32 0 (two (Value 0) (Value 1))
    ∷ Store (place 0 0) W32 (Value 3)
    ∷ Operation (Two Add) W32 0 (two (Value 1) (Value 2))
    ∷ Store (place 0 4) W32 (Value 5)
    ∷ []))
    ≡ (Load (place 1 0) W32
    ∷ Load (place 1 4) W32
    ∷ Operation (Two Add) W32 0 (two (Value 0) (Value 1))
    ∷ Store (place 0 0) W32 (Value 2)
    ∷ Load (place 1 4) W32
    ∷ Load (place 1 8) W32
    ∷ Operation (Two Add) W32 0 (two (Value 4) (Value 5))
    ∷ Store (place 0 4) W32 (Value 6)
    ∷ [])
shared-load = refl

-- the same without noalias: behind the store that may meet it the load is taken where it stood
behind-a-store :
    repeated_units (over false (Load (place 1 0) W32
    ∷ Load (place 1 4) W32
    ∷ Load (place 1 8) W32
    ∷ Operation (Two Add) W32 0 (two (Value 0) (Value 1))
    ∷ Store (place 0 0) W32 (Value 3)
    ∷ Operation (Two Add) W32 0 (two (Value 1) (Value 2))
    ∷ Store (place 0 4) W32 (Value 5)
    ∷ []))
    ≡ (Load (place 1 4) W32
    ∷ Load (place 1 8) W32
    ∷ Load (place 1 0) W32
    ∷ Load (place 1 4) W32
    ∷ Operation (Two Add) W32 0 (two (Value 2) (Value 3))
    ∷ Store (place 0 0) W32 (Value 4)
    ∷ Operation (Two Add) W32 0 (two (Value 0) (Value 1))
    ∷ Store (place 0 4) W32 (Value 6)
    ∷ [])
behind-a-store = refl

-- a product of a byte with itself, and a sum behind a store; a load that nothing uses stays
extensions :
    repeated_units (over true (Load (place 1 0) W8
    ∷ Operation (Resize Zext W8) W32 0 (one (Value 0))
    ∷ Operation (Two Mul) W32 0 (two (Value 1) (Value 1))
    ∷ Store (place 0 0) W32 (Value 2)
    ∷ Operation (Two Add) W32 0 (two (Value 1) (Constant 32 1))
    ∷ Store (place 0 4) W32 (Value 4)
    ∷ Load (place 1 9) W8
    ∷ []))
    ≡ (Load (place 1 0) W8
    ∷ Operation (Resize Zext W8) W32 0 (one (Value 0))
    ∷ Load (place 1 0) W8
    ∷ Operation (Resize Zext W8) W32 0 (one (Value 2))
    ∷ Operation (Two Mul) W32 0 (two (Value 1) (Value 3))
    ∷ Store (place 0 0) W32 (Value 4)
    ∷ Load (place 1 0) W8
    ∷ Operation (Resize Zext W8) W32 0 (one (Value 6))
    ∷ Operation (Two Add) W32 0 (two (Value 7) (Constant 32 1))
    ∷ Store (place 0 4) W32 (Value 8)
    ∷ Load (place 1 9) W8
    ∷ [])
extensions = refl

-- the same without noalias
extension-behind-a-store :
    repeated_units (over false (Load (place 1 0) W8
    ∷ Operation (Resize Zext W8) W32 0 (one (Value 0))
    ∷ Operation (Two Mul) W32 0 (two (Value 1) (Value 1))
    ∷ Store (place 0 0) W32 (Value 2)
    ∷ Operation (Two Add) W32 0 (two (Value 1) (Constant 32 1))
    ∷ Store (place 0 4) W32 (Value 4)
    ∷ Load (place 1 9) W8
    ∷ []))
    ≡ (Load (place 1 0) W8
    ∷ Operation (Resize Zext W8) W32 0 (one (Value 0))
    ∷ Load (place 1 0) W8
    ∷ Operation (Resize Zext W8) W32 0 (one (Value 2))
    ∷ Load (place 1 0) W8
    ∷ Operation (Resize Zext W8) W32 0 (one (Value 4))
    ∷ Operation (Two Mul) W32 0 (two (Value 3) (Value 5))
    ∷ Store (place 0 0) W32 (Value 6)
    ∷ Operation (Two Add) W32 0 (two (Value 1) (Constant 32 1))
    ∷ Store (place 0 4) W32 (Value 8)
    ∷ Load (place 1 9) W8
    ∷ [])
extension-behind-a-store = refl
