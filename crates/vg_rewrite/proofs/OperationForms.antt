-- The forms of an operation that is no comparison are those of a value.
use Rattle.std.proofs.Common.{◌≡◌, ℕ, Bool, true, false, List, Some, refl}
use Rattle.vg_base.specs.declared.width.Width.{Width}
use Rattle.vg_rewrite.specs.declared.asked.Asked.{Asked}
use Rattle.vg_rewrite.specs.Narrowed.{make_operation, make_value, Narrowing, no_value}
use Rattle.vg_shapes.specs.declared.ssa_unit.Operands.{Operands}
use Rattle.vg_shapes.specs.declared.ssa_unit.Operator.{Operator}
use Rattle.vg_shapes.specs.declared.ssa_unit.Operator.TheVariants.{Two, Shift, Resize, Compare, Select}
use Rattle.vg_shapes.specs.declared.ssa_unit.SsaUnit.TheVariants.{Operation}
use Rattle.vg_shapes.specs.declared.wanted.Wanted.TheVariants.{Nothing}
use Rattle.vg_spans.specs.declared.span.Span.{Span}

abbrev pub compares : Operator → Bool
compares (Two op) = false
compares (Shift op) = false
compares (Resize op from) = false
compares (Compare op) = true
compares Select = false

pub forms-made : (spans : List Span) (all : List Asked) (v : ℕ) (op : Operator) (w : Width) (k : ℕ) (xs : Operands) (g : Narrowing) → compares op ≡ false
    → make_value spans all v (Some (Operation op w k xs)) Nothing w (no_value g) ≡ make_operation spans all v op w k xs g
forms-made spans all v (Two op) w k xs g e = refl
forms-made spans all v (Shift op) w k xs g e = refl
forms-made spans all v (Resize op from) w k xs g e = refl
forms-made spans all v (Compare op) w k xs g e = absurd (cc)
forms-made spans all v Select w k xs g e = refl
