-- What the forms of a sound unit are made of can be read.
use Rattle.std.proofs.Common.{◌≡◌, ℕ, ◌^◌, ◌<◌, Bool, true, false, List, Option, Some, None, sym, subst, arith}
use Rattle.std.specs.Prelude.{nat_le, nat_lt, pos, slice_index_or, if◌then◌else◌}
use Rattle.vg_base.specs.declared.width.Width.{Width}
use Rattle.vg_base.specs.Width.{bits_of}
use Rattle.vg_rewrite.specs.declared.choice.Compared.{Compared}
use Rattle.vg_rewrite.specs.declared.choice.Reading.{Reading}
use Rattle.vg_rewrite.specs.declared.choice.Reading.TheVariants.{Signed, Unsigned}
use Rattle.vg_rewrite.specs.declared.choice.Shifted.{Shifted}
use Rattle.vg_rewrite.specs.declared.form.Form.{Form}
use Rattle.vg_rewrite.specs.declared.form.Form.TheVariants.{Own, Zero, Same, Whole, Cut}
use Rattle.vg_rewrite.specs.declared.form.Made.{Made}
use Rattle.vg_rewrite.specs.Choice.{natural_width, shift_choice}
use Rattle.vg_rewrite.specs.Form.{alone, compare_operands, extreme_form, greater_by, lesser_by, made, narrow_form, operation_form, own_form, right_form, shift_form, two_form, value_form, wide_form}
use Rattle.vg_rewrite.specs.Readable.{AreWords, FormHasWords, FormOver, FormsAreRead, IsWord, UnitHasWords, UnitIsNarrowed}
use Rattle.vg_scalar.specs.declared.resize.Resize.TheVariants.{Sext, Zext, Trunc}
use Rattle.vg_scalar.specs.declared.shift.Shift.{Shift}
use Rattle.vg_scalar.specs.declared.shift.Shift.TheVariants.{Shl, Lshr, Ashr}
use Rattle.vg_scalar.specs.declared.two_op.TwoOp.{TwoOp}
use Rattle.vg_scalar.specs.declared.two_op.TwoOp.TheVariants.{Add, Sub, Mul, And, Or, Xor, Smin, Smax, Umin, Umax}
use Rattle.vg_shapes.specs.declared.ssa.Ssa.{Ssa}
use Rattle.vg_shapes.specs.declared.ssa_unit.Operands.{Operands}
use Rattle.vg_shapes.specs.declared.ssa_unit.Operator.{Operator}
use Rattle.vg_shapes.specs.declared.ssa_unit.Operator.TheVariants.{Two, Shift as Shifting, Resize, Compare, Select}
use Rattle.vg_shapes.specs.declared.ssa_unit.SsaUnit.{SsaUnit}
use Rattle.vg_shapes.specs.declared.ssa_unit.SsaUnit.TheVariants.{Load, Store, Operation}
use Rattle.vg_shapes.specs.declared.wanted.Wanted.{Wanted}
use Rattle.vg_shapes.specs.declared.wanted.Wanted.TheVariants.{Value, Constant, Nothing}
use Rattle.vg_shapes.specs.Sound.{IsBit, IsNumber, IsOperation, IsUnit}
use Rattle.vg_spans.specs.declared.span.Span.{Span}
use Rattle.vg_spans.specs.Operand.{IsOperand}
use Rattle.vg_spans.specs.Span.{is_unsigned, only}
use Rattle.vg_spans.specs.Spans.{operand_span}
use Rattle.vg_spans.proofs.Runs.{width-most, width-some}

-- ---- forms

-- the second holds of the condition of a choice, the first of any other first operand
abbrev pub FirstOver : (Wanted → Type 0) → (Wanted → Type 0) → Operator → Wanted → Type 0
FirstOver P Q (Two op) x = P x
FirstOver P Q (Shifting op) x = P x
FirstOver P Q (Resize op from) x = P x
FirstOver P Q (Compare op) x = P x
FirstOver P Q Select x = Q x

-- and the first of the others
abbrev pub OperandsOver : (Wanted → Type 0) → (Wanted → Type 0) → Operator → Operands → Type 0
OperandsOver P Q op xs = FirstOver P Q op xs.first × P xs.second × P xs.third

abbrev pub MadeOver : (Wanted → Type 0) → (Wanted → Type 0) → Made → Type 0
MadeOver P Q m = OperandsOver P Q m.op m.operands

abbrev pub PartsOver : (Wanted → Type 0) → (Wanted → Type 0) → Form → Type 0
PartsOver P Q Own = Unit {0}
PartsOver P Q Zero = Unit {0}
PartsOver P Q (Same x) = P x
PartsOver P Q (Whole m) = MadeOver P Q m
PartsOver P Q (Cut m) = MadeOver P Q m

-- of the operands of a unit
abbrev pub UnitOver : (Wanted → Type 0) → (Wanted → Type 0) → Option SsaUnit → Type 0
UnitOver P Q None = Unit {0}
UnitOver P Q (Some (Load a w)) = Unit {0}
UnitOver P Q (Some (Store a w x)) = Unit {0}
UnitOver P Q (Some (Operation op w k xs)) = OperandsOver P Q op xs

module _ (P Q : Wanted → Type 0) where
  if-over : (b : Bool) (x y : Form) → PartsOver P Q x → PartsOver P Q y → PartsOver P Q (if b then x else y)
  if-over true x y h k = h
  if-over false x y h k = k

  cut-over : (w t : Width) (m : Made) → MadeOver P Q m → PartsOver P Q (if nat_lt (bits_of w) (bits_of t) then Cut m else Whole m)
  cut-over w t m h = if-over (nat_lt (bits_of w) (bits_of t)) (Cut m) (Whole m) h h

  extreme-over : (op : Reading → TwoOp) (w : Width) (xs : Operands) (c : Compared) → OperandsOver P Q (Two Add) xs → PartsOver P Q (extreme_form op w xs c)
  extreme-over op w xs c h = cut-over w c.width (made (Two (op c.reading)) c.width 0 xs c.width) h

  two-over : (spans : List Span) (op : TwoOp) (own : Width) (xs : Operands) (w : Width) → OperandsOver P Q (Two Add) xs → PartsOver P Q (two_form spans op own xs w)
  two-over spans Add own xs w h = h
  two-over spans Sub own xs w h = h
  two-over spans Mul own xs w h = h
  two-over spans And own xs w h = h
  two-over spans Or own xs w h = h
  two-over spans Xor own xs w h = h
  two-over spans Smin own xs w h = extreme-over lesser_by w xs (compare_operands spans Signed own xs) h
  two-over spans Smax own xs w h = extreme-over greater_by w xs (compare_operands spans Signed own xs) h
  two-over spans Umin own xs w h = extreme-over lesser_by w xs (compare_operands spans Unsigned own xs) h
  two-over spans Umax own xs w h = extreme-over greater_by w xs (compare_operands spans Unsigned own xs) h

  right-over : (w : Width) (k : ℕ) (xs : Operands) (c : Shifted) → OperandsOver P Q (Shifting Lshr) xs → PartsOver P Q (right_form w k xs c)
  right-over w k xs c h = cut-over w c.width (made (Shifting c.op) c.width k xs c.width) h

  shift-over : (spans : List Span) (op : Shift) (own : Width) (k : ℕ) (xs : Operands) (w : Width) → OperandsOver P Q (Shifting Lshr) xs → PartsOver P Q (shift_form spans op own k xs w)
  shift-over spans Shl own k xs w h = if-over (nat_le (bits_of w) k) Zero (Whole (made (Shifting Shl) w k xs w)) tt h
  shift-over spans Lshr own k xs w h = right-over w k xs (shift_choice Lshr k own (operand_span spans xs.first) w) h
  shift-over spans Ashr own k xs w h = right-over w k xs (shift_choice Ashr k own (operand_span spans xs.first) w) h

  pub operation-over : (spans : List Span) (op : Operator) (own : Width) (k : ℕ) (xs : Operands) (w : Width) → OperandsOver P Q op xs → PartsOver P Q (operation_form spans op own k xs w)
  operation-over spans (Two op) own k xs w h = two-over spans op own xs w h
  operation-over spans (Shifting op) own k xs w h = shift-over spans op own k xs w h
  operation-over spans (Resize op from) own k xs w h = h.0
  operation-over spans (Compare op) own k xs w h = h
  operation-over spans Select own k xs w h = h

  own-over : (v : ℕ) (own w : Width) → P (Value v) → P Nothing → PartsOver P Q (own_form v own w)
  own-over v own w a b = if-over (nat_lt (bits_of w) (bits_of own)) (Whole (made (Resize Trunc own) w 0 (alone (Value v)) own)) Own (a, b, b) tt

  narrow-over : (spans : List Span) (v : ℕ) (unit : Option SsaUnit) (own w : Width) → P (Value v) → P Nothing → UnitOver P Q unit → PartsOver P Q (narrow_form spans v unit own w)
  narrow-over spans v None own w a b h = own-over v own w a b
  narrow-over spans v (Some (Load x m)) own w a b h = own-over v own w a b
  narrow-over spans v (Some (Store x m y)) own w a b h = tt
  narrow-over spans v (Some (Operation op m k xs)) own w a b h = operation-over spans op m k xs w h

  wide-over : (s : Span) (v : ℕ) (t w : Width) → P (Value v) → P Nothing → PartsOver P Q (wide_form s v t w)
  wide-over s v t w a b =
      if-over (is_unsigned (bits_of t) s) (Whole (made (Resize Zext t) w 0 (alone (Value v)) t)) (Whole (made (Resize Sext t) w 0 (alone (Value v)) t)) (a, b, b) (a, b, b)

  pub form-over : (spans : List Span) (v : ℕ) (unit : Option SsaUnit) (own w : Width) → P (Value v) → P Nothing → UnitOver P Q unit → PartsOver P Q (value_form spans v unit own w)
  form-over spans v unit own w a b h =
      let s = slice_index_or spans v (only (pos 0)) in
      let t = natural_width own s in
      if-over (nat_lt (bits_of t) (bits_of w)) (wide_form s v t w) (narrow_form spans v unit own w) (wide-over s v t w a b) (narrow-over spans v unit own w a b h)

first-each : (P : Wanted → Type 0) (op : Operator) (x : Wanted) → FirstOver P P op x → P x
first-each P (Two op) x h = h
first-each P (Shifting op) x h = h
first-each P (Resize op from) x h = h
first-each P (Compare op) x h = h
first-each P Select x h = h

pub each-first : (P : Wanted → Type 0) (op : Operator) (x : Wanted) → P x → FirstOver P P op x
each-first P (Two op) x h = h
each-first P (Shifting op) x h = h
each-first P (Resize op from) x h = h
each-first P (Compare op) x h = h
each-first P Select x h = h

-- the same of each operand
parts-each : (P : Wanted → Type 0) (f : Form) → PartsOver P P f → FormOver P f
parts-each P Own h = tt
parts-each P Zero h = tt
parts-each P (Same x) h = h
parts-each P (Whole m) h = (first-each P m.op m.operands.first h.0, h.1, h.2)
parts-each P (Cut m) h = (first-each P m.op m.operands.first h.0, h.1, h.2)

words-over : (unit : Option SsaUnit) → UnitHasWords unit → UnitOver IsWord IsWord unit
words-over None h = tt
words-over (Some (Load a w)) h = tt
words-over (Some (Store a w x)) h = tt
words-over (Some (Operation op w k xs)) h = (each-first IsWord op xs.first h.0, h.1, h.2)

pub form_words : (spans : List Span) (v : ℕ) (unit : Option SsaUnit) (own w : Width) → UnitHasWords unit → FormHasWords (value_form spans v unit own w)
form_words spans v unit own w h = parts-each IsWord (value_form spans v unit own w) (form-over IsWord IsWord spans v unit own w tt tt (words-over unit h))

pub operation_words : (spans : List Span) (op : Operator) (own : Width) (k : ℕ) (xs : Operands) (w : Width) → AreWords xs → FormHasWords (operation_form spans op own k xs w)
operation_words spans op own k xs w h =
    parts-each IsWord (operation_form spans op own k xs w) (operation-over IsWord IsWord spans op own k xs w (each-first IsWord op xs.first h.0, h.1, h.2))

-- ---- units

number-word : (ssa : Ssa) (w : Width) (x : Wanted) → IsNumber ssa w x → IsWord x
number-word ssa w (Value v) h = tt
number-word ssa w (Constant m n) h =
    let some = width-some w in
    let most = width-most w in
    let same = h.0 in
    (omega arith, omega arith, h.1)
number-word ssa w Nothing h = tt

bit-word : (ssa : Ssa) (x : Wanted) → IsBit ssa x → IsWord x
bit-word ssa (Value v) h = tt
bit-word ssa (Constant m n) h = absurd h
bit-word ssa Nothing h = tt

nothing-word : (x : Wanted) → x ≡ Nothing → IsWord x
nothing-word x e = subst IsWord (sym e) tt

operand : (ssa : Ssa) (w : Width) (x : Wanted) → IsNumber ssa w x → IsOperand (bits_of w) x
operand ssa w (Value v) h = tt
operand ssa w (Constant m n) h = (h.0, subst (λ k. n < 2 ^ k) h.0 h.1)
operand ssa w Nothing h = tt

operation-narrowed : (ssa : Ssa) (op : Operator) (w : Width) (k : ℕ) (xs : Operands) → IsOperation ssa op w k xs → FormsAreRead op w k xs × AreWords xs
operation-narrowed ssa (Two op) w k xs h =
    ((operand ssa w xs.first h.1, operand ssa w xs.second h.2), (number-word ssa w xs.first h.1, number-word ssa w xs.second h.2, nothing-word xs.third h.3))
operation-narrowed ssa (Shifting op) w k xs h =
    ((h.0, operand ssa w xs.first h.1), (number-word ssa w xs.first h.1, nothing-word xs.second h.2, nothing-word xs.third h.3))
operation-narrowed ssa (Resize op v) w k xs h =
    (tt, (number-word ssa v xs.first h.2, nothing-word xs.second h.3, nothing-word xs.third h.4))
operation-narrowed ssa (Compare op) w k xs h =
    ((operand ssa w xs.first h.1, operand ssa w xs.second h.2), (number-word ssa w xs.first h.1, number-word ssa w xs.second h.2, nothing-word xs.third h.3))
operation-narrowed ssa Select w k xs h =
    (tt, (bit-word ssa xs.first h.1, number-word ssa w xs.second h.2, number-word ssa w xs.third h.3))

pub unit-narrowed : (ssa : Ssa) (u : SsaUnit) → IsUnit ssa u → UnitIsNarrowed u
unit-narrowed ssa (Load a w) h = (tt, tt)
unit-narrowed ssa (Store a w x) h = (tt, number-word ssa w x h.1)
unit-narrowed ssa (Operation op w k xs) h = operation-narrowed ssa op w k xs h
