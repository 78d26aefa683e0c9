-- Forms of sound units take operands of the widths that they want.
use Rattle.std.proofs.Common.{◌≡◌, ℕ, ◌+◌, ◌<◌, ◌≤◌, Bool, true, List, length, Option, Some, None, refl, sym, ◌∙◌, subst, arith, inl, inr}
use Rattle.std.specs.Prelude.{◌&&◌, nat_le, nat_lt, pos, slice_index, slice_index_or}
use Rattle.std.specs.Int.{int_min, int_max}
use Rattle.std.proofs.lemmas.Bool.{and_parts, cases_Bool, cond-false, cond-true, leb-false, leb-true, ltb-false, ltb-true}
use Rattle.vg_base.specs.declared.width.Width.{Width}
use Rattle.vg_base.specs.declared.width.Width.TheVariants.{W8, W16, W32}
use Rattle.vg_base.specs.Width.{bits_of}
use Rattle.vg_rewrite.specs.declared.choice.Reading.{Reading}
use Rattle.vg_rewrite.specs.declared.choice.Reading.TheVariants.{Signed, Unsigned}
use Rattle.vg_rewrite.specs.declared.choice.Shifted.{Shifted}
use Rattle.vg_rewrite.specs.declared.form.Form.{Form}
use Rattle.vg_rewrite.specs.declared.form.Form.TheVariants.{Own, Zero, Same, Whole, Cut}
use Rattle.vg_rewrite.specs.declared.form.Made.{Made}
use Rattle.vg_rewrite.specs.Choice.{if_then, low_shift, natural_width, or_shift, shift_at, shift_between, shift_choice, shifted}
use Rattle.vg_rewrite.specs.Form.{alone, compare_operands, cut_to, extreme_form, greater_by, lesser_by, made, narrow_form, operation_form, own_form, right_form, shift_form, two_form, value_form, wide_form}
use Rattle.vg_rewrite.proofs.Closing.{if-form}
use Rattle.vg_rewrite.proofs.Extremes.{max-stays, min-stays}
use Rattle.vg_rewrite.proofs.FormsHold.{signed-wide, unsigned-wide}
use Rattle.vg_rewrite.proofs.Naturals.{natural-most}
use Rattle.vg_rewrite.proofs.FormRows.{then-or, then-some}
use Rattle.vg_rewrite.proofs.RepeatedTypes.{first_kind, second_kind, third_kind}
use Rattle.vg_scalar.specs.declared.comparison.Comparison.{Comparison}
use Rattle.vg_scalar.specs.declared.resize.Resize.TheVariants.{Sext, Zext, Trunc}
use Rattle.vg_scalar.specs.declared.shift.Shift.{Shift}
use Rattle.vg_scalar.specs.declared.shift.Shift.TheVariants.{Shl, Lshr, Ashr}
use Rattle.vg_scalar.specs.declared.two_op.TwoOp.{TwoOp}
use Rattle.vg_scalar.specs.declared.two_op.TwoOp.TheVariants.{Add, Sub, Mul, And, Or, Xor, Smin, Smax, Umin, Umax}
use Rattle.vg_shapes.specs.declared.ssa.Ssa.{Ssa}
use Rattle.vg_shapes.specs.declared.ssa_unit.Operands.{Operands}
use Rattle.vg_shapes.specs.declared.ssa_unit.Operator.{Operator}
use Rattle.vg_shapes.specs.declared.ssa_unit.Operator.TheVariants.{Two, Shift as Shifting, Resize, Compare, Select}
use Rattle.vg_shapes.specs.declared.ssa_unit.SsaUnit.{SsaUnit}
use Rattle.vg_shapes.specs.declared.ssa_unit.SsaUnit.TheVariants.{Operation}
use Rattle.vg_shapes.specs.declared.wanted.Wanted.{Wanted}
use Rattle.vg_shapes.specs.declared.wanted.Wanted.TheVariants.{Value, Constant, Nothing}
use Rattle.vg_shapes.specs.Sound.{IsBit, IsChange, IsEarlier, IsNumber, IsOperation, result_bits, TakesEarlier, value_bits}
use Rattle.vg_spans.specs.declared.span.Span.{Span}
use Rattle.vg_spans.specs.Laws.{span_at}
use Rattle.vg_spans.specs.Span.{is_signed, is_unsigned, only}
use Rattle.vg_spans.specs.Spans.{operand_span, operation_span, spans_of}
use Rattle.vg_spans.proofs.Holding.{Holds}
use Rattle.vg_spans.proofs.Runs.{width-some}

-- ---- what a form is made of

-- nothing, a value that may be a bit, or a number
abbrev pub OperandIs : Option (Option Width) → Wanted → Type 0
OperandIs None x = x ≡ Nothing
OperandIs (Some None) (Value v) = Unit {0}
OperandIs (Some None) (Constant w n) = ⊥
OperandIs (Some None) Nothing = ⊥
OperandIs (Some (Some t)) (Value v) = Unit {0}
OperandIs (Some (Some t)) (Constant w n) = Unit {0}
OperandIs (Some (Some t)) Nothing = ⊥

-- the amount of an operation, and the width that is asked of its operands
abbrev pub Rule : Operator → Width → ℕ → Width → Type 0
Rule (Two op) w k t = (k ≡ 0) × (t ≡ w)
Rule (Shifting op) w k t = (k < bits_of w) × (t ≡ w)
Rule (Resize op from) w k t = (k ≡ 0) × IsChange op w from × (t ≡ from)
Rule (Compare op) w k t = (k ≡ 0) × (t ≡ w)
Rule Select w k t = (k ≡ 0) × (t ≡ w)

pub record MadeIs (m : Made) : Type 0 where
  pub rule : Rule m.op m.width m.amount m.asked
  pub first : OperandIs (first_kind m.op m.width) m.operands.first
  pub second : OperandIs (second_kind m.op m.width) m.operands.second
  pub third : OperandIs (third_kind m.op m.width) m.operands.third

-- a form of so many bits
abbrev pub FormIs : Width → Form → Type 0
FormIs w Own = Unit {0}
FormIs w Zero = Unit {0}
FormIs w (Same x) = OperandIs (Some (Some w)) x
FormIs w (Whole m) = (result_bits m.op m.width ≡ bits_of w) × MadeIs m
FormIs w (Cut m) = (bits_of w < bits_of m.width) × (result_bits m.op m.width ≡ bits_of m.width) × MadeIs m

-- cut where it is wider
pub cut-is : (w : Width) (m : Made) → bits_of w ≤ bits_of m.width → result_bits m.op m.width ≡ bits_of m.width → MadeIs m → FormIs w (cut_to w m.width m)
cut-is w m l e h = elim (cases_Bool (nat_lt (bits_of w) (bits_of m.width))) [
  | inl c ↦ subst (FormIs w) (sym (cond-true (nat_lt (bits_of w) (bits_of m.width)) (Cut m) (Whole m) c)) (ltb-true (bits_of w) (bits_of m.width) c, e, h)
  | inr c ↦
      let more = ltb-false (bits_of w) (bits_of m.width) c in
      let same : bits_of m.width ≡ bits_of w = omega arith in
      subst (FormIs w) (sym (cond-false (nat_lt (bits_of w) (bits_of m.width)) (Cut m) (Whole m) c)) (e ∙ same, h)
]

-- ---- shifts

pub record ShiftIs (k : ℕ) (w : Width) (c : Shifted) : Type 0 where
  pub wide : bits_of w ≤ bits_of c.width
  pub amount : k < bits_of c.width

or-shift : (P : Shifted → Type 0) (o : Option Shift) (t : Width) (e : Shifted) → ((op : Shift) → o ≡ Some op → P (shifted t op)) → P e → P (or_shift o t e)
or-shift P None t e f p = p
or-shift P (Some op) t e f p = f op refl

low-amount : (k w t : ℕ) (o : Shift) → 0 < w → low_shift k w t ≡ Some o → k < t
low-amount k w t o some e = elim (then-or (nat_le (k + w) t) Lshr None o e) [
  | inl h ↦ (let l = leb-true (k + w) t h.0 in omega arith)
  | inr h ↦ absurd (cc)
]

tested-amount : (a b : Bool) (k t : ℕ) → (a && (b && nat_lt k t)) ≡ true → k < t
tested-amount a b k t e = ltb-true k t (and_parts b (nat_lt k t) (and_parts a (b && nat_lt k t) e).1).1

amount-at : (op : Shift) (k m w t : ℕ) (s : Span) (o : Shift) → 0 < w → shift_at op k m s w t ≡ Some o → k < t
amount-at Shl k m w t s o some e = absurd (cc)
amount-at Lshr k m w t s o some e = elim (then-or (is_unsigned m s && (is_unsigned t s && nat_lt k t)) Lshr (low_shift k w t) o e) [
  | inl h ↦ tested-amount (is_unsigned m s) (is_unsigned t s) k t h.0
  | inr h ↦ low-amount k w t o some h
]
amount-at Ashr k m w t s o some e =
    elim (then-or (is_signed m s && (is_unsigned t s && nat_lt k t)) Lshr (if_then (is_signed m s && (is_signed t s && nat_lt k t)) Ashr (low_shift k w t)) o e) [
      | inl h ↦ tested-amount (is_signed m s) (is_unsigned t s) k t h.0
      | inr h ↦ elim (then-or (is_signed m s && (is_signed t s && nat_lt k t)) Ashr (low_shift k w t) o h) [
        | inl g ↦ tested-amount (is_signed m s) (is_signed t s) k t g.0
        | inr g ↦ low-amount k w t o some g
      ]
    ]

pub shift-is : (op : Shift) (k : ℕ) (own : Width) (s : Span) (w : Width) → bits_of w ≤ bits_of own → k < bits_of own → ShiftIs k w (shift_choice op k own s w)
shift-is op k own s w narrow less =
    let P : Shifted → Type 0 = ShiftIs k w in
    let last : P (shifted own op) = record { wide = narrow; amount = less } in
    or-shift P (shift_between op k own s w W8) W8 (or_shift (shift_between op k own s w W16) W16 (or_shift (shift_between op k own s w W32) W32 (shifted own op))) (at W8)
    (or-shift P (shift_between op k own s w W16) W16 (or_shift (shift_between op k own s w W32) W32 (shifted own op)) (at W16)
    (or-shift P (shift_between op k own s w W32) W32 (shifted own op) (at W32) last))
  where
    at : (t : Width) (o : Shift) → shift_between op k own s w t ≡ Some o → ShiftIs k w (shifted t o)
    at t o e =
        let p = then-some (nat_le (bits_of w) (bits_of t) && nat_lt (bits_of t) (bits_of own)) (shift_at op k (bits_of own) s (bits_of w) (bits_of t)) o e in
        let both = and_parts (nat_le (bits_of w) (bits_of t)) (nat_lt (bits_of t) (bits_of own)) p.0 in
        record { wide = leb-true (bits_of w) (bits_of t) both.0; amount = amount-at op k (bits_of own) (bits_of w) (bits_of t) s o (width-some w) p.1 }

right-is : (w : Width) (k : ℕ) (xs : Operands) (c : Shifted) → ShiftIs k w c → OperandIs (Some (Some c.width)) xs.first → xs.second ≡ Nothing → xs.third ≡ Nothing → FormIs w (right_form w k xs c)
right-is w k xs c h x y z = cut-is w (made (Shifting c.op) c.width k xs c.width) h.wide refl (record { rule = (h.amount, refl); first = x; second = y; third = z })

-- ---- extensions of a value, and its low bits

pub wide-is : (s : Span) (v : ℕ) (t w : Width) → bits_of t < bits_of w → FormIs w (wide_form s v t w)
wide-is s v t w l =
    if-form (FormIs w) (is_unsigned (bits_of t) s) (Whole (made (Resize Zext t) w 0 (alone (Value v)) t)) (Whole (made (Resize Sext t) w 0 (alone (Value v)) t))
    (refl, record { rule = (refl, l, refl); first = tt; second = refl; third = refl }) (refl, record { rule = (refl, l, refl); first = tt; second = refl; third = refl })

pub own-is : (v : ℕ) (own w : Width) → FormIs w (own_form v own w)
own-is v own w = elim (cases_Bool (nat_lt (bits_of w) (bits_of own))) [
  | inl c ↦
      let l = ltb-true (bits_of w) (bits_of own) c in
      subst (FormIs w) (sym (cond-true (nat_lt (bits_of w) (bits_of own)) (Whole (made (Resize Trunc own) w 0 (alone (Value v)) own)) Own c)) (refl, record { rule = (refl, l, refl); first = tt; second = refl; third = refl })
  | inr c ↦ subst (FormIs w) (sym (cond-false (nat_lt (bits_of w) (bits_of own)) (Whole (made (Resize Trunc own) w 0 (alone (Value v)) own)) Own c)) tt
]

-- ---- operations

abbrev pub NotNothing : Wanted → Type 0
NotNothing x = OperandIs (Some (Some W8)) x

pub number-not : (ssa : Ssa) (w : Width) (x : Wanted) → IsNumber ssa w x → NotNothing x
number-not ssa w (Value v) h = tt
number-not ssa w (Constant m n) h = tt
number-not ssa w Nothing h = absurd h

pub number-any : (w : Width) (x : Wanted) → NotNothing x → OperandIs (Some (Some w)) x
number-any w (Value v) h = tt
number-any w (Constant m n) h = tt
number-any w Nothing h = absurd h

bit-value : (ssa : Ssa) (x : Wanted) → IsBit ssa x → OperandIs (Some None) x
bit-value ssa (Value v) h = tt
bit-value ssa (Constant m n) h = absurd h
bit-value ssa Nothing h = absurd h

two-made : (op : TwoOp) (xs : Operands) (w : Width) → NotNothing xs.first → NotNothing xs.second → xs.third ≡ Nothing → MadeIs (made (Two op) w 0 xs w)
two-made op xs w x y z = record { rule = (refl, refl); first = number-any w xs.first x; second = number-any w xs.second y; third = z }

pub comparison-made : (op : Comparison) (xs : Operands) (w : Width) → NotNothing xs.first → NotNothing xs.second → xs.third ≡ Nothing → MadeIs (made (Compare op) w 0 xs w)
comparison-made op xs w x y z = record { rule = (refl, refl); first = number-any w xs.first x; second = number-any w xs.second y; third = z }

module _ (ssa : Ssa) (numbers : List ℕ) (holds : (v w : ℕ) → v < length numbers → value_bits ssa v ≡ Some w → Holds w (span_at ssa v) (slice_index numbers v)) (v : ℕ) (m w : Width) (k : ℕ) (xs : Operands) (inside : v ≤ length numbers) (narrow : bits_of w ≤ bits_of m)
    (takes : IsEarlier v xs.first × IsEarlier v xs.second × IsEarlier v xs.third) where
  extreme-is : (op : Reading → TwoOp) (how : Reading) → NotNothing xs.first → NotNothing xs.second → xs.third ≡ Nothing → bits_of w ≤ bits_of (compare_operands (spans_of ssa) how m xs).width
      → FormIs w (extreme_form op w xs (compare_operands (spans_of ssa) how m xs))
  extreme-is op how x y z l =
      let c = compare_operands (spans_of ssa) how m xs in
      cut-is w (made (Two (op c.reading)) c.width 0 xs c.width) l refl (two-made (op c.reading) xs c.width x y z)

  two-is : (op : TwoOp) (s : Span) → IsNumber ssa m xs.first → IsNumber ssa m xs.second → xs.third ≡ Nothing → s ≡ operation_span (spans_of ssa) (Two op) (bits_of m) 0 xs → bits_of w ≤ bits_of (natural_width m s) → FormIs w (two_form (spans_of ssa) op m xs w)
  two-is Add s h g z e l = (refl, two-made Add xs w (number-not ssa m xs.first h) (number-not ssa m xs.second g) z)
  two-is Sub s h g z e l = (refl, two-made Sub xs w (number-not ssa m xs.first h) (number-not ssa m xs.second g) z)
  two-is Mul s h g z e l = (refl, two-made Mul xs w (number-not ssa m xs.first h) (number-not ssa m xs.second g) z)
  two-is And s h g z e l = (refl, two-made And xs w (number-not ssa m xs.first h) (number-not ssa m xs.second g) z)
  two-is Or s h g z e l = (refl, two-made Or xs w (number-not ssa m xs.first h) (number-not ssa m xs.second g) z)
  two-is Xor s h g z e l = (refl, two-made Xor xs w (number-not ssa m xs.first h) (number-not ssa m xs.second g) z)
  two-is Smin s h g z e l =
      extreme-is lesser_by Signed (number-not ssa m xs.first h) (number-not ssa m xs.second g) z (signed-wide ssa numbers holds v m w k xs inside narrow takes.0 takes.1 takes.2 int_min s min-stays e l)
  two-is Smax s h g z e l =
      extreme-is greater_by Signed (number-not ssa m xs.first h) (number-not ssa m xs.second g) z (signed-wide ssa numbers holds v m w k xs inside narrow takes.0 takes.1 takes.2 int_max s max-stays e l)
  two-is Umin s h g z e l =
      extreme-is lesser_by Unsigned (number-not ssa m xs.first h) (number-not ssa m xs.second g) z (unsigned-wide ssa numbers holds v m w k xs inside narrow takes.0 takes.1 takes.2 int_min s min-stays h g e l)
  two-is Umax s h g z e l =
      extreme-is greater_by Unsigned (number-not ssa m xs.first h) (number-not ssa m xs.second g) z (unsigned-wide ssa numbers holds v m w k xs inside narrow takes.0 takes.1 takes.2 int_max s max-stays h g e l)

  shift-form_is : (op : Shift) → k < bits_of m → IsNumber ssa m xs.first → xs.second ≡ Nothing → xs.third ≡ Nothing → FormIs w (shift_form (spans_of ssa) op m k xs w)
  shift-form_is Shl less h y z = elim (cases_Bool (nat_le (bits_of w) k)) [
    | inl c ↦ subst (FormIs w) (sym (cond-true (nat_le (bits_of w) k) Zero (Whole (made (Shifting Shl) w k xs w)) c)) tt
    | inr c ↦
        let less_w = leb-false (bits_of w) k c in
        subst (FormIs w) (sym (cond-false (nat_le (bits_of w) k) Zero (Whole (made (Shifting Shl) w k xs w)) c))
        (refl, record { rule = (less_w, refl); first = number-any w xs.first (number-not ssa m xs.first h); second = y; third = z })
  ]
  shift-form_is Lshr less h y z =
      let c = shift_choice Lshr k m (operand_span (spans_of ssa) xs.first) w in
      right-is w k xs c (shift-is Lshr k m (operand_span (spans_of ssa) xs.first) w narrow less) (number-any c.width xs.first (number-not ssa m xs.first h)) y z
  shift-form_is Ashr less h y z =
      let c = shift_choice Ashr k m (operand_span (spans_of ssa) xs.first) w in
      right-is w k xs c (shift-is Ashr k m (operand_span (spans_of ssa) xs.first) w narrow less) (number-any c.width xs.first (number-not ssa m xs.first h)) y z

  pub operation-is : (op : Operator) (s : Span) → IsOperation ssa op m k xs → (1 ≡ result_bits op m → ⊥) → s ≡ operation_span (spans_of ssa) op (bits_of m) k xs → bits_of w ≤ bits_of (natural_width m s) → FormIs w (operation_form (spans_of ssa) op m k xs w)
  operation-is (Two op) s h wide e l = two-is op s h.1 h.2 h.3 e l
  operation-is (Shifting op) s h wide e l = shift-form_is op h.0 h.1 h.2 h.3
  operation-is (Resize op u) s h wide e l = number-any w xs.first (number-not ssa u xs.first h.2)
  operation-is (Compare op) s h wide e l = absurd (wide refl)
  operation-is Select s h wide e l =
      (refl, record { rule = (refl, refl); first = bit-value ssa xs.first h.1; second = number-any w xs.second (number-not ssa m xs.second h.2); third = number-any w xs.third (number-not ssa m xs.third h.3) })

-- ---- values

pub value-is : (ssa : Ssa) (numbers : List ℕ) (holds : (v w : ℕ) → v < length numbers → value_bits ssa v ≡ Some w → Holds w (span_at ssa v) (slice_index numbers v)) (v : ℕ) (op : Operator) (own : Width) (k : ℕ) (xs : Operands) (w : Width) → v ≤ length numbers
    → TakesEarlier v (Operation op own k xs) → IsOperation ssa op own k xs → (1 ≡ result_bits op own → ⊥) → span_at ssa v ≡ operation_span (spans_of ssa) op (bits_of own) k xs → FormIs w (value_form (spans_of ssa) v (Some (Operation op own k xs)) own w)
value-is ssa numbers holds v op own k xs w inside takes is wide e =
    let s = span_at ssa v in
    let t = natural_width own s in
    elim (cases_Bool (nat_lt (bits_of t) (bits_of w))) [
      | inl c ↦
          subst (FormIs w) (sym (cond-true (nat_lt (bits_of t) (bits_of w)) (wide_form s v t w) (narrow_form (spans_of ssa) v (Some (Operation op own k xs)) own w) c)) (wide-is s v t w (ltb-true (bits_of t) (bits_of w) c))
      | inr c ↦
          let n = ltb-false (bits_of t) (bits_of w) c in
          let most = natural-most own s in
          subst (FormIs w) (sym (cond-false (nat_lt (bits_of t) (bits_of w)) (wide_form s v t w) (narrow_form (spans_of ssa) v (Some (Operation op own k xs)) own w) c))
          (operation-is ssa numbers holds v own w k xs inside (omega arith) takes op s is wide e n)
    ]

pub itself-is : (spans : List Span) (v : ℕ) (u : Option SsaUnit) (own w : Width) → narrow_form spans v u own w ≡ own_form v own w → FormIs w (value_form spans v u own w)
itself-is spans v u own w e =
    let s = slice_index_or spans v (only (pos 0)) in
    let t = natural_width own s in
    elim (cases_Bool (nat_lt (bits_of t) (bits_of w))) [
      | inl c ↦ subst (FormIs w) (sym (cond-true (nat_lt (bits_of t) (bits_of w)) (wide_form s v t w) (narrow_form spans v u own w) c)) (wide-is s v t w (ltb-true (bits_of t) (bits_of w) c))
      | inr c ↦ subst (FormIs w) (sym (cond-false (nat_lt (bits_of t) (bits_of w)) (wide_form s v t w) (narrow_form spans v u own w) c)) (subst (FormIs w) (sym e) (own-is v own w))
    ]
