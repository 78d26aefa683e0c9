-- A form makes the number that is congruent to the whole number of its value.
use Rattle.std.proofs.Common.{◌≡◌, ℕ, ◌%◌, ◌^◌, ◌<◌, ◌≤◌, Bool, true, false, List, length, Option, Some, None, refl, sym, ap, ◌∙◌, subst, arith, inl, inr}
use Rattle.std.specs.Prelude.{ℤ, pos, ◌||◌, nat_eq, nat_le, nat_lt, slice_index, unwrap_or, if◌then◌else◌}
use Rattle.std.specs.Int.{int_min, int_max}
use Rattle.std.proofs.lemmas.Bool.{cases_Bool, cond-false, cond-true, eqb-true, leb-true, ltb-false, ltb-true}
use Rattle.vg_base.specs.Bits.{signed_at}
use Rattle.vg_base.specs.declared.width.Width.{Width}
use Rattle.vg_base.specs.declared.width.Width.TheVariants.{W8, W16, W32, W64}
use Rattle.vg_base.specs.Width.{bits_of}
use Rattle.vg_base.specs.Number.{residue}
use Rattle.vg_base.proofs.LowBits.{below_wider, low-below, low-low}
use Rattle.vg_base.proofs.SameWidth.{width-same}
use Rattle.vg_base.proofs.Signed.{residue-low, residue-signed, residue_below}
use Rattle.vg_rewrite.specs.declared.choice.Reading.{Reading}
use Rattle.vg_rewrite.specs.declared.choice.Reading.TheVariants.{Signed, Unsigned, Either}
use Rattle.vg_rewrite.specs.declared.form.Form.TheVariants.{Own, Zero, Whole, Cut}
use Rattle.vg_rewrite.specs.declared.form.Made.{Made}
use Rattle.vg_rewrite.specs.Choice.{is_enough, natural_width, shift_choice}
use Rattle.vg_rewrite.specs.Form.{alone, compare_operands, comparison_by, cut_to, greater_by, lesser_by, made, narrow_form, operation_form, own_form, reading_of, shift_form, two_form, value_form, wide_form}
use Rattle.vg_rewrite.specs.Laws.{form_number, made_number, number_by, whole_of}
use Rattle.vg_rewrite.proofs.Comparing.{comparison-alike, is_less, is_order, IsAlike, signed-fits, unsigned-fits}
use Rattle.vg_rewrite.proofs.Extremes.{enough-signed, enough-unsigned, greater-picks, IsOf, lesser-picks, max-stays, min-stays, pick-low, pick-small, signed-enough, StaysIn, unsigned-enough}
use Rattle.vg_rewrite.proofs.FormRows.{is_low, left-past, left-shift, low-operation, right-choice}
use Rattle.vg_rewrite.proofs.Naturals.{natural-enough, natural-least, natural-most}
use Rattle.vg_rewrite.proofs.Stands.{back, constant-stands, held-stands, low-residue, natural, natural-residue, Stands}
use Rattle.vg_scalar.specs.declared.comparison.Comparison.{Comparison}
use Rattle.vg_scalar.specs.declared.comparison.Comparison.TheVariants.{Eq, Slt, Ult}
use Rattle.vg_scalar.specs.declared.resize.Resize.{Resize as Resizing}
use Rattle.vg_scalar.specs.declared.resize.Resize.TheVariants.{Sext, Zext, Trunc}
use Rattle.vg_scalar.specs.declared.shift.Shift.{Shift}
use Rattle.vg_scalar.specs.declared.shift.Shift.TheVariants.{Shl, Lshr, Ashr}
use Rattle.vg_scalar.specs.declared.two_op.TwoOp.{TwoOp}
use Rattle.vg_scalar.specs.declared.two_op.TwoOp.TheVariants.{Add, Sub, Mul, And, Or, Xor, Smin, Smax, Umin, Umax}
use Rattle.vg_scalar.specs.Scalar.{comparison_result, low, resize_result, select_result, shift_result, two_result}
use Rattle.vg_shapes.specs.declared.ssa.Ssa.{Ssa}
use Rattle.vg_shapes.specs.declared.ssa_unit.Operands.{Operands}
use Rattle.vg_shapes.specs.declared.ssa_unit.Operator.{Operator}
use Rattle.vg_shapes.specs.declared.ssa_unit.Operator.TheVariants.{Two, Shift as Shifting, Resize, Compare, Select}
use Rattle.vg_shapes.specs.declared.ssa_unit.SsaUnit.{SsaUnit}
use Rattle.vg_shapes.specs.declared.ssa_unit.SsaUnit.TheVariants.{Load, Store, Operation}
use Rattle.vg_shapes.specs.declared.wanted.Wanted.{Wanted}
use Rattle.vg_shapes.specs.declared.wanted.Wanted.TheVariants.{Value, Constant, Nothing}
use Rattle.vg_shapes.specs.RunUnits.{number_of, result_of}
use Rattle.vg_shapes.specs.Sound.{IsChange, IsEarlier, IsNumber, IsOperation, result_bits, TakesEarlier, value_bits}
use Rattle.vg_spans.specs.declared.span.Span.{Span}
use Rattle.vg_spans.specs.Laws.{span_at}
use Rattle.vg_spans.specs.Span.{end_by_end, is_signed, is_unsigned, only, whole_number}
use Rattle.vg_spans.specs.Spans.{operand_span, operation_span, read_operand, signed_numbers, spans_of, unsigned_numbers}
use Rattle.vg_spans.proofs.Holding.{either, Holds}
use Rattle.vg_spans.proofs.Reading.{constant-reads, ReadsAs, value-reads}
use Rattle.vg_spans.proofs.Runs.{width-some}

itself : (w n : ℕ) → n < 2 ^ w → n % 2 ^ w ≡ n
itself w n l = let same : w ≤ w = omega arith in low-below n w w l same

module _ (ssa : Ssa) (numbers : List ℕ) (holds : (v w : ℕ) → v < length numbers → value_bits ssa v ≡ Some w → Holds w (span_at ssa v) (slice_index numbers v)) where
  -- ---- operands

  pub value-stands : (v w : ℕ) → v < length numbers → value_bits ssa v ≡ Some w → Stands w (span_at ssa v) (slice_index numbers v) (whole_of ssa numbers (Value v))
  value-stands v w l e =
      let P : Option ℕ → Type 0 = λ o. Stands w (span_at ssa v) (slice_index numbers v) (whole_number (unwrap_or o 1) (span_at ssa v) (slice_index numbers v)) in
      subst P (sym e) (held-stands w (slice_index numbers v) (span_at ssa v) (holds v w l e))

  pub operand-stands : (n : ℕ) (w : Width) (x : Wanted) → n ≤ length numbers → IsEarlier n x → IsNumber ssa w x
      → Stands (bits_of w) (operand_span (spans_of ssa) x) (number_of (slice_index numbers) x) (whole_of ssa numbers x)
  operand-stands n w (Value v) m l h = value-stands v (bits_of w) (omega arith) h
  operand-stands n w (Constant k c) m l h =
      let below : c < 2 ^ bits_of w = subst (λ q. c < 2 ^ q) h.0 h.1 in
      let P : ℕ → Type 0 = λ q. Stands (bits_of w) (only (signed_at q c)) c (signed_at q c) in
      subst P (sym h.0) (constant-stands (bits_of w) c (width-some w) below)
  operand-stands n w Nothing m l h = absurd h

  operand-reads : (n : ℕ) (w : Width) (x : Wanted) → n ≤ length numbers → IsEarlier n x → IsNumber ssa w x → ReadsAs (bits_of w) (read_operand (bits_of w) (spans_of ssa) x) (number_of (slice_index numbers) x)
  operand-reads n w (Value v) m l h = value-reads (bits_of w) (slice_index numbers v) (span_at ssa v) (holds v (bits_of w) (omega arith) h)
  operand-reads n w (Constant k c) m l h =
      let below : c < 2 ^ bits_of w = subst (λ q. c < 2 ^ q) h.0 h.1 in
      let P : ℕ → Type 0 = λ q. ReadsAs (bits_of w) (record { plain = only (signed_at q c); signed = signed_numbers (bits_of w) (only (signed_at q c)); unsigned = only (pos c) }) c in
      subst P (sym h.0) (constant-reads (bits_of w) c (width-some w) below)
  operand-reads n w Nothing m l h = absurd h

  operand-of : (x : Wanted) → IsOf x (whole_of ssa numbers x)
  operand-of (Value v) = tt
  operand-of (Constant k c) = refl
  operand-of Nothing = tt

  -- ---- a unit of forms, cut or not

  cut-number : (v : ℕ) (w t : Width) (m : Made) (target : ℕ) → bits_of w ≤ bits_of t → made_number ssa numbers m % 2 ^ bits_of w ≡ target → made_number ssa numbers m < 2 ^ bits_of t
      → number_by ssa numbers v w (cut_to w t m) ≡ target
  cut-number v w t m target l e small = elim (cases_Bool (nat_lt (bits_of w) (bits_of t))) [
    | inl c ↦ ap (number_by ssa numbers v w) (cond-true (nat_lt (bits_of w) (bits_of t)) (Cut m) (Whole m) c) ∙ e
    | inr c ↦
        let less = ltb-false (bits_of w) (bits_of t) c in
        let same : bits_of t ≡ bits_of w = omega arith in
        ap (number_by ssa numbers v w) (cond-false (nat_lt (bits_of w) (bits_of t)) (Cut m) (Whole m) c)
        ∙ sym (itself (bits_of w) (made_number ssa numbers m) (subst (λ k. made_number ssa numbers m < 2 ^ k) same small)) ∙ e
  ]

  -- ---- operations

  module _ (v : ℕ) (m w : Width) (k : ℕ) (xs : Operands) (inside : v ≤ length numbers) (narrow : bits_of w ≤ bits_of m)
      (x : IsEarlier v xs.first) (y : IsEarlier v xs.second) (z : IsEarlier v xs.third) where
    a : ℕ
    a = number_of (slice_index numbers) xs.first

    -- an operation on two operands: the low bits of what it makes
    low-row : (op : TwoOp) → is_low op ≡ true → IsNumber ssa m xs.first → IsNumber ssa m xs.second
        → made_number ssa numbers (made (Two op) w 0 xs w) ≡ two_result op (bits_of m) (number_of (slice_index numbers) xs.first) (number_of (slice_index numbers) xs.second) % 2 ^ bits_of w
    low-row op c h g =
        low-operation op (bits_of m) (bits_of w) (number_of (slice_index numbers) xs.first) (number_of (slice_index numbers) xs.second) (operand_span (spans_of ssa) xs.first) (operand_span (spans_of ssa) xs.second)
        (whole_of ssa numbers xs.first) (whole_of ssa numbers xs.second) c (operand-stands v m xs.first inside x h) (operand-stands v m xs.second inside y g) narrow

    alike : (how : Reading) → IsNumber ssa m xs.first → IsNumber ssa m xs.second
        → IsAlike how (bits_of m) (number_of (slice_index numbers) xs.first) (number_of (slice_index numbers) xs.second) (whole_of ssa numbers xs.first) (whole_of ssa numbers xs.second) (compare_operands (spans_of ssa) how m xs)
    alike how h g =
        comparison-alike how m (operand_span (spans_of ssa) xs.first) (operand_span (spans_of ssa) xs.second) (number_of (slice_index numbers) xs.first) (number_of (slice_index numbers) xs.second)
        (whole_of ssa numbers xs.first) (whole_of ssa numbers xs.second) (operand-stands v m xs.first inside x h) (operand-stands v m xs.second inside y g)

    -- the lesser, where the width that is chosen has the low bits
    lesser-row : (how : Reading) → is_order how ≡ true → IsNumber ssa m xs.first → IsNumber ssa m xs.second → bits_of w ≤ bits_of (compare_operands (spans_of ssa) how m xs).width
        → number_by ssa numbers v w (cut_to w (compare_operands (spans_of ssa) how m xs).width (made (Two (lesser_by (compare_operands (spans_of ssa) how m xs).reading)) (compare_operands (spans_of ssa) how m xs).width 0 xs (compare_operands (spans_of ssa) how m xs).width))
        ≡ two_result (lesser_by how) (bits_of m) (number_of (slice_index numbers) xs.first) (number_of (slice_index numbers) xs.second) % 2 ^ bits_of w
    lesser-row how o h g wide =
        let c = compare_operands (spans_of ssa) how m xs in
        let t = bits_of c.width in
        let p = form_number ssa numbers t xs.first in
        let q = form_number ssa numbers t xs.second in
        let is = alike how h g in
        let picked : two_result (lesser_by c.reading) t p q ≡ (if is_less c.reading t p q then low t p else low t q) = lesser-picks c.reading t p q (sym is.order ∙ o) in
        cut-number v w c.width (made (Two (lesser_by c.reading)) c.width 0 xs c.width) _ wide
        (ap (λ n. n % 2 ^ bits_of w) picked
        ∙ pick-low (bits_of m) t (bits_of w) (number_of (slice_index numbers) xs.first) (number_of (slice_index numbers) xs.second) (operand_span (spans_of ssa) xs.first) (operand_span (spans_of ssa) xs.second)
        (whole_of ssa numbers xs.first) (whole_of ssa numbers xs.second) (is_less c.reading t p q) (is_less how (bits_of m) (number_of (slice_index numbers) xs.first) (number_of (slice_index numbers) xs.second))
        (operand-stands v m xs.first inside x h) (operand-stands v m xs.second inside y g) wide narrow is.alike
        ∙ ap (λ n. n % 2 ^ bits_of w) (sym (lesser-picks how (bits_of m) (number_of (slice_index numbers) xs.first) (number_of (slice_index numbers) xs.second) o)))
        (subst (λ n. n < 2 ^ t) (sym picked) (pick-small t p q (is_less c.reading t p q)))

    greater-row : (how : Reading) → is_order how ≡ true → IsNumber ssa m xs.first → IsNumber ssa m xs.second → bits_of w ≤ bits_of (compare_operands (spans_of ssa) how m xs).width
        → number_by ssa numbers v w (cut_to w (compare_operands (spans_of ssa) how m xs).width (made (Two (greater_by (compare_operands (spans_of ssa) how m xs).reading)) (compare_operands (spans_of ssa) how m xs).width 0 xs (compare_operands (spans_of ssa) how m xs).width))
        ≡ two_result (greater_by how) (bits_of m) (number_of (slice_index numbers) xs.first) (number_of (slice_index numbers) xs.second) % 2 ^ bits_of w
    greater-row how o h g wide =
        let c = compare_operands (spans_of ssa) how m xs in
        let t = bits_of c.width in
        let p = form_number ssa numbers t xs.first in
        let q = form_number ssa numbers t xs.second in
        let is = alike how h g in
        let picked : two_result (greater_by c.reading) t p q ≡ (if is_less c.reading t p q then low t q else low t p) = greater-picks c.reading t p q (sym is.order ∙ o) in
        cut-number v w c.width (made (Two (greater_by c.reading)) c.width 0 xs c.width) _ wide
        (ap (λ n. n % 2 ^ bits_of w) picked
        ∙ pick-low (bits_of m) t (bits_of w) (number_of (slice_index numbers) xs.second) (number_of (slice_index numbers) xs.first) (operand_span (spans_of ssa) xs.second) (operand_span (spans_of ssa) xs.first)
        (whole_of ssa numbers xs.second) (whole_of ssa numbers xs.first) (is_less c.reading t p q) (is_less how (bits_of m) (number_of (slice_index numbers) xs.first) (number_of (slice_index numbers) xs.second))
        (operand-stands v m xs.second inside y g) (operand-stands v m xs.first inside x h) wide narrow is.alike
        ∙ ap (λ n. n % 2 ^ bits_of w) (sym (greater-picks how (bits_of m) (number_of (slice_index numbers) xs.first) (number_of (slice_index numbers) xs.second) o)))
        (subst (λ n. n < 2 ^ t) (sym picked) (pick-small t q p (is_less c.reading t p q)))

    -- a width that is enough for the value has the low bits that are asked for
    wide-enough : (s : Span) (t : Width) → bits_of w ≤ bits_of (natural_width m s) → is_enough m s t ≡ true → bits_of w ≤ bits_of t
    wide-enough s t l e = let n = natural-least m s t e in omega arith

    pub signed-wide : (f : ℤ → ℤ → ℤ) (s : Span) → StaysIn f → s ≡ end_by_end f (signed_numbers (bits_of m) (operand_span (spans_of ssa) xs.first)) (signed_numbers (bits_of m) (operand_span (spans_of ssa) xs.second))
        → bits_of w ≤ bits_of (natural_width m s) → bits_of w ≤ bits_of (compare_operands (spans_of ssa) Signed m xs).width
    signed-wide f s stays e l =
        wide-enough s (compare_operands (spans_of ssa) Signed m xs).width l
        (ap (λ u. is_enough m u (compare_operands (spans_of ssa) Signed m xs).width) e
        ∙ signed-enough f m (compare_operands (spans_of ssa) Signed m xs).width (operand_span (spans_of ssa) xs.first) (operand_span (spans_of ssa) xs.second) stays
        (signed-fits m (operand_span (spans_of ssa) xs.first) (operand_span (spans_of ssa) xs.second)))

    pub unsigned-wide : (f : ℤ → ℤ → ℤ) (s : Span) → StaysIn f → IsNumber ssa m xs.first → IsNumber ssa m xs.second
        → s ≡ end_by_end f (unsigned_numbers (bits_of m) (spans_of ssa) xs.first) (unsigned_numbers (bits_of m) (spans_of ssa) xs.second)
        → bits_of w ≤ bits_of (natural_width m s) → bits_of w ≤ bits_of (compare_operands (spans_of ssa) Unsigned m xs).width
    unsigned-wide f s stays h g e l =
        wide-enough s (compare_operands (spans_of ssa) Unsigned m xs).width l
        (ap (λ u. is_enough m u (compare_operands (spans_of ssa) Unsigned m xs).width) e
        ∙ unsigned-enough f m (compare_operands (spans_of ssa) Unsigned m xs).width (spans_of ssa) (slice_index numbers) xs.first xs.second (whole_of ssa numbers xs.first) (whole_of ssa numbers xs.second) stays
        (alike Unsigned h g).most (operand-stands v m xs.first inside x h) (operand-of xs.first) (operand-stands v m xs.second inside y g) (operand-of xs.second)
        (unsigned-fits m (operand_span (spans_of ssa) xs.first) (operand_span (spans_of ssa) xs.second)))

    two-row : (op : TwoOp) (s : Span) → IsNumber ssa m xs.first → IsNumber ssa m xs.second → s ≡ operation_span (spans_of ssa) (Two op) (bits_of m) 0 xs → bits_of w ≤ bits_of (natural_width m s)
        → number_by ssa numbers v w (two_form (spans_of ssa) op m xs w) ≡ two_result op (bits_of m) (number_of (slice_index numbers) xs.first) (number_of (slice_index numbers) xs.second) % 2 ^ bits_of w
    two-row Add s h g e l = low-row Add refl h g
    two-row Sub s h g e l = low-row Sub refl h g
    two-row Mul s h g e l = low-row Mul refl h g
    two-row And s h g e l = low-row And refl h g
    two-row Or s h g e l = low-row Or refl h g
    two-row Xor s h g e l = low-row Xor refl h g
    two-row Smin s h g e l = lesser-row Signed refl h g (signed-wide int_min s min-stays e l)
    two-row Smax s h g e l = greater-row Signed refl h g (signed-wide int_max s max-stays e l)
    two-row Umin s h g e l = lesser-row Unsigned refl h g (unsigned-wide int_min s min-stays h g e l)
    two-row Umax s h g e l = greater-row Unsigned refl h g (unsigned-wide int_max s max-stays h g e l)

    -- ---- shifts

    right-row : (op : Shift) → IsNumber ssa m xs.first
        → number_by ssa numbers v w (cut_to w (shift_choice op k m (operand_span (spans_of ssa) xs.first) w).width (made (Shifting (shift_choice op k m (operand_span (spans_of ssa) xs.first) w).op) (shift_choice op k m (operand_span (spans_of ssa) xs.first) w).width k xs (shift_choice op k m (operand_span (spans_of ssa) xs.first) w).width))
        ≡ shift_result op (bits_of m) k (number_of (slice_index numbers) xs.first) % 2 ^ bits_of w
    right-row op h =
        let c = shift_choice op k m (operand_span (spans_of ssa) xs.first) w in
        let is = right-choice op m w k (number_of (slice_index numbers) xs.first) (operand_span (spans_of ssa) xs.first) (whole_of ssa numbers xs.first) (operand-stands v m xs.first inside x h) narrow in
        cut-number v w c.width (made (Shifting c.op) c.width k xs c.width) _ is.wide is.low is.small

    shift-row : (op : Shift) → IsNumber ssa m xs.first → number_by ssa numbers v w (shift_form (spans_of ssa) op m k xs w) ≡ shift_result op (bits_of m) k (number_of (slice_index numbers) xs.first) % 2 ^ bits_of w
    shift-row Shl h = elim (cases_Bool (nat_le (bits_of w) k)) [
      | inl c ↦
          ap (number_by ssa numbers v w) (cond-true (nat_le (bits_of w) k) Zero (Whole (made (Shifting Shl) w k xs w)) c)
          ∙ left-past (bits_of m) (bits_of w) k (number_of (slice_index numbers) xs.first) narrow (leb-true (bits_of w) k c)
      | inr c ↦
          ap (number_by ssa numbers v w) (cond-false (nat_le (bits_of w) k) Zero (Whole (made (Shifting Shl) w k xs w)) c)
          ∙ left-shift (bits_of m) (bits_of w) k (number_of (slice_index numbers) xs.first) (operand_span (spans_of ssa) xs.first) (whole_of ssa numbers xs.first) (operand-stands v m xs.first inside x h) narrow
    ]
    shift-row Lshr h = right-row Lshr h
    shift-row Ashr h = right-row Ashr h

    -- ---- choices

    picked-low : (c : Bool) → IsNumber ssa m xs.second → IsNumber ssa m xs.third
        → (if c then form_number ssa numbers (bits_of w) xs.second else form_number ssa numbers (bits_of w) xs.third)
        ≡ (if c then number_of (slice_index numbers) xs.second else number_of (slice_index numbers) xs.third) % 2 ^ bits_of w
    picked-low true h g = sym (low-residue (bits_of m) (operand_span (spans_of ssa) xs.second) (number_of (slice_index numbers) xs.second) (whole_of ssa numbers xs.second) (operand-stands v m xs.second inside y h) (bits_of w) narrow)
    picked-low false h g = sym (low-residue (bits_of m) (operand_span (spans_of ssa) xs.third) (number_of (slice_index numbers) xs.third) (whole_of ssa numbers xs.third) (operand-stands v m xs.third inside z g) (bits_of w) narrow)

    select-row : IsNumber ssa m xs.second → IsNumber ssa m xs.third
        → made_number ssa numbers (made Select w 0 xs w) ≡ select_result (number_of (slice_index numbers) xs.first) (number_of (slice_index numbers) xs.second) (number_of (slice_index numbers) xs.third) % 2 ^ bits_of w
    select-row h g = picked-low (nat_eq (low 1 (number_of (slice_index numbers) xs.first)) 1) h g

  -- ---- resizes

  -- the form of the operand, where the width that is asked for is no more than the operand's
  low-of : (n : ℕ) (u w : Width) (x : Wanted) → n ≤ length numbers → IsEarlier n x → IsNumber ssa u x → bits_of w ≤ bits_of u
      → form_number ssa numbers (bits_of w) x ≡ number_of (slice_index numbers) x % 2 ^ bits_of w
  low-of n u w x inside l h less =
      sym (low-residue (bits_of u) (operand_span (spans_of ssa) x) (number_of (slice_index numbers) x) (whole_of ssa numbers x) (operand-stands n u x inside l h) (bits_of w) less)

  resize-row : (op : Resizing) (v : ℕ) (m u w : Width) (xs : Operands) (s : Span) → v ≤ length numbers → bits_of w ≤ bits_of m → IsEarlier v xs.first → IsNumber ssa u xs.first → IsChange op m u
      → s ≡ operation_span (spans_of ssa) (Resize op u) (bits_of m) 0 xs → bits_of w ≤ bits_of (natural_width m s)
      → form_number ssa numbers (bits_of w) xs.first ≡ resize_result op (bits_of m) (bits_of u) (number_of (slice_index numbers) xs.first) % 2 ^ bits_of w
  resize-row Sext v m u w xs s inside narrow l h c e n =
      let reads = operand-reads v u xs.first inside l h in
      let fits : is_signed (bits_of u) s ≡ true = ap (is_signed (bits_of u)) e ∙ reads.signed_fits in
      let least = natural-least m s u (enough-signed m u s fits) in
      let less : bits_of w ≤ bits_of u = omega arith in
      let a = number_of (slice_index numbers) xs.first in
      low-of v u w xs.first inside l h less
      ∙ ap (λ k. k % 2 ^ bits_of w) (sym (residue-signed (bits_of u) a reads.below)) ∙ residue-low (bits_of u) (bits_of w) (signed_at (bits_of u) a) less
      ∙ sym (residue-low (bits_of m) (bits_of w) (signed_at (bits_of u) (a % 2 ^ bits_of u)) narrow ∙ ap (λ k. residue (bits_of w) (signed_at (bits_of u) k)) (itself (bits_of u) a reads.below))
  resize-row Zext v m u w xs s inside narrow l h c e n =
      let reads = operand-reads v u xs.first inside l h in
      let fits : is_unsigned (bits_of u) s ≡ true = ap (is_unsigned (bits_of u)) e ∙ reads.unsigned_fits in
      let least = natural-least m s u (enough-unsigned m u s fits) in
      let less : bits_of w ≤ bits_of u = omega arith in
      let a = number_of (slice_index numbers) xs.first in
      low-of v u w xs.first inside l h less ∙ ap (λ k. k % 2 ^ bits_of w) (sym (itself (bits_of u) a reads.below))
  resize-row Trunc v m u w xs s inside narrow l h c e n =
      let less : bits_of w ≤ bits_of u = omega arith in
      low-of v u w xs.first inside l h less ∙ sym (low-low (number_of (slice_index numbers) xs.first) (bits_of m) (bits_of w) narrow)

  -- ---- values

  never-bit : (own : Width) → 1 ≡ bits_of own → ⊥
  never-bit W8 e = absurd (omega arith)
  never-bit W16 e = absurd (omega arith)
  never-bit W32 e = absurd (omega arith)
  never-bit W64 e = absurd (omega arith)

  -- what a form of an operation makes, where the value has the operation's width
  operation-row : (op : Operator) (v : ℕ) (m w : Width) (k : ℕ) (xs : Operands) (s : Span) → v ≤ length numbers → bits_of w ≤ bits_of m → TakesEarlier v (Operation op m k xs) → IsOperation ssa op m k xs
      → (1 ≡ result_bits op m → ⊥) → s ≡ operation_span (spans_of ssa) op (bits_of m) k xs → bits_of w ≤ bits_of (natural_width m s)
      → number_by ssa numbers v w (operation_form (spans_of ssa) op m k xs w) ≡ result_of (slice_index numbers) op (bits_of m) k xs % 2 ^ bits_of w
  operation-row (Two op) v m w k xs s inside narrow l h wide-bit e n = two-row v m w k xs inside narrow l.0 l.1 l.2 op s h.1 h.2 e n
  operation-row (Shifting op) v m w k xs s inside narrow l h wide-bit e n = shift-row v m w k xs inside narrow l.0 l.1 l.2 op h.1
  operation-row (Resize op u) v m w k xs s inside narrow l h wide-bit e n = resize-row op v m u w xs s inside narrow l.0 h.2 h.1 e n
  operation-row (Compare op) v m w k xs s inside narrow l h wide-bit e n = absurd (wide-bit refl)
  operation-row Select v m w k xs s inside narrow l h wide-bit e n = select-row v m w k xs inside narrow l.0 l.1 l.2 h.2 h.3

  own-row : (v : ℕ) (own w : Width) → v < length numbers → value_bits ssa v ≡ Some (bits_of own) → bits_of w ≤ bits_of own
      → number_by ssa numbers v w (own_form v own w) ≡ slice_index numbers v % 2 ^ bits_of w
  own-row v own w inside e narrow =
      let h = value-stands v (bits_of own) inside e in
      elim (cases_Bool (nat_lt (bits_of w) (bits_of own))) [
        | inl c ↦
            ap (number_by ssa numbers v w) (cond-true (nat_lt (bits_of w) (bits_of own)) (Whole (made (Resize Trunc own) w 0 (alone (Value v)) own)) Own c)
            ∙ ap (λ n. n % 2 ^ bits_of w) h.residue
        | inr c ↦
            let less = ltb-false (bits_of w) (bits_of own) c in
            let same : bits_of own ≡ bits_of w = omega arith in
            ap (number_by ssa numbers v w) (cond-false (nat_lt (bits_of w) (bits_of own)) (Whole (made (Resize Trunc own) w 0 (alone (Value v)) own)) Own c)
            ∙ sym (itself (bits_of w) (slice_index numbers v) (subst (λ k. slice_index numbers v < 2 ^ k) same h.below))
      ]

  -- an extension of the form at the natural width
  wide-row : (v : ℕ) (own w : Width) → v < length numbers → value_bits ssa v ≡ Some (bits_of own) → bits_of (natural_width own (span_at ssa v)) < bits_of w
      → number_by ssa numbers v w (wide_form (span_at ssa v) v (natural_width own (span_at ssa v)) w) ≡ form_number ssa numbers (bits_of w) (Value v)
  wide-row v own w inside e wide =
      let s = span_at ssa v in
      let z = whole_of ssa numbers (Value v) in
      let n = slice_index numbers v in
      let u = natural_width own s in
      let t = bits_of u in
      let h = value-stands v (bits_of own) inside e in
      elim (cases_Bool (is_unsigned t s)) [
        | inl c ↦
            let p = natural (bits_of own) s n z h t c in
            ap (number_by ssa numbers v w) (cond-true (is_unsigned t s) (Whole (made (Resize Zext u) w 0 (alone (Value v)) u)) (Whole (made (Resize Sext u) w 0 (alone (Value v)) u)) c)
            ∙ itself t (residue t z) (residue_below t z) ∙ natural-residue t p.0 z p.1 p.2
            ∙ sym (natural-residue (bits_of w) p.0 z p.1 (below_wider p.0 t (bits_of w) p.2 (omega arith)))
        | inr c ↦
            ap (number_by ssa numbers v w) (cond-false (is_unsigned t s) (Whole (made (Resize Zext u) w 0 (alone (Value v)) u)) (Whole (made (Resize Sext u) w 0 (alone (Value v)) u)) c)
            ∙ ap (λ k. residue (bits_of w) (signed_at t k)) (itself t (residue t z) (residue_below t z))
            ∙ ap (residue (bits_of w)) (back (bits_of own) s n z h t (width-some u) (fits own s h.readable c))
      ]
    where
      fits : (own : Width) (s : Span) → (is_signed (bits_of own) s || is_unsigned (bits_of own) s) ≡ true → is_unsigned (bits_of (natural_width own s)) s ≡ false → is_signed (bits_of (natural_width own s)) s ≡ true
      fits own s read c =
          let t = bits_of (natural_width own s) in
          let flip : (a b : Bool) → (a || b) ≡ true → b ≡ false → a ≡ true = λ a b f g. either b a (swapped a b f) g in
          elim (cases_Bool (nat_eq t (bits_of own))) [
            | inl d ↦
                let same : t ≡ bits_of own = eqb-true t (bits_of own) d in
                flip (is_signed t s) (is_unsigned t s) (subst (λ k. (is_signed k s || is_unsigned k s) ≡ true) (sym same) read) c
            | inr d ↦ flip (is_signed t s) (is_unsigned t s) (either (nat_eq t (bits_of own)) (is_signed t s || is_unsigned t s) (natural-enough own s) d) c
          ]
        where
          swapped : (a b : Bool) → (a || b) ≡ true → (b || a) ≡ true
          swapped true true f = refl
          swapped true false f = refl
          swapped false true f = refl
          swapped false false f = absurd (cc)

  -- ---- forms

  -- what the unit of a value gives, if it is a unit
  abbrev pub Given : ℕ → Option SsaUnit → Type 0
  Given v None = Unit {0}
  Given v (Some (Load a m)) = Unit {0}
  Given v (Some (Store a m y)) = ⊥
  Given v (Some (Operation op m k xs)) =
      TakesEarlier v (Operation op m k xs) × IsOperation ssa op m k xs
      × (slice_index numbers v ≡ result_of (slice_index numbers) op (bits_of m) k xs)
      × (span_at ssa v ≡ operation_span (spans_of ssa) op (bits_of m) k xs)
      × (value_bits ssa v ≡ Some (result_bits op m))

  narrow-row : (v : ℕ) (unit : Option SsaUnit) (own w : Width) → v < length numbers → value_bits ssa v ≡ Some (bits_of own) → bits_of w ≤ bits_of (natural_width own (span_at ssa v)) → Given v unit
      → number_by ssa numbers v w (narrow_form (spans_of ssa) v unit own w) ≡ slice_index numbers v % 2 ^ bits_of w
  narrow-row v None own w inside e n g = own-row v own w inside e (let m = natural-most own (span_at ssa v) in omega arith)
  narrow-row v (Some (Load a m)) own w inside e n g = own-row v own w inside e (let m = natural-most own (span_at ssa v) in omega arith)
  narrow-row v (Some (Store a m y)) own w inside e n g = absurd g
  narrow-row v (Some (Operation op m k xs)) own w inside e n g = by op g
    where
      wide : bits_of w ≤ bits_of own
      wide = let m = natural-most own (span_at ssa v) in omega arith

      by : (op : Operator) → Given v (Some (Operation op m k xs)) → number_by ssa numbers v w (operation_form (spans_of ssa) op m k xs w) ≡ slice_index numbers v % 2 ^ bits_of w
      by op g =
          let bits : result_bits op m ≡ bits_of own = some-same (sym g.4 ∙ e) in
          let wide-bit : 1 ≡ result_bits op m → ⊥ = λ f. never-bit own (f ∙ bits) in
          let same : own ≡ m = width-same own m (sym bits ∙ number-width op wide-bit) in
          operation-row op v m w k xs (span_at ssa v) (omega arith) (subst (λ u. bits_of w ≤ bits_of u) same wide) g.0 g.1 wide-bit g.3 (subst (λ u. bits_of w ≤ bits_of (natural_width u (span_at ssa v))) same n)
          ∙ ap (λ j. j % 2 ^ bits_of w) (sym g.2)
        where
          some-same : {a b : ℕ} → Some a ≡ Some b → a ≡ b
          some-same f = cc

          number-width : (op : Operator) → (1 ≡ result_bits op m → ⊥) → result_bits op m ≡ bits_of m
          number-width (Two o) f = refl
          number-width (Shifting o) f = refl
          number-width (Resize o u) f = refl
          number-width (Compare o) f = absurd (f refl)
          number-width Select f = refl

  pub value-row : (v : ℕ) (unit : Option SsaUnit) (own w : Width) → v < length numbers → value_bits ssa v ≡ Some (bits_of own) → Given v unit
      → number_by ssa numbers v w (value_form (spans_of ssa) v unit own w) ≡ form_number ssa numbers (bits_of w) (Value v)
  value-row v unit own w inside e g =
      let s = span_at ssa v in
      let t = natural_width own s in
      elim (cases_Bool (nat_lt (bits_of t) (bits_of w))) [
        | inl c ↦
            ap (number_by ssa numbers v w) (cond-true (nat_lt (bits_of t) (bits_of w)) (wide_form s v t w) (narrow_form (spans_of ssa) v unit own w) c)
            ∙ wide-row v own w inside e (ltb-true (bits_of t) (bits_of w) c)
        | inr c ↦
            let n = ltb-false (bits_of t) (bits_of w) c in
            let most = natural-most own s in
            let less : bits_of w ≤ bits_of own = omega arith in
            ap (number_by ssa numbers v w) (cond-false (nat_lt (bits_of t) (bits_of w)) (wide_form s v t w) (narrow_form (spans_of ssa) v unit own w) c)
            ∙ narrow-row v unit own w inside e n g
            ∙ low-residue (bits_of own) s (slice_index numbers v) (whole_of ssa numbers (Value v)) (value-stands v (bits_of own) inside e) (bits_of w) less
      ]

  -- a comparison
  reading-back : (op : Comparison) → comparison_by (reading_of op) ≡ op
  reading-back Eq = refl
  reading-back Slt = refl
  reading-back Ult = refl

  by-less : (r : Reading) (t p q : ℕ) → comparison_result (comparison_by r) t p q ≡ (if is_less r t p q then 1 else 0)
  by-less Signed t p q = refl
  by-less Unsigned t p q = refl
  by-less Either t p q = refl

  pub bit-row : (v : ℕ) (op : Comparison) (m w : Width) (k : ℕ) (xs : Operands) → v ≤ length numbers → TakesEarlier v (Operation (Compare op) m k xs) → IsOperation ssa (Compare op) m k xs
      → number_by ssa numbers v w (operation_form (spans_of ssa) (Compare op) m k xs w) ≡ result_of (slice_index numbers) (Compare op) (bits_of m) k xs
  bit-row v op m w k xs inside l h =
      let how = reading_of op in
      let c = compare_operands (spans_of ssa) how m xs in
      let t = bits_of c.width in
      let a = number_of (slice_index numbers) xs.first in
      let b = number_of (slice_index numbers) xs.second in
      let is = comparison-alike how m (operand_span (spans_of ssa) xs.first) (operand_span (spans_of ssa) xs.second) a b (whole_of ssa numbers xs.first) (whole_of ssa numbers xs.second)
      (operand-stands v m xs.first inside l.0 h.1) (operand-stands v m xs.second inside l.1 h.2) in
      by-less c.reading t (form_number ssa numbers t xs.first) (form_number ssa numbers t xs.second)
      ∙ ap (λ d. if d then 1 else 0) is.alike ∙ sym (by-less how (bits_of m) a b) ∙ ap (λ o. comparison_result o (bits_of m) a b) (reading-back op)
