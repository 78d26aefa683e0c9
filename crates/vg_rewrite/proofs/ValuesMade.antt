-- All forms of one value, at each width that is asked for, rising.
use Rattle.std.proofs.Common.{◌≡◌, ℕ, ◌<◌, ◌⊎◌, true, false, List, [], ◌∷◌, ◌++◌, length, Option, Some, refl, sym, ap, ◌∙◌, subst, arith, append_assoc, append-nil, inl, inr}
use Rattle.std.specs.Prelude.{nat_le, nat_lt, pos, slice_index, slice_index_or}
use Rattle.std.proofs.lemmas.Bool.{cases_Bool, cond-false, cond-true, true≢false}
use Rattle.std.proofs.lemmas.List.{get_or_append_left, get_or_push, length-set}
use Rattle.vg_base.specs.declared.width.Width.{Width}
use Rattle.vg_base.specs.declared.width.Width.TheVariants.{W8, W16, W32, W64}
use Rattle.vg_base.specs.Width.{bits_of}
use Rattle.vg_rewrite.specs.declared.asked.Asked.{Asked}
use Rattle.vg_rewrite.specs.declared.choice.Compared.{Compared}
use Rattle.vg_rewrite.specs.declared.choice.Reading.{Reading}
use Rattle.vg_rewrite.specs.declared.choice.Reading.TheVariants.{Signed, Unsigned}
use Rattle.vg_rewrite.specs.declared.choice.Shifted.{Shifted}
use Rattle.vg_rewrite.specs.declared.form.Form.{Form}
use Rattle.vg_rewrite.specs.declared.form.Form.TheVariants.{Own, Zero, Same, Whole, Cut}
use Rattle.vg_rewrite.specs.declared.form.Made.{Made}
use Rattle.vg_rewrite.specs.declared.standing.Standing.{Standing}
use Rattle.vg_rewrite.specs.Choice.{natural_width, shift_choice}
use Rattle.vg_rewrite.specs.Form.{alone, compare_operands, cut_to, extreme_form, greater_by, lesser_by, made, narrow_form, operation_form, own_form, right_form, shift_form, two_form, value_form, wide_form}
use Rattle.vg_rewrite.specs.Laws.{form_number, number_by}
use Rattle.vg_rewrite.specs.Narrowed.{asked_at, is_asked, made_at, make_at, make_form, make_value, Narrowing, nowhere, record_form, with_standing}
use Rattle.vg_rewrite.proofs.Closing.{Asks, if-form}
use Rattle.vg_rewrite.proofs.Demands.{Allows, AllowsBit, FormAt}
use Rattle.vg_rewrite.proofs.FormsMade.{form-made, FormedAs, OwnHas, recorded, State}
use Rattle.vg_rewrite.proofs.Rereading.{Has, has-more}
use Rattle.vg_rewrite.proofs.Widths.{up-to_8, up-to_16, up-to_32, up-to_64}
use Rattle.vg_scalar.specs.declared.resize.Resize.TheVariants.{Sext, Zext, Trunc}
use Rattle.vg_scalar.specs.declared.shift.Shift.{Shift}
use Rattle.vg_scalar.specs.declared.shift.Shift.TheVariants.{Shl, Lshr, Ashr}
use Rattle.vg_scalar.specs.declared.two_op.TwoOp.{TwoOp}
use Rattle.vg_scalar.specs.declared.two_op.TwoOp.TheVariants.{Add, Sub, Mul, And, Or, Xor, Smin, Smax, Umin, Umax}
use Rattle.vg_shapes.specs.declared.ssa.Ssa.{Ssa}
use Rattle.vg_shapes.specs.declared.ssa_unit.Operands.{Operands}
use Rattle.vg_shapes.specs.declared.ssa_unit.Operator.{Operator}
use Rattle.vg_shapes.specs.declared.ssa_unit.Operator.TheVariants.{Two, Shift as Shifting, Resize, Compare, Select}
use Rattle.vg_shapes.specs.declared.ssa_unit.SsaUnit.{SsaUnit}
use Rattle.vg_shapes.specs.declared.ssa_unit.SsaUnit.TheVariants.{Operation}
use Rattle.vg_shapes.specs.declared.wanted.Wanted.{Wanted}
use Rattle.vg_shapes.specs.declared.wanted.Wanted.TheVariants.{Value}
use Rattle.vg_shapes.specs.RunUnits.{Reached}
use Rattle.vg_spans.specs.declared.span.Span.{Span}
use Rattle.vg_spans.specs.Span.{is_unsigned, only, signed_span}
use Rattle.vg_spans.specs.Spans.{operand_span}

-- ---- states

pub state-fewer : (ssa : Ssa) (places : List ℕ) (start : Reached) (all : List ℕ) (D E : ℕ → Width → Type 0) (M L : ℕ → Type 0) (g : Narrowing) (r : Reached) → State ssa places start all D M g r
    → ((y : ℕ) (t : Width) → E y t → D y t) → ((y : ℕ) → L y → M y) → State ssa places start all E L g r
state-fewer ssa places start all D E M L g r state f h = record { ran = state.ran; made = λ y t e. state.made y t (f y t e); bits = λ y e. state.bits y (h y e) }

-- one value more has a place for its forms
pub state-added : (ssa : Ssa) (places : List ℕ) (start : Reached) (all : List ℕ) (D E : ℕ → Width → Type 0) (M : ℕ → Type 0) (g : Narrowing) (r : Reached) (s : Standing) → State ssa places start all D M g r
    → ((y : ℕ) (t : Width) → D y t → y < length g.made) → ((y : ℕ) → M y → y < length g.made)
    → ((y : ℕ) (t : Width) → E y t → D y t ⊎ ((y ≡ length g.made) × Has r.numbers (made_at s t) (form_number ssa all (bits_of t) (Value y)))) → State ssa places start all E M (with_standing s g) r
state-added ssa places start all D E M g r s state low low_bit split = record {
  ran = record { run = state.ran.run; long = state.ran.long };
  made = λ y t e. by y t (split y t e);
  bits = λ y e. subst (λ (q : Standing). Has r.numbers q.bit (slice_index all y)) (sym (get_or_append_left g.made (s ∷ []) nowhere y (low_bit y e))) (state.bits y e);
}
  where
    by : (y : ℕ) (t : Width) → D y t ⊎ ((y ≡ length g.made) × Has r.numbers (made_at s t) (form_number ssa all (bits_of t) (Value y))) → Has r.numbers (made_at (slice_index_or (g.made ++ s ∷ []) y nowhere) t) (form_number ssa all (bits_of t) (Value y))
    by y t (inl d) = subst (λ q. Has r.numbers (made_at q t) (form_number ssa all (bits_of t) (Value y))) (sym (get_or_append_left g.made (s ∷ []) nowhere y (low y t d))) (state.made y t d)
    by y t (inr d) = subst (λ q. Has r.numbers (made_at q t) (form_number ssa all (bits_of t) (Value y))) (sym (get_or_push g.made s nowhere y (sym d.0))) d.1

-- ---- the forms of a value

own-more : (numbers more : List ℕ) (x : Wanted) (n : ℕ) (f : Form) → OwnHas numbers x n f → OwnHas (numbers ++ more) x n f
own-more numbers more x n Own h = has-more numbers more x n h
own-more numbers more x n Zero h = tt
own-more numbers more x n (Same y) h = tt
own-more numbers more x n (Whole m) h = tt
own-more numbers more x n (Cut m) h = tt

-- of a value at lesser widths, where they are asked for
abbrev pub Below : List Asked → ℕ → (ℕ → Width → Type 0) → ℕ → ℕ → Width → Type 0
Below asked v D b y t = D y t ⊎ ((y ≡ v) × Asks asked v t × (bits_of t < b))

-- the state behind more units
pub record Behind (ssa : Ssa) (places : List ℕ) (start : Reached) (all : List ℕ) (D : ℕ → Width → Type 0) (M : ℕ → Type 0) (long : ℕ) (r : Reached) (g : Narrowing) : Type 0 where
  pub after : Reached
  pub more : List ℕ
  pub state : State ssa places start all D M g after
  pub numbers : after.numbers ≡ r.numbers ++ more
  pub memory : after.memory ≡ r.memory
  pub long_is : length g.made ≡ long

module _ (ssa : Ssa) (places : List ℕ) (start : Reached) (all : List ℕ) (asked : List Asked) (spans : List Span) (v : ℕ) (unit : Option SsaUnit) (value : Wanted) (own : Width) (D : ℕ → Width → Type 0) (M : ℕ → Type 0) (long : ℕ) (r : Reached) (inside : v < long)
    (number : (w : Width) → number_by ssa all v w (value_form spans v unit own w) ≡ form_number ssa all (bits_of w) (Value v))
    (parts : (w : Width) → Asks asked v w → FormAt (Allows (Below asked v D (bits_of w))) (AllowsBit M) w (value_form spans v unit own w))
    (owns : (w : Width) → OwnHas r.numbers value (slice_index all v) (value_form spans v unit own w)) where
  abbrev Far : ℕ → Narrowing → Type 0
  Far b g = Behind ssa places start all (Below asked v D b) M long r g

  at-step : (w : Width) (c : ℕ) (g : Narrowing) → ((t : Width) → bits_of t < c → (bits_of t < bits_of w) ⊎ (t ≡ w)) → Far (bits_of w) g → Far c (make_at spans asked v unit value own w g)
  at-step w c g split h = elim (cases_Bool (is_asked (asked_at asked v) w)) [
    | inl e ↦ subst (Far c) (sym (cond-true (is_asked (asked_at asked v) w) (record_form v w (make_form g value w f)) g e)) (made e)
    | inr e ↦ subst (Far c) (sym (cond-false (is_asked (asked_at asked v) w) (record_form v w (make_form g value w f)) g e)) (record {
      after = h.after;
      more = h.more;
      state = state-fewer ssa places start all (Below asked v D (bits_of w)) (Below asked v D c) M M g h.after h.state (λ y t d. fewer y t d e) (λ y d. d);
      numbers = h.numbers;
      memory = h.memory;
      long_is = h.long_is;
    })
  ]
    where
      f : Form
      f = value_form spans v unit own w

      fewer : (y : ℕ) (t : Width) → Below asked v D c y t → is_asked (asked_at asked v) w ≡ false → Below asked v D (bits_of w) y t
      fewer y t (inl d) e = inl d
      fewer y t (inr d) e = elim (split t d.2) [
        | inl less ↦ inr (d.0, d.1, less)
        | inr same ↦ absurd (true≢false (sym (subst (Asks asked v) same d.1) ∙ e))
      ]

      either : (y : ℕ) (t : Width) → Below asked v D c y t → Below asked v D (bits_of w) y t ⊎ ((y ≡ v) × (t ≡ w))
      either y t (inl d) = inl (inl d)
      either y t (inr d) = elim (split t d.2) [ inl less ↦ inl (inr (d.0, d.1, less)) | inr same ↦ inr (d.0, same) ]

      made : is_asked (asked_at asked v) w ≡ true → Far c (record_form v w (make_form g value w (value_form spans v unit own w)))
      made e =
          let owned = subst (λ l. OwnHas l value (slice_index all v) f) (sym h.numbers) (own-more r.numbers h.more value (slice_index all v) f (owns w)) in
          let k = form-made ssa places start all (Below asked v D (bits_of w)) M g h.after h.state v value w f (parts w e) owned in
          let n = subst (FormedAs places start g h.after (make_form g value w f)) (number w) k in
          record {
            after = n.after;
            more = h.more ++ n.more;
            state = recorded ssa places start all (Below asked v D (bits_of w)) (Below asked v D c) M M g h.after h.state v w (make_form g value w f) n (let l = h.long_is in omega arith) either;
            numbers = n.numbers ∙ ap (λ l. l ++ n.more) h.numbers ∙ append_assoc r.numbers h.more n.more;
            memory = n.memory ∙ h.memory;
            long_is = length-set (make_form g value w f).after.made v _ ∙ ap length n.made ∙ h.long_is;
          }

  pub value-made : (g : Narrowing) → State ssa places start all D M g r → length g.made ≡ long → Behind ssa places start all (Below asked v D 128) M long r (make_value spans asked v unit value own g)
  value-made g state l =
      at-step W64 128 g32 (λ t h. up-to_64 t) (at-step W32 64 g16 up-to_32 (at-step W16 32 g8 up-to_16 (at-step W8 16 g up-to_8 first)))
    where
      g8 : Narrowing
      g8 = make_at spans asked v unit value own W8 g

      g16 : Narrowing
      g16 = make_at spans asked v unit value own W16 (make_at spans asked v unit value own W8 g)

      g32 : Narrowing
      g32 = make_at spans asked v unit value own W32 (make_at spans asked v unit value own W16 (make_at spans asked v unit value own W8 g))

      none : (t : Width) → bits_of t < 8 → ⊥
      none W8 h = absurd (omega arith)
      none W16 h = absurd (omega arith)
      none W32 h = absurd (omega arith)
      none W64 h = absurd (omega arith)

      first : Behind ssa places start all (Below asked v D 8) M long r g
      first = record {
        after = r;
        more = [];
        state = state-fewer ssa places start all D (Below asked v D 8) M M g r state (λ y t d. elim d [ inl k ↦ k | inr k ↦ absurd (none t k.2) ]) (λ y d. d);
        numbers = sym (append-nil r.numbers);
        memory = refl;
        long_is = l;
      }

-- ---- the forms of a parameter or a load are made of its own

natural-own : (own : Width) → natural_width own (signed_span (bits_of own)) ≡ own
natural-own W8 = refl
natural-own W16 = refl
natural-own W32 = refl
natural-own W64 = refl

wide-parts : (N : ℕ → Width → Type 0) (M : ℕ → Type 0) (s : Span) (v : ℕ) (t w : Width) → N v t → FormAt (Allows N) (AllowsBit M) w (wide_form s v t w)
wide-parts N M s v t w h =
    if-form (FormAt (Allows N) (AllowsBit M) w) (is_unsigned (bits_of t) s) (Whole (made (Resize Zext t) w 0 (alone (Value v)) t)) (Whole (made (Resize Sext t) w 0 (alone (Value v)) t)) (h, tt, tt) (h, tt, tt)

pub itself-parts : (N : ℕ → Width → Type 0) (M : ℕ → Type 0) (spans : List Span) (v : ℕ) (u : Option SsaUnit) (own w : Width) → slice_index_or spans v (only (pos 0)) ≡ signed_span (bits_of own) → narrow_form spans v u own w ≡ own_form v own w → N v own
    → FormAt (Allows N) (AllowsBit M) w (value_form spans v u own w)
itself-parts N M spans v u own w e narrow h =
    let s = slice_index_or spans v (only (pos 0)) in
    let t = natural_width own s in
    let same : own ≡ t = sym (ap (natural_width own) e ∙ natural-own own) in
    if-form (FormAt (Allows N) (AllowsBit M) w) (nat_lt (bits_of t) (bits_of w)) (wide_form s v t w) (narrow_form spans v u own w) (wide-parts N M s v t w (subst (N v) same h))
    (subst (FormAt (Allows N) (AllowsBit M) w) (sym narrow) (if-form (FormAt (Allows N) (AllowsBit M) w) (nat_lt (bits_of w) (bits_of own)) (Whole (made (Resize Trunc own) w 0 (alone (Value v)) own)) Own (h, tt, tt) tt))

-- ---- no form of an operation is the value itself

abbrev pub NotOwn : Form → Type 0
NotOwn Own = ⊥
NotOwn Zero = Unit {0}
NotOwn (Same x) = Unit {0}
NotOwn (Whole m) = Unit {0}
NotOwn (Cut m) = Unit {0}

not-cut : (w t : Width) (m : Made) → NotOwn (cut_to w t m)
not-cut w t m = if-form NotOwn (nat_lt (bits_of w) (bits_of t)) (Cut m) (Whole m) tt tt

not-extreme : (op : Reading → TwoOp) (w : Width) (xs : Operands) (c : Compared) → NotOwn (extreme_form op w xs c)
not-extreme op w xs c = not-cut w c.width (made (Two (op c.reading)) c.width 0 xs c.width)

not-two : (spans : List Span) (op : TwoOp) (own : Width) (xs : Operands) (w : Width) → NotOwn (two_form spans op own xs w)
not-two spans Add own xs w = tt
not-two spans Sub own xs w = tt
not-two spans Mul own xs w = tt
not-two spans And own xs w = tt
not-two spans Or own xs w = tt
not-two spans Xor own xs w = tt
not-two spans Smin own xs w = not-extreme lesser_by w xs (compare_operands spans Signed own xs)
not-two spans Smax own xs w = not-extreme greater_by w xs (compare_operands spans Signed own xs)
not-two spans Umin own xs w = not-extreme lesser_by w xs (compare_operands spans Unsigned own xs)
not-two spans Umax own xs w = not-extreme greater_by w xs (compare_operands spans Unsigned own xs)

not-right : (w : Width) (k : ℕ) (xs : Operands) (c : Shifted) → NotOwn (right_form w k xs c)
not-right w k xs c = not-cut w c.width (made (Shifting c.op) c.width k xs c.width)

not-shift : (spans : List Span) (op : Shift) (own : Width) (k : ℕ) (xs : Operands) (w : Width) → NotOwn (shift_form spans op own k xs w)
not-shift spans Shl own k xs w = if-form NotOwn (nat_le (bits_of w) k) Zero (Whole (made (Shifting Shl) w k xs w)) tt tt
not-shift spans Lshr own k xs w = not-right w k xs (shift_choice Lshr k own (operand_span spans xs.first) w)
not-shift spans Ashr own k xs w = not-right w k xs (shift_choice Ashr k own (operand_span spans xs.first) w)

not-operation : (spans : List Span) (op : Operator) (own : Width) (k : ℕ) (xs : Operands) (w : Width) → NotOwn (operation_form spans op own k xs w)
not-operation spans (Two op) own k xs w = not-two spans op own xs w
not-operation spans (Shifting op) own k xs w = not-shift spans op own k xs w
not-operation spans (Resize op from) own k xs w = tt
not-operation spans (Compare op) own k xs w = tt
not-operation spans Select own k xs w = tt

not-wide : (s : Span) (v : ℕ) (t w : Width) → NotOwn (wide_form s v t w)
not-wide s v t w = if-form NotOwn (is_unsigned (bits_of t) s) (Whole (made (Resize Zext t) w 0 (alone (Value v)) t)) (Whole (made (Resize Sext t) w 0 (alone (Value v)) t)) tt tt

pub not-value : (spans : List Span) (v : ℕ) (op : Operator) (own : Width) (k : ℕ) (xs : Operands) (w : Width) → NotOwn (value_form spans v (Some (Operation op own k xs)) own w)
not-value spans v op own k xs w =
    let s = slice_index_or spans v (only (pos 0)) in
    let t = natural_width own s in
    if-form NotOwn (nat_lt (bits_of t) (bits_of w)) (wide_form s v t w) (narrow_form spans v (Some (Operation op own k xs)) own w) (not-wide s v t w) (not-operation spans op own k xs w)

never-own : (numbers : List ℕ) (x : Wanted) (n : ℕ) (f : Form) → NotOwn f → OwnHas numbers x n f
never-own numbers x n Own h = absurd h
never-own numbers x n Zero h = tt
never-own numbers x n (Same y) h = tt
never-own numbers x n (Whole m) h = tt
never-own numbers x n (Cut m) h = tt

pub value-owns : (spans : List Span) (v : ℕ) (op : Operator) (own : Width) (k : ℕ) (xs : Operands) (numbers : List ℕ) (x : Wanted) (n : ℕ) (w : Width) → OwnHas numbers x n (value_form spans v (Some (Operation op own k xs)) own w)
value-owns spans v op own k xs numbers x n w = never-own numbers x n (value_form spans v (Some (Operation op own k xs)) own w) (not-value spans v op own k xs w)

pub operation-owns : (spans : List Span) (op : Operator) (own : Width) (k : ℕ) (xs : Operands) (numbers : List ℕ) (x : Wanted) (n : ℕ) (w : Width) → OwnHas numbers x n (operation_form spans op own k xs w)
operation-owns spans op own k xs numbers x n w = never-own numbers x n (operation_form spans op own k xs w) (not-operation spans op own k xs w)

-- the value itself, where it stands
pub some-own : (numbers : List ℕ) (x : Wanted) (n : ℕ) (f : Form) → Has numbers x n → OwnHas numbers x n f
some-own numbers x n Own h = h
some-own numbers x n Zero h = tt
some-own numbers x n (Same y) h = tt
some-own numbers x n (Whole m) h = tt
some-own numbers x n (Cut m) h = tt
