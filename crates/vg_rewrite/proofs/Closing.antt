-- What units ask for is closed: what a form that is asked for is made of is asked for too.
use Rattle.std.proofs.Common.{◌≡◌, ℕ, zero, suc, ◌+◌, ◌<◌, ◌≤◌, ◌⊎◌, Bool, true, false, List, [], ◌∷◌, length, Option, Some, None, refl, sym, ◌∙◌, subst, arith, inl, inr}
use Rattle.std.specs.Prelude.{nat_lt, pos, replicate, slice_get, slice_index_or, if◌then◌else◌}
use Rattle.std.proofs.lemmas.Bool.{cases_Bool, cond-false, cond-true, ltb-true, true≢false}
use Rattle.std.proofs.lemmas.List.{length-replicate}
use Rattle.vg_base.specs.declared.width.Width.{Width}
use Rattle.vg_base.specs.declared.width.Width.TheVariants.{W8, W16, W32, W64}
use Rattle.vg_base.specs.Width.{bits_of}
use Rattle.vg_rewrite.specs.declared.asked.Asked.{Asked}
use Rattle.vg_rewrite.specs.declared.form.Form.{Form}
use Rattle.vg_rewrite.specs.declared.form.Form.TheVariants.{Own, Whole}
use Rattle.vg_rewrite.specs.Choice.{natural_width}
use Rattle.vg_rewrite.specs.Form.{alone, made, narrow_form, operation_form, own_form, value_form, wide_form}
use Rattle.vg_rewrite.specs.Narrowed.{ask_at, ask_form, ask_params, ask_unit, ask_units, ask_value, asked_at, asked_over, is_asked, unasked}
use Rattle.vg_rewrite.proofs.Demands.{Allows, AllowsBit, ask-grows, ask-in, FormAt, FormBelow, form-both, form-grows, form-in, form-in_more, Grows, grows-both, grows-more, grows-none, in-more, IsBelow, IsBitIn, IsIn, parts-at}
use Rattle.vg_rewrite.proofs.Words.{each-first, operation-over}
use Rattle.vg_scalar.specs.declared.resize.Resize.TheVariants.{Sext, Zext, Trunc}
use Rattle.vg_shapes.specs.declared.ssa_unit.Operands.{Operands}
use Rattle.vg_shapes.specs.declared.ssa_unit.Operator.{Operator}
use Rattle.vg_shapes.specs.declared.ssa_unit.Operator.TheVariants.{Two, Shift, Resize, Compare, Select}
use Rattle.vg_shapes.specs.declared.ssa_unit.SsaUnit.{SsaUnit}
use Rattle.vg_shapes.specs.declared.ssa_unit.SsaUnit.TheVariants.{Load, Store, Operation}
use Rattle.vg_shapes.specs.declared.wanted.Wanted.{Wanted}
use Rattle.vg_shapes.specs.declared.wanted.Wanted.TheVariants.{Value, Constant, Nothing}
use Rattle.vg_shapes.specs.Sound.{IsEarlier, TakeEarlier, TakesEarlier}
use Rattle.vg_spans.specs.declared.span.Span.{Span}
use Rattle.vg_spans.specs.Span.{is_unsigned, only}

-- ---- marks that the form of a value at a width may set

-- of earlier values, and of the value itself where the width passes
abbrev pub Marks : ℕ → (Width → Type 0) → ℕ → Width → Type 0
Marks v at y t = (y < v) ⊎ ((y ≡ v) × at t)

abbrev pub Before : ℕ → ℕ → Type 0
Before v y = y < v

abbrev pub Allowed : ℕ → (Width → Type 0) → Width → Form → Type 0
Allowed v at w f = FormAt (Allows (Marks v at)) (AllowsBit (Before v)) w f

earlier-allowed : (v : ℕ) (at : Width → Type 0) (t : Width) (x : Wanted) → IsEarlier v x → Allows (Marks v at) t x
earlier-allowed v at t (Value y) h = inl h
earlier-allowed v at t (Constant w n) h = tt
earlier-allowed v at t Nothing h = tt

earlier-allowed_bit : (v : ℕ) (x : Wanted) → IsEarlier v x → AllowsBit (Before v) x
earlier-allowed_bit v (Value y) h = h
earlier-allowed_bit v (Constant w n) h = tt
earlier-allowed_bit v Nothing h = tt

pub if-form : (P : Form → Type 0) (b : Bool) (x y : Form) → P x → P y → P (if b then x else y)
if-form P true x y h k = h
if-form P false x y h k = k

pub operation-allowed : (v : ℕ) (at : Width → Type 0) (spans : List Span) (op : Operator) (own : Width) (k : ℕ) (xs : Operands) (w : Width) → TakesEarlier v (Operation op own k xs) → Allowed v at w (operation_form spans op own k xs w)
operation-allowed v at spans op own k xs w h =
    let f = operation_form spans op own k xs w in
    let over = parts-at (IsEarlier v) (IsEarlier v) w f (operation-over (IsEarlier v) (IsEarlier v) spans op own k xs w (each-first (IsEarlier v) op xs.first h.0, h.1, h.2)) in
    form-both (λ t x. IsEarlier v x) (λ t x. IsEarlier v x) (Allows (Marks v at)) (IsEarlier v) (IsEarlier v) (AllowsBit (Before v)) (λ t x p q. earlier-allowed v at t x p) (λ x p q. earlier-allowed_bit v x p) w f over over

wide-allowed : (v : ℕ) (at : Width → Type 0) (s : Span) (t w : Width) → at t → Allowed v at w (wide_form s v t w)
wide-allowed v at s t w h =
    if-form (Allowed v at w) (is_unsigned (bits_of t) s) (Whole (made (Resize Zext t) w 0 (alone (Value v)) t)) (Whole (made (Resize Sext t) w 0 (alone (Value v)) t))
    (inr (refl, h), tt, tt) (inr (refl, h), tt, tt)

own-allowed : (v : ℕ) (at : Width → Type 0) (own w : Width) → at own → Allowed v at w (own_form v own w)
own-allowed v at own w h = if-form (Allowed v at w) (nat_lt (bits_of w) (bits_of own)) (Whole (made (Resize Trunc own) w 0 (alone (Value v)) own)) Own (inr (refl, h), tt, tt) tt

-- of an operation: at lesser widths
abbrev pub Less : Width → Width → Type 0
Less w t = bits_of t < bits_of w

abbrev unit : Operator → Width → ℕ → Operands → Option SsaUnit
unit op own k xs = Some (Operation op own k xs)

pub value-allowed : (spans : List Span) (v : ℕ) (op : Operator) (own : Width) (k : ℕ) (xs : Operands) (w : Width) → TakesEarlier v (Operation op own k xs) → Allowed v (Less w) w (value_form spans v (unit op own k xs) own w)
value-allowed spans v op own k xs w h =
    let s = slice_index_or spans v (only (pos 0)) in
    let t = natural_width own s in
    elim (cases_Bool (nat_lt (bits_of t) (bits_of w))) [
      | inl c ↦ subst (Allowed v (Less w) w) (sym (cond-true (nat_lt (bits_of t) (bits_of w)) (wide_form s v t w) (narrow_form spans v (unit op own k xs) own w) c)) (wide-allowed v (Less w) s t w (ltb-true (bits_of t) (bits_of w) c))
      | inr c ↦ subst (Allowed v (Less w) w) (sym (cond-false (nat_lt (bits_of t) (bits_of w)) (wide_form s v t w) (narrow_form spans v (unit op own k xs) own w) c)) (operation-allowed v (Less w) spans op own k xs w h)
    ]

-- of a parameter or a load: at any width
abbrev Any : Width → Type 0
Any t = Unit {0}

itself-allowed : (spans : List Span) (v : ℕ) (u : Option SsaUnit) (own w : Width) → narrow_form spans v u own w ≡ own_form v own w → Allowed v Any w (value_form spans v u own w)
itself-allowed spans v u own w e =
    let s = slice_index_or spans v (only (pos 0)) in
    let t = natural_width own s in
    if-form (Allowed v Any w) (nat_lt (bits_of t) (bits_of w)) (wide_form s v t w) (narrow_form spans v u own w) (wide-allowed v Any s t w tt) (subst (Allowed v Any w) (sym e) (own-allowed v Any own w tt))

allowed-below : (v n : ℕ) (at : Width → Type 0) (w : Width) (f : Form) → v < n → Allowed v at w f → FormBelow n w f
allowed-below v n at w f l h =
    form-both (Allows (Marks v at)) (Allows (Marks v at)) (λ t x. IsBelow n x) (AllowsBit (Before v)) (AllowsBit (Before v)) (IsBelow n) (λ t x p q. one t x p) (λ x p q. bit x p) w f h h
  where
    one : (t : Width) (x : Wanted) → Allows (Marks v at) t x → IsBelow n x
    one t (Value y) (inl p) = omega arith
    one t (Value y) (inr p) = (let same = p.0 in omega arith)
    one t (Constant w k) p = tt
    one t Nothing p = tt

    bit : (x : Wanted) → AllowsBit (Before v) x → IsBelow n x
    bit (Value y) p = omega arith
    bit (Constant w k) p = tt
    bit Nothing p = tt

-- ---- one width

abbrev pub Asks : List Asked → ℕ → Width → Type 0
Asks a v w = is_asked (asked_at a v) w ≡ true

abbrev pub FormedIn : List Asked → Width → Form → Type 0
FormedIn a w f = FormAt (IsIn a) (IsBitIn a) w f

at-grows : (spans : List Span) (v : ℕ) (u : Option SsaUnit) (own w : Width) (at : Width → Type 0) (a : List Asked) → Allowed v at w (value_form spans v u own w) → Grows (Marks v at) (Before v) a (ask_at spans v u own w a)
at-grows spans v u own w at a h = elim (cases_Bool (is_asked (asked_at a v) w)) [
  | inl c ↦ subst (Grows (Marks v at) (Before v) a) (sym (cond-true (is_asked (asked_at a v) w) (ask_form w (value_form spans v u own w) a) a c)) (form-grows (Marks v at) (Before v) w (value_form spans v u own w) a h)
  | inr c ↦ subst (Grows (Marks v at) (Before v) a) (sym (cond-false (is_asked (asked_at a v) w) (ask_form w (value_form spans v u own w) a) a c)) (grows-none (Marks v at) (Before v) a)
]

-- a mark of the value at a width that is no less was set before
back : (v : ℕ) (w t : Width) (a b : List Asked) → Grows (Marks v (Less w)) (Before v) a b → bits_of w ≤ bits_of t → Asks b v t → Asks a v t
back v w t a b g l h = by (g.new v t h)
  where
    by : Asks a v t ⊎ Marks v (Less w) v t → Asks a v t
    by (inl k) = k
    by (inr (inl k)) = absurd (omega arith)
    by (inr (inr k)) = absurd (let less = k.1 in omega arith)

at-closed : (spans : List Span) (v : ℕ) (u : Option SsaUnit) (own w : Width) (a : List Asked) → v < length a → Allowed v (Less w) w (value_form spans v u own w) → Asks (ask_at spans v u own w a) v w
    → FormedIn (ask_at spans v u own w a) w (value_form spans v u own w)
at-closed spans v u own w a l h asks =
    let f = value_form spans v u own w in
    let c = back v w w a (ask_at spans v u own w a) (at-grows spans v u own w (Less w) a h) (let same : bits_of w ≤ bits_of w = omega arith in same) asks in
    subst (λ b. FormedIn b w f) (sym (cond-true (is_asked (asked_at a v) w) (ask_form w f a) a c)) (form-in w f a (allowed-below v (length a) (Less w) w f l h))

-- ---- all widths of an operation's value

record Valued (spans : List Span) (v : ℕ) (u : Option SsaUnit) (own : Width) (a b : List Asked) : Type 0 where
  grows : Grows (Marks v Any) (Before v) a b
  closed : (w : Width) → Asks b v w → FormedIn b w (value_form spans v u own w)

value-asks : (spans : List Span) (v : ℕ) (op : Operator) (own : Width) (k : ℕ) (xs : Operands) (a : List Asked) → v < length a → TakesEarlier v (Operation op own k xs) → Valued spans v (unit op own k xs) own a (ask_value spans v (unit op own k xs) own a)
value-asks spans v op own k xs a l takes = record {
  grows =
      grows-both (Marks v Any) (Before v) a a64 a8 (wider W64 a a64 g64)
      (grows-both (Marks v Any) (Before v) a64 a32 a8 (wider W32 a64 a32 g32) (grows-both (Marks v Any) (Before v) a32 a16 a8 (wider W16 a32 a16 g16) (wider W8 a16 a8 g8)));
  closed = closed;
}
  where
    u : Option SsaUnit
    u = unit op own k xs

    a64 : List Asked
    a64 = ask_at spans v (unit op own k xs) own W64 a

    a32 : List Asked
    a32 = ask_at spans v (unit op own k xs) own W32 (ask_at spans v (unit op own k xs) own W64 a)

    a16 : List Asked
    a16 = ask_at spans v (unit op own k xs) own W16 (ask_at spans v (unit op own k xs) own W32 (ask_at spans v (unit op own k xs) own W64 a))

    a8 : List Asked
    a8 = ask_value spans v (unit op own k xs) own a

    allowed : (w : Width) → Allowed v (Less w) w (value_form spans v (unit op own k xs) own w)
    allowed w = value-allowed spans v op own k xs w takes

    g64 : Grows (Marks v (Less W64)) (Before v) a a64
    g64 = at-grows spans v (unit op own k xs) own W64 (Less W64) a (allowed W64)

    g32 : Grows (Marks v (Less W32)) (Before v) a64 a32
    g32 = at-grows spans v (unit op own k xs) own W32 (Less W32) a64 (allowed W32)

    g16 : Grows (Marks v (Less W16)) (Before v) a32 a16
    g16 = at-grows spans v (unit op own k xs) own W16 (Less W16) a32 (allowed W16)

    g8 : Grows (Marks v (Less W8)) (Before v) a16 a8
    g8 = at-grows spans v (unit op own k xs) own W8 (Less W8) a16 (allowed W8)

    wider : (w : Width) (p q : List Asked) → Grows (Marks v (Less w)) (Before v) p q → Grows (Marks v Any) (Before v) p q
    wider w p q g = grows-more (Marks v (Less w)) (Marks v Any) (Before v) (Before v) p q (λ y t h. elim h [ inl k ↦ inl k | inr k ↦ inr (k.0, tt) ]) (λ y h. h) g

    later : (w : Width) (p q : List Asked) → Grows (Marks v (Less w)) (Before v) p q → (t : Width) (f : Form) → FormedIn p t f → FormedIn q t f
    later w p q g t f h = form-in_more (Marks v (Less w)) (Before v) p q g t f h

    form : (w : Width) → Form
    form w = value_form spans v (unit op own k xs) own w

    closed : (w : Width) → Asks a8 v w → FormedIn a8 w (value_form spans v (unit op own k xs) own w)
    closed W8 h = at-closed spans v (unit op own k xs) own W8 a16 (let x = g16.long in let y = g32.long in let z = g64.long in omega arith) (allowed W8) h
    closed W16 h =
        let b = back v W8 W16 a16 a8 g8 (omega arith) h in
        later W8 a16 a8 g8 W16 (value_form spans v (unit op own k xs) own W16) (at-closed spans v (unit op own k xs) own W16 a32 (let y = g32.long in let z = g64.long in omega arith) (allowed W16) b)
    closed W32 h =
        let b = back v W16 W32 a32 a16 g16 (omega arith) (back v W8 W32 a16 a8 g8 (omega arith) h) in
        let f = value_form spans v (unit op own k xs) own W32 in
        later W8 a16 a8 g8 W32 f (later W16 a32 a16 g16 W32 f (at-closed spans v (unit op own k xs) own W32 a64 (let z = g64.long in omega arith) (allowed W32) b))
    closed W64 h =
        let b = back v W32 W64 a64 a32 g32 (omega arith) (back v W16 W64 a32 a16 g16 (omega arith) (back v W8 W64 a16 a8 g8 (omega arith) h)) in
        let f = value_form spans v (unit op own k xs) own W64 in
        later W8 a16 a8 g8 W64 f (later W16 a32 a16 g16 W64 f (later W32 a64 a32 g32 W64 f (at-closed spans v (unit op own k xs) own W64 a l (allowed W64) b)))

-- a parameter or a load
itself-grows : (spans : List Span) (v : ℕ) (u : Option SsaUnit) (own : Width) (a : List Asked) → ((w : Width) → narrow_form spans v u own w ≡ own_form v own w) → Grows (Marks v Any) (Before v) a (ask_value spans v u own a)
itself-grows spans v u own a e =
    let b = ask_at spans v u own W64 a in
    let c = ask_at spans v u own W32 b in
    let d = ask_at spans v u own W16 c in
    let f = ask_at spans v u own W8 d in
    grows-both (Marks v Any) (Before v) a b f (one W64 a) (grows-both (Marks v Any) (Before v) b c f (one W32 b) (grows-both (Marks v Any) (Before v) c d f (one W16 c) (one W8 d)))
  where
    one : (w : Width) (a : List Asked) → Grows (Marks v Any) (Before v) a (ask_at spans v u own w a)
    one w a = at-grows spans v u own w Any a (itself-allowed spans v u own w (e w))

-- ---- units

abbrev pub ClosedOperation : List Span → List Asked → ℕ → Operator → Width → ℕ → Operands → Type 0
ClosedOperation spans b v (Two op) own k xs = (w : Width) → Asks b v w → FormedIn b w (value_form spans v (Some (Operation (Two op) own k xs)) own w)
ClosedOperation spans b v (Shift op) own k xs = (w : Width) → Asks b v w → FormedIn b w (value_form spans v (Some (Operation (Shift op) own k xs)) own w)
ClosedOperation spans b v (Resize op from) own k xs = (w : Width) → Asks b v w → FormedIn b w (value_form spans v (Some (Operation (Resize op from) own k xs)) own w)
ClosedOperation spans b v (Compare op) own k xs = (asked_at b v).bit ≡ true → FormedIn b W8 (operation_form spans (Compare op) own k xs W8)
ClosedOperation spans b v Select own k xs = (w : Width) → Asks b v w → FormedIn b w (value_form spans v (Some (Operation Select own k xs)) own w)

-- what is asked of the value of a unit is closed
abbrev pub Closed : List Span → List Asked → ℕ → SsaUnit → Type 0
Closed spans b v (Load a w) = Unit {0}
Closed spans b v (Store a w x) = IsIn b w x
Closed spans b v (Operation op own k xs) = ClosedOperation spans b v op own k xs

-- marks of values up to this one
abbrev UpTo : ℕ → ℕ → Width → Type 0
UpTo v y t = y ≤ v

abbrev Under : ℕ → ℕ → Width → Type 0
Under v y t = y < v

up-to : (v : ℕ) (a b : List Asked) → Grows (Marks v Any) (Before v) a b → Grows (UpTo v) (Before v) a b
up-to v a b g = grows-more (Marks v Any) (UpTo v) (Before v) (Before v) a b by (λ y h. h) g
  where
    by : (y : ℕ) (t : Width) → Marks v Any y t → UpTo v y t
    by y t (inl h) = omega arith
    by y t (inr h) = (let same = h.0 in omega arith)

operand-below : (v n : ℕ) (x : Wanted) → v ≤ n → IsEarlier v x → IsBelow n x
operand-below v n (Value y) l h = omega arith
operand-below v n (Constant w k) l h = tt
operand-below v n Nothing l h = tt

operand-up : (v : ℕ) (w : Width) (x : Wanted) → IsEarlier v x → Allows (UpTo v) w x
operand-up v w (Value y) h = omega arith
operand-up v w (Constant m k) h = tt
operand-up v w Nothing h = tt

record Asking (spans : List Span) (v : ℕ) (u : SsaUnit) (a b : List Asked) : Type 0 where
  grows : Grows (UpTo v) (Before v) a b
  closed : Closed spans b v u

comparison-asks : (spans : List Span) (v : ℕ) (op : _) (own : Width) (k : ℕ) (xs : Operands) (a : List Asked) → v < length a → TakesEarlier v (Operation (Compare op) own k xs) → Asking spans v (Operation (Compare op) own k xs) a (ask_unit spans v (Operation (Compare op) own k xs) a)
comparison-asks spans v op own k xs a l takes = elim (cases_Bool (asked_at a v).bit) [
  | inl c ↦ subst (Asking spans v (Operation (Compare op) own k xs) a) (sym (cond-true (asked_at a v).bit (ask_form W8 f a) a c)) (record {
    grows = up-to v a (ask_form W8 f a) (form-grows (Marks v Any) (Before v) W8 f a allowed);
    closed = λ e. form-in W8 f a (allowed-below v (length a) Any W8 f l allowed);
  })
  | inr c ↦ subst (Asking spans v (Operation (Compare op) own k xs) a) (sym (cond-false (asked_at a v).bit (ask_form W8 f a) a c)) (record {
    grows = grows-none (UpTo v) (Before v) a;
    closed = λ e. absurd (true≢false (sym e ∙ c));
  })
]
  where
    f : Form
    f = operation_form spans (Compare op) own k xs W8

    allowed : Allowed v Any W8 (operation_form spans (Compare op) own k xs W8)
    allowed = operation-allowed v Any spans (Compare op) own k xs W8 takes

unit-asks : (spans : List Span) (v : ℕ) (u : SsaUnit) (a : List Asked) → v < length a → TakesEarlier v u → Asking spans v u a (ask_unit spans v u a)
unit-asks spans v (Load x w) a l takes = record { grows = up-to v a (ask_unit spans v (Load x w) a) (itself-grows spans v (Some (Load x w)) w a (λ t. refl)); closed = tt }
unit-asks spans v (Store y w x) a l takes = record {
  grows = ask-grows (UpTo v) (Before v) w x a (operand-up v w x takes);
  closed = ask-in w x a (operand-below v (length a) x (omega arith) takes);
}
unit-asks spans v (Operation (Two op) own k xs) a l takes = let h = value-asks spans v (Two op) own k xs a l takes in record { grows = up-to v a (ask_unit spans v (Operation (Two op) own k xs) a) h.grows; closed = h.closed }
unit-asks spans v (Operation (Shift op) own k xs) a l takes = let h = value-asks spans v (Shift op) own k xs a l takes in record { grows = up-to v a (ask_unit spans v (Operation (Shift op) own k xs) a) h.grows; closed = h.closed }
unit-asks spans v (Operation (Resize op from) own k xs) a l takes = let h = value-asks spans v (Resize op from) own k xs a l takes in record { grows = up-to v a (ask_unit spans v (Operation (Resize op from) own k xs) a) h.grows; closed = h.closed }
unit-asks spans v (Operation (Compare op) own k xs) a l takes = comparison-asks spans v op own k xs a l takes
unit-asks spans v (Operation Select own k xs) a l takes = let h = value-asks spans v Select own k xs a l takes in record { grows = up-to v a (ask_unit spans v (Operation Select own k xs) a) h.grows; closed = h.closed }

-- ---- more marks of earlier values

module _ (spans : List Span) (v : ℕ) (a b : List Asked) (g : Grows (Under v) (Before v) a b) where
  unmarked : (w : Width) → Asks b v w → Asks a v w
  unmarked w h = elim (g.new v w h) [ inl k ↦ k | inr k ↦ absurd (omega arith) ]

  unmarked-bit : (asked_at b v).bit ≡ true → (asked_at a v).bit ≡ true
  unmarked-bit h = elim (g.new_bit v h) [ inl k ↦ k | inr k ↦ absurd (omega arith) ]

  value-more : (f : Width → Form) → ((w : Width) → Asks a v w → FormedIn a w (f w)) → (w : Width) → Asks b v w → FormedIn b w (f w)
  value-more f h w e = form-in_more (Under v) (Before v) a b g w (f w) (h w (unmarked w e))

  closed-more : (u : SsaUnit) → Closed spans a v u → Closed spans b v u
  closed-more (Load x w) h = tt
  closed-more (Store y w x) h = in-more (Under v) (Before v) a b g w x h
  closed-more (Operation (Two op) own k xs) h = value-more (λ w. value_form spans v (Some (Operation (Two op) own k xs)) own w) h
  closed-more (Operation (Shift op) own k xs) h = value-more (λ w. value_form spans v (Some (Operation (Shift op) own k xs)) own w) h
  closed-more (Operation (Resize op from) own k xs) h = value-more (λ w. value_form spans v (Some (Operation (Resize op from) own k xs)) own w) h
  closed-more (Operation (Compare op) own k xs) h = λ e. form-in_more (Under v) (Before v) a b g W8 (operation_form spans (Compare op) own k xs W8) (h (unmarked-bit e))
  closed-more (Operation Select own k xs) h = value-more (λ w. value_form spans v (Some (Operation Select own k xs)) own w) h

-- ---- all units

units-long : (spans : List Span) (v : ℕ) (us : List SsaUnit) (a : List Asked) → v + length us ≤ length a → TakeEarlier v us → length (ask_units spans v us a) ≡ length a
units-long spans v [] a l takes = refl
units-long spans v (u ∷ us) a l takes =
    let rest = units-long spans (v + 1) us a (omega arith) takes.1 in
    (unit-asks spans v u (ask_units spans (v + 1) us a) (omega arith) takes.0).grows.long ∙ rest

units-closed : (spans : List Span) (v : ℕ) (us : List SsaUnit) (a : List Asked) → v + length us ≤ length a → TakeEarlier v us → (j : ℕ) (u : SsaUnit) → slice_get us j ≡ Some u → Closed spans (ask_units spans v us a) (v + j) u
units-closed spans v [] a l takes j u e = absurd (cc)
units-closed spans v (x ∷ us) a l takes zero u e =
    let same : x ≡ u = cc in
    let at : v ≡ v + 0 = omega arith in
    let rest = units-long spans (v + 1) us a (omega arith) takes.1 in
    subst (λ n. Closed spans (ask_units spans v (x ∷ us) a) n u) at (subst (Closed spans (ask_units spans v (x ∷ us) a) v) same (unit-asks spans v x (ask_units spans (v + 1) us a) (omega arith) takes.0).closed)
units-closed spans v (x ∷ us) a l takes (suc j) u e =
    let at : v + 1 + j ≡ v + suc j = omega arith in
    let b = ask_units spans (v + 1) us a in
    let rest = units-long spans (v + 1) us a (omega arith) takes.1 in
    let g = (unit-asks spans v x b (omega arith) takes.0).grows in
    let under = grows-more (UpTo v) (Under (v + 1 + j)) (Before v) (Before (v + 1 + j)) b (ask_unit spans v x b) (λ y t h. (let less : y < v + 1 + j = omega arith in less)) (λ y h. (let less : y < v + 1 + j = omega arith in less)) g in
    subst (λ n. Closed spans (ask_units spans v (x ∷ us) a) n u) at (closed-more spans (v + 1 + j) b (ask_unit spans v x b) under u (units-closed spans (v + 1) us a (omega arith) takes.1 j u e))

params-grow : (spans : List Span) (v n : ℕ) (ws : List Width) (a : List Asked) → v + length ws ≤ n → Grows (Under n) (Before n) a (ask_params spans v ws a)
params-grow spans v n [] a l = grows-none (Under n) (Before n) a
params-grow spans v n (w ∷ ws) a l =
    let b = ask_params spans (v + 1) ws a in
    let c = ask_value spans v None w b in
    let one = grows-more (Marks v Any) (Under n) (Before v) (Before n) b c by (λ y h. (let less : y < n = omega arith in less)) (itself-grows spans v None w b (λ t. refl)) in
    grows-both (Under n) (Before n) a b c (params-grow spans (v + 1) n ws a (omega arith)) one
  where
    by : (y : ℕ) (t : Width) → Marks v Any y t → Under n y t
    by y t (inl h) = omega arith
    by y t (inr h) = (let same = h.0 in omega arith)

pub asked-closed : (spans : List Span) (ws : List Width) (us : List SsaUnit) → TakeEarlier (length ws) us → (j : ℕ) (u : SsaUnit) → slice_get us j ≡ Some u → Closed spans (asked_over spans ws us) (length ws + j) u
asked-closed spans ws us takes j u e =
    let a = replicate (length ws + length us) unasked in
    let long : length a ≡ length ws + length us = length-replicate (length ws + length us) unasked in
    let b = ask_units spans (length ws) us a in
    let g = params-grow spans 0 (length ws + j) ws b (omega arith) in
    closed-more spans (length ws + j) b (asked_over spans ws us) g u (units-closed spans (length ws) us a (omega arith) takes j u e)
