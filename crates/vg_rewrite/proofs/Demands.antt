-- What is asked of values is closed: what a form that is asked for is made of is asked for too.
use Rattle.std.proofs.Common.{◌≡◌, ℕ, ◌<◌, ◌⊎◌, true, false, List, length, refl, sym, ap, ◌∙◌, subst, inl, inr, get_or-set_same, get_or-set_other}
use Rattle.std.specs.Prelude.{nat_eq, set}
use Rattle.std.proofs.lemmas.Bool.{cases_Bool, cases_lt, eqb-false, eqb-true}
use Rattle.std.proofs.lemmas.List.{length-set, set_past}
use Rattle.vg_base.specs.declared.width.Width.{Width}
use Rattle.vg_base.specs.declared.width.Width.TheVariants.{W8, W16, W32, W64}
use Rattle.vg_rewrite.specs.declared.asked.Asked.{Asked}
use Rattle.vg_rewrite.specs.declared.form.Form.{Form}
use Rattle.vg_rewrite.specs.declared.form.Form.TheVariants.{Own, Zero, Same, Whole, Cut}
use Rattle.vg_rewrite.specs.declared.form.Made.{Made}
use Rattle.vg_rewrite.specs.Narrowed.{and_asked, ask, ask_bit, ask_first, ask_form, ask_made, asked_at, is_asked, unasked, with_bit}
use Rattle.vg_rewrite.proofs.Words.{FirstOver, PartsOver}
use Rattle.vg_shapes.specs.declared.ssa_unit.Operator.{Operator}
use Rattle.vg_shapes.specs.declared.ssa_unit.Operator.TheVariants.{Two, Shift, Resize, Compare, Select}
use Rattle.vg_shapes.specs.declared.wanted.Wanted.{Wanted}
use Rattle.vg_shapes.specs.declared.wanted.Wanted.TheVariants.{Value, Constant, Nothing}
use Rattle.vg_shapes.specs.Sound.{IsEarlier}

-- ---- what a form is made of, with the width that is asked of it

abbrev pub FirstAt : (Width → Wanted → Type 0) → (Wanted → Type 0) → Operator → Width → Wanted → Type 0
FirstAt P Q (Two op) t x = P t x
FirstAt P Q (Shift op) t x = P t x
FirstAt P Q (Resize op from) t x = P t x
FirstAt P Q (Compare op) t x = P t x
FirstAt P Q Select t x = Q x

abbrev pub MadeAt : (Width → Wanted → Type 0) → (Wanted → Type 0) → Made → Type 0
MadeAt P Q m = FirstAt P Q m.op m.asked m.operands.first × P m.asked m.operands.second × P m.asked m.operands.third

abbrev pub FormAt : (Width → Wanted → Type 0) → (Wanted → Type 0) → Width → Form → Type 0
FormAt P Q w Own = Unit {0}
FormAt P Q w Zero = Unit {0}
FormAt P Q w (Same x) = P w x
FormAt P Q w (Whole m) = MadeAt P Q m
FormAt P Q w (Cut m) = MadeAt P Q m

first-at : (P Q : Wanted → Type 0) (op : Operator) (t : Width) (x : Wanted) → FirstOver P Q op x → FirstAt (λ u y. P y) Q op t x
first-at P Q (Two op) t x h = h
first-at P Q (Shift op) t x h = h
first-at P Q (Resize op from) t x h = h
first-at P Q (Compare op) t x h = h
first-at P Q Select t x h = h

pub parts-at : (P Q : Wanted → Type 0) (w : Width) (f : Form) → PartsOver P Q f → FormAt (λ t x. P x) Q w f
parts-at P Q w Own h = tt
parts-at P Q w Zero h = tt
parts-at P Q w (Same x) h = h
parts-at P Q w (Whole m) h = (first-at P Q m.op m.asked m.operands.first h.0, h.1, h.2)
parts-at P Q w (Cut m) h = (first-at P Q m.op m.asked m.operands.first h.0, h.1, h.2)

module _ (P R T : Width → Wanted → Type 0) (Q S U : Wanted → Type 0) (f : (t : Width) (x : Wanted) → P t x → R t x → T t x) (g : (x : Wanted) → Q x → S x → U x) where
  first-both : (op : Operator) (t : Width) (x : Wanted) → FirstAt P Q op t x → FirstAt R S op t x → FirstAt T U op t x
  first-both (Two op) t x h k = f t x h k
  first-both (Shift op) t x h k = f t x h k
  first-both (Resize op from) t x h k = f t x h k
  first-both (Compare op) t x h k = f t x h k
  first-both Select t x h k = g x h k

  made-both : (m : Made) → MadeAt P Q m → MadeAt R S m → MadeAt T U m
  made-both m h k = (first-both m.op m.asked m.operands.first h.0 k.0, f m.asked m.operands.second h.1 k.1, f m.asked m.operands.third h.2 k.2)

  pub form-both : (w : Width) (x : Form) → FormAt P Q w x → FormAt R S w x → FormAt T U w x
  form-both w Own h k = tt
  form-both w Zero h k = tt
  form-both w (Same x) h k = f w x h k
  form-both w (Whole m) h k = made-both m h k
  form-both w (Cut m) h k = made-both m h k

-- ---- marks of one value

and-keeps : (w t : Width) (a : Asked) → is_asked a t ≡ true → is_asked (and_asked w a) t ≡ true
and-keeps W8 W8 a e = refl
and-keeps W8 W16 a e = e
and-keeps W8 W32 a e = e
and-keeps W8 W64 a e = e
and-keeps W16 W8 a e = e
and-keeps W16 W16 a e = refl
and-keeps W16 W32 a e = e
and-keeps W16 W64 a e = e
and-keeps W32 W8 a e = e
and-keeps W32 W16 a e = e
and-keeps W32 W32 a e = refl
and-keeps W32 W64 a e = e
and-keeps W64 W8 a e = e
and-keeps W64 W16 a e = e
and-keeps W64 W32 a e = e
and-keeps W64 W64 a e = refl

and-new : (w t : Width) (a : Asked) → is_asked (and_asked w a) t ≡ true → (is_asked a t ≡ true) ⊎ (t ≡ w)
and-new W8 W8 a e = inr refl
and-new W8 W16 a e = inl e
and-new W8 W32 a e = inl e
and-new W8 W64 a e = inl e
and-new W16 W8 a e = inl e
and-new W16 W16 a e = inr refl
and-new W16 W32 a e = inl e
and-new W16 W64 a e = inl e
and-new W32 W8 a e = inl e
and-new W32 W16 a e = inl e
and-new W32 W32 a e = inr refl
and-new W32 W64 a e = inl e
and-new W64 W8 a e = inl e
and-new W64 W16 a e = inl e
and-new W64 W32 a e = inl e
and-new W64 W64 a e = inr refl

and-here : (w : Width) (a : Asked) → is_asked (and_asked w a) w ≡ true
and-here W8 a = refl
and-here W16 a = refl
and-here W32 a = refl
and-here W64 a = refl

and-bit : (w : Width) (a : Asked) → (and_asked w a).bit ≡ a.bit
and-bit W8 a = refl
and-bit W16 a = refl
and-bit W32 a = refl
and-bit W64 a = refl

bit-keeps : (t : Width) (a : Asked) → is_asked (with_bit a) t ≡ is_asked a t
bit-keeps W8 a = refl
bit-keeps W16 a = refl
bit-keeps W32 a = refl
bit-keeps W64 a = refl

-- ---- marks of all values

-- the second asks what the first asks, and more of these alone
pub record Grows (N : ℕ → Width → Type 0) (M : ℕ → Type 0) (a b : List Asked) : Type 0 where
  pub long : length b ≡ length a
  pub kept : (y : ℕ) (t : Width) → is_asked (asked_at a y) t ≡ true → is_asked (asked_at b y) t ≡ true
  pub new : (y : ℕ) (t : Width) → is_asked (asked_at b y) t ≡ true → (is_asked (asked_at a y) t ≡ true) ⊎ N y t
  pub kept_bit : (y : ℕ) → (asked_at a y).bit ≡ true → (asked_at b y).bit ≡ true
  pub new_bit : (y : ℕ) → (asked_at b y).bit ≡ true → ((asked_at a y).bit ≡ true) ⊎ M y

pub grows-none : (N : ℕ → Width → Type 0) (M : ℕ → Type 0) (a : List Asked) → Grows N M a a
grows-none N M a = record { long = refl; kept = λ y t e. e; new = λ y t e. inl e; kept_bit = λ y e. e; new_bit = λ y e. inl e }

pub grows-both : (N : ℕ → Width → Type 0) (M : ℕ → Type 0) (a b c : List Asked) → Grows N M a b → Grows N M b c → Grows N M a c
grows-both N M a b c f g = record {
  long = g.long ∙ f.long;
  kept = λ y t e. g.kept y t (f.kept y t e);
  new = λ y t e. elim (g.new y t e) [ inl h ↦ f.new y t h | inr h ↦ inr h ];
  kept_bit = λ y e. g.kept_bit y (f.kept_bit y e);
  new_bit = λ y e. elim (g.new_bit y e) [ inl h ↦ f.new_bit y h | inr h ↦ inr h ];
}

pub grows-more : (N O : ℕ → Width → Type 0) (M L : ℕ → Type 0) (a b : List Asked) → ((y : ℕ) (t : Width) → N y t → O y t) → ((y : ℕ) → M y → L y) → Grows N M a b → Grows O L a b
grows-more N O M L a b f g h = record {
  long = h.long;
  kept = h.kept;
  new = λ y t e. elim (h.new y t e) [ inl k ↦ inl k | inr k ↦ inr (f y t k) ];
  kept_bit = h.kept_bit;
  new_bit = λ y e. elim (h.new_bit y e) [ inl k ↦ inl k | inr k ↦ inr (g y k) ];
}

-- one value's marks are replaced
set-at : (a : List Asked) (z : ℕ) (x : Asked) → z < length a → asked_at (set a z x) z ≡ x
set-at a z x l = get_or-set_same a z x unasked l

set-other : (a : List Asked) (z y : ℕ) (x : Asked) → nat_eq z y ≡ false → asked_at (set a z x) y ≡ asked_at a y
set-other a z y x f = get_or-set_other a z y x unasked (λ e. absurd (eqb-false z y f (sym e)))

set-grows : (N : ℕ → Width → Type 0) (M : ℕ → Type 0) (a : List Asked) (z : ℕ) (x : Asked)
    → ((t : Width) → is_asked (asked_at a z) t ≡ true → is_asked x t ≡ true) → ((t : Width) → is_asked x t ≡ true → (is_asked (asked_at a z) t ≡ true) ⊎ N z t)
    → ((asked_at a z).bit ≡ true → x.bit ≡ true) → (x.bit ≡ true → ((asked_at a z).bit ≡ true) ⊎ M z) → Grows N M a (set a z x)
set-grows N M a z x kept new kept_bit new_bit = elim (cases_lt z (length a)) [
  | inr past ↦ subst (Grows N M a) (sym (set_past a z x past)) (grows-none N M a)
  | inl inside ↦ record {
    long = length-set a z x;
    kept = λ y t e. elim (cases_Bool (nat_eq z y)) [
      | inl c ↦ subst (λ k. is_asked (asked_at (set a z x) k) t ≡ true) (eqb-true z y c) (ap (λ q. is_asked q t) (set-at a z x inside) ∙ kept t (subst (λ k. is_asked (asked_at a k) t ≡ true) (sym (eqb-true z y c)) e))
      | inr c ↦ ap (λ q. is_asked q t) (set-other a z y x c) ∙ e
    ];
    new = λ y t e. elim (cases_Bool (nat_eq z y)) [
      | inl c ↦
          let P : ℕ → Type 0 = λ k. (is_asked (asked_at a k) t ≡ true) ⊎ N k t in
          subst P (eqb-true z y c) (new t (sym (ap (λ q. is_asked q t) (set-at a z x inside)) ∙ subst (λ k. is_asked (asked_at (set a z x) k) t ≡ true) (sym (eqb-true z y c)) e))
      | inr c ↦ inl (sym (ap (λ q. is_asked q t) (set-other a z y x c)) ∙ e)
    ];
    kept_bit = λ y e. elim (cases_Bool (nat_eq z y)) [
      | inl c ↦ subst (λ k. (asked_at (set a z x) k).bit ≡ true) (eqb-true z y c) (ap (λ (q : Asked). q.bit) (set-at a z x inside) ∙ kept_bit (subst (λ k. (asked_at a k).bit ≡ true) (sym (eqb-true z y c)) e))
      | inr c ↦ ap (λ (q : Asked). q.bit) (set-other a z y x c) ∙ e
    ];
    new_bit = λ y e. elim (cases_Bool (nat_eq z y)) [
      | inl c ↦
          let P : ℕ → Type 0 = λ k. ((asked_at a k).bit ≡ true) ⊎ M k in
          subst P (eqb-true z y c) (new_bit (sym (ap (λ (q : Asked). q.bit) (set-at a z x inside)) ∙ subst (λ k. (asked_at (set a z x) k).bit ≡ true) (sym (eqb-true z y c)) e))
      | inr c ↦ inl (sym (ap (λ (q : Asked). q.bit) (set-other a z y x c)) ∙ e)
    ];
  }
]

-- ---- what an operand, a form, asks

-- these marks may be set for the operand
abbrev pub Allows : (ℕ → Width → Type 0) → Width → Wanted → Type 0
Allows N t (Value y) = N y t
Allows N t (Constant w n) = Unit {0}
Allows N t Nothing = Unit {0}

abbrev pub AllowsBit : (ℕ → Type 0) → Wanted → Type 0
AllowsBit M (Value y) = M y
AllowsBit M (Constant w n) = Unit {0}
AllowsBit M Nothing = Unit {0}

abbrev pub IsIn : List Asked → Width → Wanted → Type 0
IsIn a t x = Allows (λ y u. is_asked (asked_at a y) u ≡ true) t x

abbrev pub IsBitIn : List Asked → Wanted → Type 0
IsBitIn a x = AllowsBit (λ y. (asked_at a y).bit ≡ true) x

pub ask-grows : (N : ℕ → Width → Type 0) (M : ℕ → Type 0) (w : Width) (x : Wanted) (a : List Asked) → Allows N w x → Grows N M a (ask w x a)
ask-grows N M w (Value z) a h =
    set-grows N M a z (and_asked w (asked_at a z)) (λ t e. and-keeps w t (asked_at a z) e)
    (λ t e. elim (and-new w t (asked_at a z) e) [ inl k ↦ inl k | inr k ↦ inr (subst (N z) (sym k) h) ])
    (λ e. and-bit w (asked_at a z) ∙ e) (λ e. inl (sym (and-bit w (asked_at a z)) ∙ e))
ask-grows N M w (Constant m n) a h = grows-none N M a
ask-grows N M w Nothing a h = grows-none N M a

bit-grows : (N : ℕ → Width → Type 0) (M : ℕ → Type 0) (x : Wanted) (a : List Asked) → AllowsBit M x → Grows N M a (ask_bit x a)
bit-grows N M (Value z) a h =
    set-grows N M a z (with_bit (asked_at a z)) (λ t e. bit-keeps t (asked_at a z) ∙ e) (λ t e. inl (sym (bit-keeps t (asked_at a z)) ∙ e)) (λ e. refl) (λ e. inr h)
bit-grows N M (Constant m n) a h = grows-none N M a
bit-grows N M Nothing a h = grows-none N M a

first-grows : (N : ℕ → Width → Type 0) (M : ℕ → Type 0) (op : Operator) (w : Width) (x : Wanted) (a : List Asked) → FirstAt (Allows N) (AllowsBit M) op w x → Grows N M a (ask_first op w x a)
first-grows N M (Two op) w x a h = ask-grows N M w x a h
first-grows N M (Shift op) w x a h = ask-grows N M w x a h
first-grows N M (Resize op from) w x a h = ask-grows N M w x a h
first-grows N M (Compare op) w x a h = ask-grows N M w x a h
first-grows N M Select w x a h = bit-grows N M x a h

made-grows : (N : ℕ → Width → Type 0) (M : ℕ → Type 0) (m : Made) (a : List Asked) → MadeAt (Allows N) (AllowsBit M) m → Grows N M a (ask_made m a)
made-grows N M m a h =
    let b = ask m.asked m.operands.third a in
    let c = ask m.asked m.operands.second b in
    grows-both N M a b (ask_made m a) (ask-grows N M m.asked m.operands.third a h.2)
    (grows-both N M b c (ask_made m a) (ask-grows N M m.asked m.operands.second b h.1) (first-grows N M m.op m.asked m.operands.first c h.0))

pub form-grows : (N : ℕ → Width → Type 0) (M : ℕ → Type 0) (w : Width) (f : Form) (a : List Asked) → FormAt (Allows N) (AllowsBit M) w f → Grows N M a (ask_form w f a)
form-grows N M w Own a h = grows-none N M a
form-grows N M w Zero a h = grows-none N M a
form-grows N M w (Same x) a h = ask-grows N M w x a h
form-grows N M w (Whole m) a h = made-grows N M m a h
form-grows N M w (Cut m) a h = made-grows N M m a h

-- what is asked is then asked for
abbrev pub IsBelow : ℕ → Wanted → Type 0
IsBelow n x = IsEarlier n x

pub ask-in : (w : Width) (x : Wanted) (a : List Asked) → IsBelow (length a) x → IsIn (ask w x a) w x
ask-in w (Value z) a l = ap (λ q. is_asked q w) (set-at a z (and_asked w (asked_at a z)) l) ∙ and-here w (asked_at a z)
ask-in w (Constant m n) a l = tt
ask-in w Nothing a l = tt

bit-in : (x : Wanted) (a : List Asked) → IsBelow (length a) x → IsBitIn (ask_bit x a) x
bit-in (Value z) a l = ap (λ (q : Asked). q.bit) (set-at a z (with_bit (asked_at a z)) l)
bit-in (Constant m n) a l = tt
bit-in Nothing a l = tt

-- anything may be asked
abbrev Any : ℕ → Width → Type 0
Any y t = Unit {0}

abbrev AnyBit : ℕ → Type 0
AnyBit y = Unit {0}

any : (t : Width) (x : Wanted) → Allows Any t x
any t (Value y) = tt
any t (Constant w n) = tt
any t Nothing = tt

any-bit : (x : Wanted) → AllowsBit AnyBit x
any-bit (Value y) = tt
any-bit (Constant w n) = tt
any-bit Nothing = tt

any-first : (op : Operator) (t : Width) (x : Wanted) → FirstAt (Allows Any) (AllowsBit AnyBit) op t x
any-first (Two op) t x = any t x
any-first (Shift op) t x = any t x
any-first (Resize op from) t x = any t x
any-first (Compare op) t x = any t x
any-first Select t x = any-bit x

pub in-more : (N : ℕ → Width → Type 0) (M : ℕ → Type 0) (a b : List Asked) → Grows N M a b → (t : Width) (x : Wanted) → IsIn a t x → IsIn b t x
in-more N M a b g t (Value y) h = g.kept y t h
in-more N M a b g t (Constant w n) h = tt
in-more N M a b g t Nothing h = tt

bit-in_more : (N : ℕ → Width → Type 0) (M : ℕ → Type 0) (a b : List Asked) → Grows N M a b → (x : Wanted) → IsBitIn a x → IsBitIn b x
bit-in_more N M a b g (Value y) h = g.kept_bit y h
bit-in_more N M a b g (Constant w n) h = tt
bit-in_more N M a b g Nothing h = tt

first-in : (op : Operator) (w : Width) (x : Wanted) (a : List Asked) → IsBelow (length a) x → FirstAt (IsIn (ask_first op w x a)) (IsBitIn (ask_first op w x a)) op w x
first-in (Two op) w x a l = ask-in w x a l
first-in (Shift op) w x a l = ask-in w x a l
first-in (Resize op from) w x a l = ask-in w x a l
first-in (Compare op) w x a l = ask-in w x a l
first-in Select w x a l = bit-in x a l

made-in : (m : Made) (a : List Asked) → IsBelow (length a) m.operands.first → IsBelow (length a) m.operands.second → IsBelow (length a) m.operands.third → MadeAt (IsIn (ask_made m a)) (IsBitIn (ask_made m a)) m
made-in m a x y z =
    let b = ask m.asked m.operands.third a in
    let c = ask m.asked m.operands.second b in
    let d = ask_made m a in
    let ab = ask-grows Any AnyBit m.asked m.operands.third a (any m.asked m.operands.third) in
    let bc = ask-grows Any AnyBit m.asked m.operands.second b (any m.asked m.operands.second) in
    let cd = first-grows Any AnyBit m.op m.asked m.operands.first c (any-first m.op m.asked m.operands.first) in (
      first-in m.op m.asked m.operands.first c (subst (λ n. IsBelow n m.operands.first) (sym (bc.long ∙ ab.long)) x),
      in-more Any AnyBit c d cd m.asked m.operands.second (ask-in m.asked m.operands.second b (subst (λ n. IsBelow n m.operands.second) (sym ab.long) y)),
      in-more Any AnyBit b d (grows-both Any AnyBit b c d bc cd) m.asked m.operands.third (ask-in m.asked m.operands.third a z),
    )

-- each operand is below
abbrev pub FormBelow : ℕ → Width → Form → Type 0
FormBelow n w f = FormAt (λ t x. IsBelow n x) (IsBelow n) w f

each-below : (n : ℕ) (op : Operator) (t : Width) (x : Wanted) → FirstAt (λ u y. IsBelow n y) (IsBelow n) op t x → IsBelow n x
each-below n (Two op) t x h = h
each-below n (Shift op) t x h = h
each-below n (Resize op from) t x h = h
each-below n (Compare op) t x h = h
each-below n Select t x h = h

pub form-in : (w : Width) (f : Form) (a : List Asked) → FormBelow (length a) w f → FormAt (IsIn (ask_form w f a)) (IsBitIn (ask_form w f a)) w f
form-in w Own a h = tt
form-in w Zero a h = tt
form-in w (Same x) a h = ask-in w x a h
form-in w (Whole m) a h = made-in m a (each-below (length a) m.op m.asked m.operands.first h.0) h.1 h.2
form-in w (Cut m) a h = made-in m a (each-below (length a) m.op m.asked m.operands.first h.0) h.1 h.2

pub form-in_more : (N : ℕ → Width → Type 0) (M : ℕ → Type 0) (a b : List Asked) → Grows N M a b → (w : Width) (f : Form) → FormAt (IsIn a) (IsBitIn a) w f → FormAt (IsIn b) (IsBitIn b) w f
form-in_more N M a b g w f h =
    form-both (IsIn a) (IsIn a) (IsIn b) (IsBitIn a) (IsBitIn a) (IsBitIn b) (λ t x p q. in-more N M a b g t x p) (λ x p q. bit-in_more N M a b g x p) w f h h
