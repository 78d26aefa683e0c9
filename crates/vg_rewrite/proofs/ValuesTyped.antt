-- All forms of one value take values of the widths that they want.
use Rattle.std.proofs.Common.{◌≡◌, ℕ, ◌<◌, ◌≤◌, ◌⊎◌, true, false, List, [], ◌∷◌, ◌++◌, length, Option, Some, sym, ap, ◌∙◌, subst, arith, append_assoc, append-nil, inl, inr}
use Rattle.std.specs.Prelude.{nat_lt, pos, slice_index_or}
use Rattle.std.proofs.lemmas.Bool.{cases_Bool, cond-false, cond-true, ltb-false, true≢false}
use Rattle.std.proofs.lemmas.List.{get_or_append_left, get_or_push, length-set}
use Rattle.vg_base.specs.declared.width.Width.{Width}
use Rattle.vg_base.specs.declared.width.Width.TheVariants.{W8, W16, W32, W64}
use Rattle.vg_base.specs.Width.{bits_of}
use Rattle.vg_base.proofs.SameWidth.{width-same}
use Rattle.vg_rewrite.specs.declared.asked.Asked.{Asked}
use Rattle.vg_rewrite.specs.declared.form.Form.{Form}
use Rattle.vg_rewrite.specs.declared.form.Form.TheVariants.{Own, Zero, Same, Whole, Cut}
use Rattle.vg_rewrite.specs.declared.standing.Standing.{Standing}
use Rattle.vg_rewrite.specs.Choice.{natural_width}
use Rattle.vg_rewrite.specs.Form.{alone, made, narrow_form, own_form, value_form, wide_form}
use Rattle.vg_rewrite.specs.Narrowed.{asked_at, is_asked, made_at, make_at, make_form, make_value, Narrowing, nowhere, record_form, with_standing}
use Rattle.vg_rewrite.proofs.Closing.{Asks, if-form}
use Rattle.vg_rewrite.proofs.Demands.{Allows, AllowsBit, FormAt}
use Rattle.vg_rewrite.proofs.FormShapes.{FormIs}
use Rattle.vg_rewrite.proofs.FormsTyped.{form-in, OwnIs, recorded, SoFar, State}
use Rattle.vg_rewrite.proofs.Naturals.{natural-most}
use Rattle.vg_rewrite.proofs.RepeatedTypes.{in-more, Stores}
use Rattle.vg_rewrite.proofs.ValuesMade.{Below, NotOwn}
use Rattle.vg_rewrite.proofs.Widths.{up-to_8, up-to_16, up-to_32, up-to_64}
use Rattle.vg_scalar.specs.declared.resize.Resize.TheVariants.{Sext, Zext, Trunc}
use Rattle.vg_shapes.specs.declared.ssa_unit.Operator.TheVariants.{Resize}
use Rattle.vg_shapes.specs.declared.ssa_unit.SsaUnit.{SsaUnit}
use Rattle.vg_shapes.specs.declared.wanted.Wanted.{Wanted}
use Rattle.vg_shapes.specs.declared.wanted.Wanted.TheVariants.{Value}
use Rattle.vg_spans.specs.declared.span.Span.{Span}
use Rattle.vg_spans.specs.Span.{is_unsigned, only}
use Rattle.vg_ssa.proofs.Typing.{BitIn, NumberIn}

pub state-fewer : (count : ℕ) (bits : List (Option ℕ)) (D E : ℕ → Width → Type 0) (M L : ℕ → Type 0) (g : Narrowing) → State count bits D M g → ((y : ℕ) (t : Width) → E y t → D y t) → ((y : ℕ) → L y → M y) → State count bits E L g
state-fewer count bits D E M L g state f h = record { typed = state.typed; made = λ y t e. state.made y t (f y t e); flags = λ y e. state.flags y (h y e) }

pub state-added : (count : ℕ) (bits : List (Option ℕ)) (D E : ℕ → Width → Type 0) (M : ℕ → Type 0) (g : Narrowing) (s : Standing) → State count bits D M g
    → ((y : ℕ) (t : Width) → D y t → y < length g.made) → ((y : ℕ) → M y → y < length g.made)
    → ((y : ℕ) (t : Width) → E y t → D y t ⊎ ((y ≡ length g.made) × NumberIn (SoFar bits g) t (made_at s t))) → State count bits E M (with_standing s g)
state-added count bits D E M g s state low low_bit split = record {
  typed = record { units = state.typed.units; long = state.typed.long };
  made = λ y t e. by y t (split y t e);
  flags = λ y e. subst (λ (q : Standing). BitIn (SoFar bits g) q.bit) (sym (get_or_append_left g.made (s ∷ []) nowhere y (low_bit y e))) (state.flags y e);
}
  where
    by : (y : ℕ) (t : Width) → D y t ⊎ ((y ≡ length g.made) × NumberIn (SoFar bits g) t (made_at s t)) → NumberIn (SoFar bits g) t (made_at (slice_index_or (g.made ++ s ∷ []) y nowhere) t)
    by y t (inl d) = subst (λ q. NumberIn (SoFar bits g) t (made_at q t)) (sym (get_or_append_left g.made (s ∷ []) nowhere y (low y t d))) (state.made y t d)
    by y t (inr d) = subst (λ q. NumberIn (SoFar bits g) t (made_at q t)) (sym (get_or_push g.made s nowhere y (sym d.0))) d.1

-- ---- the forms of a value

own-more : (so more : List (Option ℕ)) (w : Width) (x : Wanted) (f : Form) → OwnIs (NumberIn so w x) f → OwnIs (NumberIn (so ++ more) w x) f
own-more so more w x Own h = in-more so more (Some (Some w)) x h
own-more so more w x Zero h = tt
own-more so more w x (Same y) h = tt
own-more so more w x (Whole m) h = tt
own-more so more w x (Cut m) h = tt

-- the state behind more units, with no store among them
pub record Behind (count : ℕ) (bits : List (Option ℕ)) (D : ℕ → Width → Type 0) (M : ℕ → Type 0) (long : ℕ) (start : List (Option ℕ)) (stores : ℕ) (g : Narrowing) : Type 0 where
  pub state : State count bits D M g
  pub more : List (Option ℕ)
  pub so_far : SoFar bits g ≡ start ++ more
  pub stores_are : Stores g.units ≡ stores
  pub long_is : length g.made ≡ long

module _ (count : ℕ) (bits : List (Option ℕ)) (asked : List Asked) (spans : List Span) (v : ℕ) (unit : Option SsaUnit) (value : Wanted) (own : Width) (D : ℕ → Width → Type 0) (M : ℕ → Type 0) (long : ℕ) (start : List (Option ℕ)) (stores : ℕ) (inside : v < long)
    (parts : (w : Width) → Asks asked v w → FormAt (Allows (Below asked v D (bits_of w))) (AllowsBit M) w (value_form spans v unit own w)) (shape : (w : Width) → FormIs w (value_form spans v unit own w))
    (owns : (w : Width) → OwnIs (NumberIn start w value) (value_form spans v unit own w)) where
  abbrev Far : ℕ → Narrowing → Type 0
  Far b g = Behind count bits (Below asked v D b) M long start stores g

  at-step : (w : Width) (c : ℕ) (g : Narrowing) → ((t : Width) → bits_of t < c → (bits_of t < bits_of w) ⊎ (t ≡ w)) → Far (bits_of w) g → Far c (make_at spans asked v unit value own w g)
  at-step w c g split h = elim (cases_Bool (is_asked (asked_at asked v) w)) [
    | inl e ↦ subst (Far c) (sym (cond-true (is_asked (asked_at asked v) w) (record_form v w (make_form g value w f)) g e)) (made_here e)
    | inr e ↦ subst (Far c) (sym (cond-false (is_asked (asked_at asked v) w) (record_form v w (make_form g value w f)) g e)) (record {
      state = state-fewer count bits (Below asked v D (bits_of w)) (Below asked v D c) M M g h.state (λ y t d. fewer y t d e) (λ y d. d);
      more = h.more;
      so_far = h.so_far;
      stores_are = h.stores_are;
      long_is = h.long_is;
    })
  ]
    where
      f : Form
      f = value_form spans v unit own w

      fewer : (y : ℕ) (t : Width) → Below asked v D c y t → is_asked (asked_at asked v) w ≡ false → Below asked v D (bits_of w) y t
      fewer y t (inl d) e = inl d
      fewer y t (inr d) e = elim (split t d.2) [
        | inl less ↦ inr (d.0, d.1, less)
        | inr same ↦ absurd (true≢false (sym (subst (Asks asked v) same d.1) ∙ e))
      ]

      either : (y : ℕ) (t : Width) → Below asked v D c y t → Below asked v D (bits_of w) y t ⊎ ((y ≡ v) × (t ≡ w))
      either y t (inl d) = inl (inl d)
      either y t (inr d) = elim (split t d.2) [ inl less ↦ inl (inr (d.0, d.1, less)) | inr same ↦ inr (d.0, same) ]

      made_here : is_asked (asked_at asked v) w ≡ true → Far c (record_form v w (make_form g value w (value_form spans v unit own w)))
      made_here e =
          let owned = subst (λ l. OwnIs (NumberIn l w value) f) (sym h.so_far) (own-more start h.more w value f (owns w)) in
          let n = form-in count bits (Below asked v D (bits_of w)) M g h.state value w f (parts w e) (shape w) owned in
          record {
            state = recorded count bits (Below asked v D (bits_of w)) (Below asked v D c) M M g h.state v w (make_form g value w f) n (let l = h.long_is in omega arith) either;
            more = h.more ++ n.more;
            so_far = n.so_far ∙ ap (λ l. l ++ n.more) h.so_far ∙ append_assoc start h.more n.more;
            stores_are = n.stores ∙ h.stores_are;
            long_is = length-set (make_form g value w f).after.made v _ ∙ ap length n.made ∙ h.long_is;
          }

  pub value-typed : (g : Narrowing) → State count bits D M g → length g.made ≡ long → SoFar bits g ≡ start → Stores g.units ≡ stores → Behind count bits (Below asked v D 128) M long start stores (make_value spans asked v unit value own g)
  value-typed g state l so s =
      at-step W64 128 g32 (λ t h. up-to_64 t) (at-step W32 64 g16 up-to_32 (at-step W16 32 g8 up-to_16 (at-step W8 16 g up-to_8 first)))
    where
      g8 : Narrowing
      g8 = make_at spans asked v unit value own W8 g

      g16 : Narrowing
      g16 = make_at spans asked v unit value own W16 (make_at spans asked v unit value own W8 g)

      g32 : Narrowing
      g32 = make_at spans asked v unit value own W32 (make_at spans asked v unit value own W16 (make_at spans asked v unit value own W8 g))

      none : (t : Width) → bits_of t < 8 → ⊥
      none W8 h = absurd (omega arith)
      none W16 h = absurd (omega arith)
      none W32 h = absurd (omega arith)
      none W64 h = absurd (omega arith)

      first : Behind count bits (Below asked v D 8) M long start stores g
      first = record {
        state = state-fewer count bits D (Below asked v D 8) M M g state (λ y t d. elim d [ inl k ↦ k | inr k ↦ absurd (none t k.2) ]) (λ y d. d);
        more = [];
        so_far = so ∙ sym (append-nil start);
        stores_are = s;
        long_is = l;
      }

-- ---- a value that is a form of itself has the width

own-of : (P : Width → Type 0) (v : ℕ) (own w : Width) → bits_of w ≤ bits_of own → P own → OwnIs (P w) (own_form v own w)
own-of P v own w l p = elim (cases_Bool (nat_lt (bits_of w) (bits_of own))) [
  | inl c ↦ subst (OwnIs (P w)) (sym (cond-true (nat_lt (bits_of w) (bits_of own)) (Whole (made (Resize Trunc own) w 0 (alone (Value v)) own)) Own c)) tt
  | inr c ↦
      let more = ltb-false (bits_of w) (bits_of own) c in
      subst (OwnIs (P w)) (sym (cond-false (nat_lt (bits_of w) (bits_of own)) (Whole (made (Resize Trunc own) w 0 (alone (Value v)) own)) Own c)) (subst P (width-same own w (omega arith)) p)
]

pub itself-owns : (P : Width → Type 0) (spans : List Span) (v : ℕ) (u : Option SsaUnit) (own w : Width) → narrow_form spans v u own w ≡ own_form v own w → P own → OwnIs (P w) (value_form spans v u own w)
itself-owns P spans v u own w e p =
    let s = slice_index_or spans v (only (pos 0)) in
    let t = natural_width own s in
    elim (cases_Bool (nat_lt (bits_of t) (bits_of w))) [
      | inl c ↦
          subst (OwnIs (P w)) (sym (cond-true (nat_lt (bits_of t) (bits_of w)) (wide_form s v t w) (narrow_form spans v u own w) c))
          (if-form (OwnIs (P w)) (is_unsigned (bits_of t) s) (Whole (made (Resize Zext t) w 0 (alone (Value v)) t)) (Whole (made (Resize Sext t) w 0 (alone (Value v)) t)) tt tt)
      | inr c ↦
          let n = ltb-false (bits_of t) (bits_of w) c in
          let most = natural-most own s in
          subst (OwnIs (P w)) (sym (cond-false (nat_lt (bits_of t) (bits_of w)) (wide_form s v t w) (narrow_form spans v u own w) c)) (subst (OwnIs (P w)) (sym e) (own-of P v own w (omega arith) p))
    ]

pub never-is : (P : Type 0) (f : Form) → NotOwn f → OwnIs P f
never-is P Own h = absurd h
never-is P Zero h = tt
never-is P (Same y) h = tt
never-is P (Whole m) h = tt
never-is P (Cut m) h = tt
