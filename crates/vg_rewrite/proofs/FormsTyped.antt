-- Units that make forms take values of the widths that they want.
use Rattle.std.proofs.Common.{◌≡◌, ℕ, ◌+◌, ◌<◌, ◌⊎◌, true, false, List, [], ◌∷◌, ◌++◌, length, Option, Some, None, refl, sym, ap, ◌∙◌, subst, arith, append_assoc, append-nil, inl, inr}
use Rattle.std.specs.Prelude.{nat_eq, set, slice_index_or}
use Rattle.std.proofs.lemmas.Bool.{cases_Bool, eqb-false, eqb-true}
use Rattle.std.proofs.lemmas.List.{get_or_push}
use Rattle.std.proofs.lemmas.Nat.{pow_pos}
use Rattle.vg_base.specs.Bits.{signed_at}
use Rattle.vg_base.specs.declared.width.Width.{Width}
use Rattle.vg_base.specs.Width.{bits_of}
use Rattle.vg_base.proofs.Signed.{residue_below}
use Rattle.vg_rewrite.specs.declared.form.Form.{Form}
use Rattle.vg_rewrite.specs.declared.form.Form.TheVariants.{Own, Zero, Same, Whole, Cut}
use Rattle.vg_rewrite.specs.declared.form.Made.{Made}
use Rattle.vg_rewrite.specs.declared.standing.Standing.{Standing}
use Rattle.vg_rewrite.specs.Narrowed.{and_bit_made, and_made, cut_unit, formed, Formed, have, have_bit, have_first, made_at, made_unit, make_form, Narrowing, next_value, nowhere, put, record_bit, record_form}
use Rattle.vg_rewrite.proofs.Demands.{Allows, AllowsBit, FirstAt, FormAt, MadeAt}
use Rattle.vg_rewrite.proofs.FormShapes.{FormIs, MadeIs, OperandIs, Rule}
use Rattle.vg_rewrite.proofs.FormsMade.{at-other, at-same, bit-made, made-bit, made-cases}
use Rattle.vg_rewrite.proofs.RepeatedTypes.{first_kind, InAs, in-more, no-store, second_kind, Stores, third_kind}
use Rattle.vg_shapes.specs.declared.ssa_unit.Operator.{Operator}
use Rattle.vg_shapes.specs.declared.ssa_unit.Operator.TheVariants.{Two, Shift, Resize, Compare, Select}
use Rattle.vg_shapes.specs.declared.ssa_unit.SsaUnit.{SsaUnit}
use Rattle.vg_shapes.specs.declared.wanted.Wanted.{Wanted}
use Rattle.vg_shapes.specs.declared.wanted.Wanted.TheVariants.{Value, Constant, Nothing}
use Rattle.vg_shapes.specs.Sound.{result_bits, unit_bits}
use Rattle.vg_ssa.proofs.Typing.{behind, behind-both, behind-long, BitIn, NumberIn, OperationIn, UnitIn, units-both, UnitsIn}

abbrev pub SoFar : List (Option ℕ) → Narrowing → List (Option ℕ)
SoFar bits g = behind bits g.units

pub record Typed (count : ℕ) (bits : List (Option ℕ)) (g : Narrowing) : Type 0 where
  pub units : UnitsIn count bits g.units
  pub long : length bits ≡ g.first

pub so-far-put : (bits : List (Option ℕ)) (g : Narrowing) (u : SsaUnit) → SoFar bits (put u g) ≡ SoFar bits g ++ unit_bits u ∷ []
so-far-put bits g u = behind-both bits g.units (u ∷ [])

pub put-typed : (count : ℕ) (bits : List (Option ℕ)) (g : Narrowing) (u : SsaUnit) → Typed count bits g → UnitIn count (SoFar bits g) u → Typed count bits (put u g)
put-typed count bits g u h one = record { units = units-both count bits g.units (u ∷ []) h.units (one, tt); long = h.long }

pub next-is : (count : ℕ) (bits : List (Option ℕ)) (g : Narrowing) (u : SsaUnit) → Typed count bits g → slice_index_or (SoFar bits (put u g)) (g.first + length g.units) None ≡ unit_bits u
next-is count bits g u h =
    ap (λ l. slice_index_or l (g.first + length g.units) None) (so-far-put bits g u)
    ∙ get_or_push (SoFar bits g) (unit_bits u) None (g.first + length g.units) (behind-long bits g.units ∙ ap (λ k. k + length g.units) h.long)

-- ---- what stands for forms

abbrev pub AreMade : (ℕ → Width → Type 0) → List Standing → List (Option ℕ) → Type 0
AreMade D made so = (y : ℕ) (t : Width) → D y t → NumberIn so t (made_at (slice_index_or made y nowhere) t)

abbrev pub AreBits : (ℕ → Type 0) → List Standing → List (Option ℕ) → Type 0
AreBits M made so = (y : ℕ) → M y → BitIn so (slice_index_or made y nowhere).bit

pub record State (count : ℕ) (bits : List (Option ℕ)) (D : ℕ → Width → Type 0) (M : ℕ → Type 0) (g : Narrowing) : Type 0 where
  pub typed : Typed count bits g
  pub made : AreMade D g.made (SoFar bits g)
  pub flags : AreBits M g.made (SoFar bits g)

pub record FormedAs (count : ℕ) (bits : List (Option ℕ)) (g : Narrowing) (f : Formed) (k : Option (Option Width)) : Type 0 where
  pub typed : Typed count bits f.after
  pub more : List (Option ℕ)
  pub so_far : SoFar bits f.after ≡ SoFar bits g ++ more
  pub made : f.after.made ≡ g.made
  pub stores : Stores f.after.units ≡ Stores g.units
  pub value : InAs (SoFar bits f.after) k f.value

-- the value itself is a form
abbrev pub OwnIs : Type 0 → Form → Type 0
OwnIs P Own = P
OwnIs P Zero = Unit {0}
OwnIs P (Same x) = Unit {0}
OwnIs P (Whole m) = Unit {0}
OwnIs P (Cut m) = Unit {0}

module _ (count : ℕ) (bits : List (Option ℕ)) (D : ℕ → Width → Type 0) (M : ℕ → Type 0) (g : Narrowing) (state : State count bits D M g) where
  so : List (Option ℕ)
  so = SoFar bits g

  pub number-in : (t : Width) (x : Wanted) → OperandIs (Some (Some t)) x → Allows D t x → NumberIn (SoFar bits g) t (have g t x)
  number-in t (Value y) o h = state.made y t h
  number-in t (Constant m n) o h = (refl, residue_below (bits_of t) (signed_at m n))
  number-in t Nothing o h = absurd o

  bit-in : (x : Wanted) → OperandIs (Some None) x → AllowsBit M x → BitIn (SoFar bits g) (have_bit g x)
  bit-in (Value y) o h = state.flags y h
  bit-in (Constant m n) o h = absurd o
  bit-in Nothing o h = absurd o

  asked-in : (t w : Width) (x : Wanted) → t ≡ w → OperandIs (Some (Some w)) x → Allows D t x → NumberIn (SoFar bits g) w (have g t x)
  asked-in t w x e o h = subst (λ u. NumberIn (SoFar bits g) u (have g t x)) e (number-in t x (subst (λ u. OperandIs (Some (Some u)) x) (sym e) o) h)

  nothing-in : (t : Width) (x : Wanted) → x ≡ Nothing → have g t x ≡ Nothing
  nothing-in t x e = ap (have g t) e

  operation-in : (op : Operator) (w : Width) (k : ℕ) (t : Width) (x y z : Wanted) → Rule op w k t → OperandIs (first_kind op w) x → OperandIs (second_kind op w) y → OperandIs (third_kind op w) z → FirstAt (Allows D) (AllowsBit M) op t x → Allows D t y → Allows D t z
      → OperationIn (SoFar bits g) op w k (record { first = have_first g op t x; second = have g t y; third = have g t z })
  operation-in (Two op) w k t x y z r a b c h i j = (r.0, asked-in t w x r.1 a h, asked-in t w y r.1 b i, nothing-in t z c)
  operation-in (Shift op) w k t x y z r a b c h i j = (r.0, asked-in t w x r.1 a h, nothing-in t y b, nothing-in t z c)
  operation-in (Resize op from) w k t x y z r a b c h i j = (r.0, r.1, asked-in t from x r.2 a h, nothing-in t y b, nothing-in t z c)
  operation-in (Compare op) w k t x y z r a b c h i j = (r.0, asked-in t w x r.1 a h, asked-in t w y r.1 b i, nothing-in t z c)
  operation-in Select w k t x y z r a b c h i j = (r.0, bit-in x a h, asked-in t w y r.1 b i, asked-in t w z r.1 c j)

  made-in : (m : Made) → MadeIs m → MadeAt (Allows D) (AllowsBit M) m → UnitIn count (SoFar bits g) (made_unit g m)
  made-in m is h = operation-in m.op m.width m.amount m.asked m.operands.first m.operands.second m.operands.third is.rule is.first is.second is.third h.0 h.1 h.2

  standing : (x : Wanted) (k : Option (Option Width)) → InAs (SoFar bits g) k x → FormedAs count bits g (record { after = g; value = x }) k
  standing x k i = record { typed = state.typed; more = []; so_far = sym (append-nil (SoFar bits g)); made = refl; stores = refl; value = i }

  -- a unit of forms, of so many bits
  formed-in : (m : Made) (k : Option (Option Width)) → MadeIs m → MadeAt (Allows D) (AllowsBit M) m → InAs (SoFar bits (put (made_unit g m) g)) k (next_value g) → FormedAs count bits g (formed g (made_unit g m)) k
  formed-in m k is h i = record {
    typed = put-typed count bits g (made_unit g m) state.typed (made-in m is h);
    more = unit_bits (made_unit g m) ∷ [];
    so_far = so-far-put bits g (made_unit g m);
    made = refl;
    stores = no-store g.units (made_unit g m) refl;
    value = i;
  }

  number-made : (m : Made) (w : Width) → result_bits m.op m.width ≡ bits_of w → MadeIs m → MadeAt (Allows D) (AllowsBit M) m → FormedAs count bits g (formed g (made_unit g m)) (Some (Some w))
  number-made m w e is h = formed-in m (Some (Some w)) is h (next-is count bits g (made_unit g m) state.typed ∙ ap Some e)

  pub bit-made_in : (m : Made) → result_bits m.op m.width ≡ 1 → MadeIs m → MadeAt (Allows D) (AllowsBit M) m → FormedAs count bits g (formed g (made_unit g m)) (Some None)
  bit-made_in m e is h = formed-in m (Some None) is h (next-is count bits g (made_unit g m) state.typed ∙ ap Some e)

  cut-in : (m : Made) (w : Width) → bits_of w < bits_of m.width → (h : FormedAs count bits g (formed g (made_unit g m)) (Some (Some m.width)))
      → FormedAs count bits g (formed (formed g (made_unit g m)).after (cut_unit (formed g (made_unit g m)).value m.width w)) (Some (Some w))
  cut-in m w less h =
      let part = formed g (made_unit g m) in
      let u = cut_unit part.value m.width w in
      record {
        typed = put-typed count bits part.after u h.typed (refl, less, h.value, refl, refl);
        more = h.more ++ unit_bits u ∷ [];
        so_far = so-far-put bits part.after u ∙ ap (λ l. l ++ unit_bits u ∷ []) h.so_far ∙ append_assoc (SoFar bits g) h.more (unit_bits u ∷ []);
        made = h.made;
        stores = no-store part.after.units u refl ∙ h.stores;
        value = next-is count bits part.after u h.typed;
      }

  pub form-in : (own : Wanted) (w : Width) (f : Form) → FormAt (Allows D) (AllowsBit M) w f → FormIs w f → OwnIs (NumberIn (SoFar bits g) w own) f → FormedAs count bits g (make_form g own w f) (Some (Some w))
  form-in own w Own h is o = standing own (Some (Some w)) o
  form-in own w Zero h is o = standing (Constant (bits_of w) 0) (Some (Some w)) (refl, pow_pos (bits_of w))
  form-in own w (Same x) h is o = standing (have g w x) (Some (Some w)) (number-in w x is h)
  form-in own w (Whole m) h is o = number-made m w is.0 is.1 h
  form-in own w (Cut m) h is o = cut-in m w is.0 (number-made m m.width is.1 is.2 h)

-- ---- records of forms

module _ (count : ℕ) (bits : List (Option ℕ)) (D E : ℕ → Width → Type 0) (M L : ℕ → Type 0) (g : Narrowing) (state : State count bits D M g) where
  made-on : (f : Formed) (k : Option (Option Width)) → (h : FormedAs count bits g f k) → AreMade D f.after.made (SoFar bits f.after)
  made-on f k h y t d =
      let P : List Standing → Type 0 = λ l. NumberIn (SoFar bits f.after) t (made_at (slice_index_or l y nowhere) t) in
      subst P (sym h.made) (subst (λ l. NumberIn l t (made_at (slice_index_or g.made y nowhere) t)) (sym h.so_far) (in-more (SoFar bits g) h.more (Some (Some t)) (made_at (slice_index_or g.made y nowhere) t) (state.made y t d)))

  bits-on : (f : Formed) (k : Option (Option Width)) → (h : FormedAs count bits g f k) → AreBits M f.after.made (SoFar bits f.after)
  bits-on f k h y d =
      let P : List Standing → Type 0 = λ l. BitIn (SoFar bits f.after) (slice_index_or l y nowhere).bit in
      subst P (sym h.made) (subst (λ l. BitIn l (slice_index_or g.made y nowhere).bit) (sym h.so_far) (in-more (SoFar bits g) h.more (Some None) (slice_index_or g.made y nowhere).bit (state.flags y d)))

  pub recorded : (v : ℕ) (w : Width) (f : Formed) → (h : FormedAs count bits g f (Some (Some w))) → v < length g.made → ((y : ℕ) (t : Width) → E y t → D y t ⊎ ((y ≡ v) × (t ≡ w))) → State count bits E M (record_form v w f)
  recorded v w f h l split = record {
    typed = record { units = h.typed.units; long = h.typed.long };
    made = λ y t d. by y t (split y t d) (cases_Bool (nat_eq v y)) (made-cases w t f.value s);
    flags = λ y d. elim (cases_Bool (nat_eq v y)) [
      | inl c ↦
          let same : v ≡ y = eqb-true v y c in
          let P : ℕ → Type 0 = λ k. M k → BitIn (SoFar bits f.after) (slice_index_or (set f.after.made v new) k nowhere).bit in
          let at : P v = λ m. subst (λ x. BitIn (SoFar bits f.after) x) (sym (ap (λ (q : Standing). q.bit) (at-same f.after.made v new inside) ∙ made-bit w f.value s)) (bits-on f (Some (Some w)) h v m) in
          subst P same at d
      | inr c ↦ subst (λ (q : Standing). BitIn (SoFar bits f.after) q.bit) (sym (at-other f.after.made v y new c)) (bits-on f (Some (Some w)) h y d)
    ];
  }
    where
      s : Standing
      s = slice_index_or f.after.made v nowhere

      new : Standing
      new = and_made w f.value (slice_index_or f.after.made v nowhere)

      inside : v < length f.after.made
      inside = (let e = ap length h.made in omega arith)

      by : (y : ℕ) (t : Width) → D y t ⊎ ((y ≡ v) × (t ≡ w)) → (nat_eq v y ≡ true) ⊎ (nat_eq v y ≡ false)
          → ((t ≡ w) × (made_at (and_made w f.value (slice_index_or f.after.made v nowhere)) t ≡ f.value)) ⊎ ((t ≡ w → ⊥) × (made_at (and_made w f.value (slice_index_or f.after.made v nowhere)) t ≡ made_at (slice_index_or f.after.made v nowhere) t))
          → NumberIn (SoFar bits f.after) t (made_at (slice_index_or (set f.after.made v (and_made w f.value (slice_index_or f.after.made v nowhere))) y nowhere) t)
      by y t (inl d) (inr c) m = subst (λ q. NumberIn (SoFar bits f.after) t (made_at q t)) (sym (at-other f.after.made v y new c)) (made-on f (Some (Some w)) h y t d)
      by y t (inr d) (inr c) m = absurd (eqb-false v y c (sym d.0))
      by y t d (inl c) (inl m) =
          let same : v ≡ y = eqb-true v y c in
          let P : ℕ → Type 0 = λ k. NumberIn (SoFar bits f.after) t (made_at (slice_index_or (set f.after.made v new) k nowhere) t) in
          let now : NumberIn (SoFar bits f.after) t f.value = subst (λ u. NumberIn (SoFar bits f.after) u f.value) (sym m.0) h.value in
          subst P same (subst (λ x. NumberIn (SoFar bits f.after) t x) (sym (ap (λ q. made_at q t) (at-same f.after.made v new inside) ∙ m.1)) now)
      by y t (inr d) (inl c) (inr m) = absurd (m.0 d.1)
      by y t (inl d) (inl c) (inr m) =
          let same : v ≡ y = eqb-true v y c in
          let P : ℕ → Type 0 = λ k. D k t → NumberIn (SoFar bits f.after) t (made_at (slice_index_or (set f.after.made v new) k nowhere) t) in
          let at : P v = λ q. subst (λ x. NumberIn (SoFar bits f.after) t x) (sym (ap (λ p. made_at p t) (at-same f.after.made v new inside) ∙ m.1)) (made-on f (Some (Some w)) h v t q) in
          subst P same at d

  pub recorded-bit : (v : ℕ) (f : Formed) → (h : FormedAs count bits g f (Some None)) → v < length g.made → ((y : ℕ) → L y → M y ⊎ (y ≡ v)) → State count bits D L (record_bit v f)
  recorded-bit v f h l split = record {
    typed = record { units = h.typed.units; long = h.typed.long };
    flags = λ y d. by y (split y d) (cases_Bool (nat_eq v y));
    made = λ y t d. elim (cases_Bool (nat_eq v y)) [
      | inl c ↦
          let same : v ≡ y = eqb-true v y c in
          let P : ℕ → Type 0 = λ k. D k t → NumberIn (SoFar bits f.after) t (made_at (slice_index_or (set f.after.made v new) k nowhere) t) in
          let at : P v = λ q. subst (λ x. NumberIn (SoFar bits f.after) t x) (sym (ap (λ p. made_at p t) (at-same f.after.made v new inside) ∙ bit-made t f.value s)) (made-on f (Some None) h v t q) in
          subst P same at d
      | inr c ↦ subst (λ q. NumberIn (SoFar bits f.after) t (made_at q t)) (sym (at-other f.after.made v y new c)) (made-on f (Some None) h y t d)
    ];
  }
    where
      s : Standing
      s = slice_index_or f.after.made v nowhere

      new : Standing
      new = and_bit_made f.value (slice_index_or f.after.made v nowhere)

      inside : v < length f.after.made
      inside = (let e = ap length h.made in omega arith)

      by : (y : ℕ) → M y ⊎ (y ≡ v) → (nat_eq v y ≡ true) ⊎ (nat_eq v y ≡ false) → BitIn (SoFar bits f.after) (slice_index_or (set f.after.made v (and_bit_made f.value (slice_index_or f.after.made v nowhere))) y nowhere).bit
      by y d (inl c) =
          let same : v ≡ y = eqb-true v y c in
          let P : ℕ → Type 0 = λ k. BitIn (SoFar bits f.after) (slice_index_or (set f.after.made v new) k nowhere).bit in
          subst P same (subst (λ x. BitIn (SoFar bits f.after) x) (sym (ap (λ (q : Standing). q.bit) (at-same f.after.made v new inside))) h.value)
      by y (inl d) (inr c) = subst (λ (q : Standing). BitIn (SoFar bits f.after) q.bit) (sym (at-other f.after.made v y new c)) (bits-on f (Some None) h y d)
      by y (inr d) (inr c) = absurd (eqb-false v y c (sym d))
