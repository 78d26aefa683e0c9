-- A run of units that make forms: what stands for a form has the form's number.
use Rattle.std.proofs.Common.{◌≡◌, ℕ, ◌+◌, ◌<◌, ◌⊎◌, true, false, List, [], ◌∷◌, ◌++◌, length, Some, refl, sym, ap, ◌∙◌, subst, arith, append_assoc, append-nil, inl, inr, get_or-set_same, get_or-set_other}
use Rattle.std.specs.Prelude.{nat_eq, set, slice_index, slice_index_or, if◌then◌else◌}
use Rattle.std.proofs.lemmas.Bool.{cases_Bool, eqb-false, eqb-true}
use Rattle.std.proofs.lemmas.List.{get_or_push, length_push}
use Rattle.vg_base.specs.declared.width.Width.{Width}
use Rattle.vg_base.specs.declared.width.Width.TheVariants.{W8, W16, W32, W64}
use Rattle.vg_base.specs.Width.{bits_of}
use Rattle.vg_rewrite.specs.declared.form.Form.{Form}
use Rattle.vg_rewrite.specs.declared.form.Form.TheVariants.{Own, Zero, Same, Whole, Cut}
use Rattle.vg_rewrite.specs.declared.form.Made.{Made}
use Rattle.vg_rewrite.specs.declared.standing.Standing.{Standing}
use Rattle.vg_rewrite.specs.Laws.{form_number, is_choice, made_number, number_by}
use Rattle.vg_rewrite.specs.Narrowed.{and_bit_made, and_made, cut_unit, formed, Formed, have, have_bit, have_first, made_at, made_unit, make_form, Narrowing, next_value, nowhere, put, record_bit, record_form}
use Rattle.vg_rewrite.proofs.Demands.{Allows, AllowsBit, FirstAt, FormAt, MadeAt}
use Rattle.vg_rewrite.proofs.Rereading.{Has, has-more, run-push}
use Rattle.vg_scalar.specs.Scalar.{low}
use Rattle.vg_shapes.specs.declared.ssa.Ssa.{Ssa}
use Rattle.vg_shapes.specs.declared.ssa_unit.Operator.{Operator}
use Rattle.vg_shapes.specs.declared.ssa_unit.Operator.TheVariants.{Two, Shift, Resize, Compare, Select}
use Rattle.vg_shapes.specs.declared.ssa_unit.SsaUnit.{SsaUnit}
use Rattle.vg_shapes.specs.declared.wanted.Wanted.{Wanted}
use Rattle.vg_shapes.specs.declared.wanted.Wanted.TheVariants.{Value, Constant, Nothing}
use Rattle.vg_shapes.specs.RunUnits.{number_of, operation_result, Reached, reached, run_units, unit_run}

-- ---- one unit more

-- the units so far reach this
pub record Ran (places : List ℕ) (start : Reached) (g : Narrowing) (r : Reached) : Type 0 where
  pub run : run_units places g.units start ≡ Some r
  pub long : length r.numbers ≡ g.first + length g.units

pub put-ran : (places : List ℕ) (start : Reached) (g : Narrowing) (r : Reached) (u : SsaUnit) (m : List ℕ) (n : ℕ) → Ran places start g r → unit_run places u r ≡ Some (reached m r.numbers n) → Ran places start (put u g) (reached m r.numbers n)
put-ran places start g r u m n h e = record {
  run = run-push places g.units u start r (reached m r.numbers n) h.run e;
  long = (let a = length_push r.numbers n in let b = length_push g.units u in let c = h.long in omega arith);
}

pub has-next : (places : List ℕ) (start : Reached) (g : Narrowing) (r : Reached) (n : ℕ) → Ran places start g r → Has (r.numbers ++ n ∷ []) (next_value g) n
has-next places start g r n h = ((let a = length_push r.numbers n in let c = h.long in omega arith), get_or_push r.numbers n 0 (g.first + length g.units) h.long)

-- ---- what stands for forms

module _ (ssa : Ssa) (places : List ℕ) (start : Reached) (all : List ℕ) where
  -- what stands for these forms has their numbers, where all values have these
  abbrev pub AreMade : (ℕ → Width → Type 0) → List Standing → List ℕ → Type 0
  AreMade D made numbers = (y : ℕ) (t : Width) → D y t → Has numbers (made_at (slice_index_or made y nowhere) t) (form_number ssa all (bits_of t) (Value y))

  abbrev pub AreBits : (ℕ → Type 0) → List Standing → List ℕ → Type 0
  AreBits M made numbers = (y : ℕ) → M y → Has numbers (slice_index_or made y nowhere).bit (slice_index all y)

pub record State (ssa : Ssa) (places : List ℕ) (start : Reached) (all : List ℕ) (D : ℕ → Width → Type 0) (M : ℕ → Type 0) (g : Narrowing) (r : Reached) : Type 0 where
  pub ran : Ran places start g r
  pub made : AreMade ssa places start all D g.made r.numbers
  pub bits : AreBits ssa places start all M g.made r.numbers

-- a form that is made stands for a number, behind more units
pub record FormedAs (places : List ℕ) (start : Reached) (g : Narrowing) (r : Reached) (f : Formed) (n : ℕ) : Type 0 where
  pub after : Reached
  pub more : List ℕ
  pub ran : Ran places start f.after after
  pub numbers : after.numbers ≡ r.numbers ++ more
  pub memory : after.memory ≡ r.memory
  pub made : f.after.made ≡ g.made
  pub value : Has after.numbers f.value n

-- the value itself has its number, where it is a form
abbrev pub OwnHas : List ℕ → Wanted → ℕ → Form → Type 0
OwnHas numbers x n Own = Has numbers x n
OwnHas numbers x n Zero = Unit {0}
OwnHas numbers x n (Same y) = Unit {0}
OwnHas numbers x n (Whole m) = Unit {0}
OwnHas numbers x n (Cut m) = Unit {0}

module _ (ssa : Ssa) (places : List ℕ) (start : Reached) (all : List ℕ) (D : ℕ → Width → Type 0) (M : ℕ → Type 0) (g : Narrowing) (r : Reached) (state : State ssa places start all D M g r) where
  no-number : (t : Width) → 0 ≡ form_number ssa all (bits_of t) Nothing
  no-number W8 = refl
  no-number W16 = refl
  no-number W32 = refl
  no-number W64 = refl

  pub have-has : (t : Width) (x : Wanted) → Allows D t x → Has r.numbers (have g t x) (form_number ssa all (bits_of t) x)
  have-has t (Value y) h = state.made y t h
  have-has t (Constant m n) h = (tt, refl)
  have-has t Nothing h = (tt, no-number t)

  have-has_bit : (x : Wanted) → AllowsBit M x → Has r.numbers (have_bit g x) (number_of (slice_index all) x)
  have-has_bit (Value y) h = state.bits y h
  have-has_bit (Constant m n) h = (tt, refl)
  have-has_bit Nothing h = (tt, refl)

  first-has : (op : Operator) (t : Width) (x : Wanted) → FirstAt (Allows D) (AllowsBit M) op t x
      → Has r.numbers (have_first g op t x) (if is_choice op then number_of (slice_index all) x else form_number ssa all (bits_of t) x)
  first-has (Two op) t x h = have-has t x h
  first-has (Shift op) t x h = have-has t x h
  first-has (Resize op from) t x h = have-has t x h
  first-has (Compare op) t x h = have-has t x h
  first-has Select t x h = have-has_bit x h

  made-runs : (m : Made) → MadeAt (Allows D) (AllowsBit M) m → unit_run places (made_unit g m) r ≡ Some (reached r.memory r.numbers (made_number ssa all m))
  made-runs m h =
      let x = first-has m.op m.asked m.operands.first h.0 in
      let y = have-has m.asked m.operands.second h.1 in
      let z = have-has m.asked m.operands.third h.2 in
      λ i. Some (reached r.memory r.numbers (operation_result m.op (bits_of m.width) m.amount (x.1 i) (y.1 i) (z.1 i)))

  standing : (x : Wanted) (n : ℕ) → Has r.numbers x n → FormedAs places start g r (record { after = g; value = x }) n
  standing x n has = record { after = r; more = []; ran = state.ran; numbers = sym (append-nil r.numbers); memory = refl; made = refl; value = has }

  formed-made : (m : Made) → MadeAt (Allows D) (AllowsBit M) m → FormedAs places start g r (formed g (made_unit g m)) (made_number ssa all m)
  formed-made m h =
      let n = made_number ssa all m in
      record {
        after = reached r.memory r.numbers n;
        more = n ∷ [];
        ran = put-ran places start g r (made_unit g m) r.memory n state.ran (made-runs m h);
        numbers = refl;
        memory = refl;
        made = refl;
        value = has-next places start g r n state.ran;
      }

  cut-made : (m : Made) (w : Width) → (h : FormedAs places start g r (formed g (made_unit g m)) (made_number ssa all m))
      → FormedAs places start g r (formed (formed g (made_unit g m)).after (cut_unit (formed g (made_unit g m)).value m.width w)) (low (bits_of w) (made_number ssa all m))
  cut-made m w h =
      let part = formed g (made_unit g m) in
      let n = low (bits_of w) (made_number ssa all m) in
      let runs : unit_run places (cut_unit part.value m.width w) h.after ≡ Some (reached h.after.memory h.after.numbers n) = ap (λ k. Some (reached h.after.memory h.after.numbers (low (bits_of w) k))) h.value.1 in
      record {
        after = reached h.after.memory h.after.numbers n;
        more = h.more ++ n ∷ [];
        ran = put-ran places start part.after h.after (cut_unit part.value m.width w) h.after.memory n h.ran runs;
        numbers = ap (λ l. l ++ n ∷ []) h.numbers ∙ append_assoc r.numbers h.more (n ∷ []);
        memory = h.memory;
        made = h.made;
        value = has-next places start part.after h.after n h.ran;
      }

  pub form-made : (v : ℕ) (own : Wanted) (w : Width) (f : Form) → FormAt (Allows D) (AllowsBit M) w f → OwnHas r.numbers own (slice_index all v) f → FormedAs places start g r (make_form g own w f) (number_by ssa all v w f)
  form-made v own w Own h o = standing own (slice_index all v) o
  form-made v own w Zero h o = standing (Constant (bits_of w) 0) 0 (tt, refl)
  form-made v own w (Same x) h o = standing (have g w x) (form_number ssa all (bits_of w) x) (have-has w x h)
  form-made v own w (Whole m) h o = formed-made m h
  form-made v own w (Cut m) h o = cut-made m w (formed-made m h)

-- ---- records of forms

pub made-cases : (w t : Width) (x : Wanted) (s : Standing) → ((t ≡ w) × (made_at (and_made w x s) t ≡ x)) ⊎ ((t ≡ w → ⊥) × (made_at (and_made w x s) t ≡ made_at s t))
made-cases W8 W8 x s = inl (refl, refl)
made-cases W8 W16 x s = inr ((λ e. absurd (cc)), refl)
made-cases W8 W32 x s = inr ((λ e. absurd (cc)), refl)
made-cases W8 W64 x s = inr ((λ e. absurd (cc)), refl)
made-cases W16 W8 x s = inr ((λ e. absurd (cc)), refl)
made-cases W16 W16 x s = inl (refl, refl)
made-cases W16 W32 x s = inr ((λ e. absurd (cc)), refl)
made-cases W16 W64 x s = inr ((λ e. absurd (cc)), refl)
made-cases W32 W8 x s = inr ((λ e. absurd (cc)), refl)
made-cases W32 W16 x s = inr ((λ e. absurd (cc)), refl)
made-cases W32 W32 x s = inl (refl, refl)
made-cases W32 W64 x s = inr ((λ e. absurd (cc)), refl)
made-cases W64 W8 x s = inr ((λ e. absurd (cc)), refl)
made-cases W64 W16 x s = inr ((λ e. absurd (cc)), refl)
made-cases W64 W32 x s = inr ((λ e. absurd (cc)), refl)
made-cases W64 W64 x s = inl (refl, refl)

pub made-bit : (w : Width) (x : Wanted) (s : Standing) → (and_made w x s).bit ≡ s.bit
made-bit W8 x s = refl
made-bit W16 x s = refl
made-bit W32 x s = refl
made-bit W64 x s = refl

pub bit-made : (t : Width) (x : Wanted) (s : Standing) → made_at (and_bit_made x s) t ≡ made_at s t
bit-made W8 x s = refl
bit-made W16 x s = refl
bit-made W32 x s = refl
bit-made W64 x s = refl

pub at-same : (made : List Standing) (v : ℕ) (s : Standing) → v < length made → slice_index_or (set made v s) v nowhere ≡ s
at-same made v s l = get_or-set_same made v s nowhere l

pub at-other : (made : List Standing) (v y : ℕ) (s : Standing) → nat_eq v y ≡ false → slice_index_or (set made v s) y nowhere ≡ slice_index_or made y nowhere
at-other made v y s f = get_or-set_other made v y s nowhere (λ e. absurd (eqb-false v y f (sym e)))

module _ (ssa : Ssa) (places : List ℕ) (start : Reached) (all : List ℕ) (D E : ℕ → Width → Type 0) (M L : ℕ → Type 0) (g : Narrowing) (r : Reached) (state : State ssa places start all D M g r) where
  -- behind more units, the forms that stand stand on
  made-on : (f : Formed) (n : ℕ) → (h : FormedAs places start g r f n) → AreMade ssa places start all D f.after.made h.after.numbers
  made-on f n h y t d =
      let k = form_number ssa all (bits_of t) (Value y) in
      let P : List Standing → Type 0 = λ l. Has h.after.numbers (made_at (slice_index_or l y nowhere) t) k in
      subst P (sym h.made) (subst (λ l. Has l (made_at (slice_index_or g.made y nowhere) t) k) (sym h.numbers) (has-more r.numbers h.more (made_at (slice_index_or g.made y nowhere) t) k (state.made y t d)))

  bits-on : (f : Formed) (n : ℕ) → (h : FormedAs places start g r f n) → AreBits ssa places start all M f.after.made h.after.numbers
  bits-on f n h y d =
      let k = slice_index all y in
      let P : List Standing → Type 0 = λ l. Has h.after.numbers (slice_index_or l y nowhere).bit k in
      subst P (sym h.made) (subst (λ l. Has l (slice_index_or g.made y nowhere).bit k) (sym h.numbers) (has-more r.numbers h.more (slice_index_or g.made y nowhere).bit k (state.bits y d)))

  -- the form of a value at a width is recorded
  pub recorded : (v : ℕ) (w : Width) (f : Formed) → (h : FormedAs places start g r f (form_number ssa all (bits_of w) (Value v))) → v < length g.made
      → ((y : ℕ) (t : Width) → E y t → D y t ⊎ ((y ≡ v) × (t ≡ w))) → State ssa places start all E M (record_form v w f) h.after
  recorded v w f h l split = record {
    ran = record { run = h.ran.run; long = h.ran.long };
    made = λ y t d. by y t (split y t d) (cases_Bool (nat_eq v y)) (made-cases w t f.value s);
    bits = λ y d. elim (cases_Bool (nat_eq v y)) [
      | inl c ↦
          let same : v ≡ y = eqb-true v y c in
          let P : ℕ → Type 0 = λ k. M k → Has h.after.numbers (slice_index_or (set f.after.made v new) k nowhere).bit (slice_index all k) in
          let at : P v = λ m. subst (λ x. Has h.after.numbers x (slice_index all v)) (sym (ap (λ (q : Standing). q.bit) (at-same f.after.made v new inside) ∙ made-bit w f.value s)) (bits-on f _ h v m) in
          subst P same at d
      | inr c ↦ subst (λ (q : Standing). Has h.after.numbers q.bit (slice_index all y)) (sym (at-other f.after.made v y new c)) (bits-on f _ h y d)
    ];
  }
    where
      s : Standing
      s = slice_index_or f.after.made v nowhere

      new : Standing
      new = and_made w f.value (slice_index_or f.after.made v nowhere)

      inside : v < length f.after.made
      inside = (let e = ap length h.made in omega arith)

      by : (y : ℕ) (t : Width) → D y t ⊎ ((y ≡ v) × (t ≡ w)) → (nat_eq v y ≡ true) ⊎ (nat_eq v y ≡ false)
          → ((t ≡ w) × (made_at (and_made w f.value (slice_index_or f.after.made v nowhere)) t ≡ f.value)) ⊎ ((t ≡ w → ⊥) × (made_at (and_made w f.value (slice_index_or f.after.made v nowhere)) t ≡ made_at (slice_index_or f.after.made v nowhere) t))
          → Has h.after.numbers (made_at (slice_index_or (set f.after.made v (and_made w f.value (slice_index_or f.after.made v nowhere))) y nowhere) t) (form_number ssa all (bits_of t) (Value y))
      by y t (inl d) (inr c) m = subst (λ q. Has h.after.numbers (made_at q t) (form_number ssa all (bits_of t) (Value y))) (sym (at-other f.after.made v y new c)) (made-on f _ h y t d)
      by y t (inr d) (inr c) m = absurd (eqb-false v y c (sym d.0))
      by y t d (inl c) (inl m) =
          let same : v ≡ y = eqb-true v y c in
          let P : ℕ → Type 0 = λ k. Has h.after.numbers (made_at (slice_index_or (set f.after.made v new) k nowhere) t) (form_number ssa all (bits_of t) (Value k)) in
          let now : Has h.after.numbers f.value (form_number ssa all (bits_of t) (Value v)) = subst (λ u. Has h.after.numbers f.value (form_number ssa all (bits_of u) (Value v))) (sym m.0) h.value in
          subst P same (subst (λ x. Has h.after.numbers x (form_number ssa all (bits_of t) (Value v))) (sym (ap (λ q. made_at q t) (at-same f.after.made v new inside) ∙ m.1)) now)
      by y t (inr d) (inl c) (inr m) = absurd (m.0 d.1)
      by y t (inl d) (inl c) (inr m) =
          let same : v ≡ y = eqb-true v y c in
          let P : ℕ → Type 0 = λ k. D k t → Has h.after.numbers (made_at (slice_index_or (set f.after.made v new) k nowhere) t) (form_number ssa all (bits_of t) (Value k)) in
          let at : P v = λ q. subst (λ x. Has h.after.numbers x (form_number ssa all (bits_of t) (Value v))) (sym (ap (λ p. made_at p t) (at-same f.after.made v new inside) ∙ m.1)) (made-on f _ h v t q) in
          subst P same at d

  -- a comparison is recorded
  pub recorded-bit : (v : ℕ) (f : Formed) → (h : FormedAs places start g r f (slice_index all v)) → v < length g.made → ((y : ℕ) → L y → M y ⊎ (y ≡ v)) → State ssa places start all D L (record_bit v f) h.after
  recorded-bit v f h l split = record {
    ran = record { run = h.ran.run; long = h.ran.long };
    bits = λ y d. by y (split y d) (cases_Bool (nat_eq v y));
    made = λ y t d. elim (cases_Bool (nat_eq v y)) [
      | inl c ↦
          let same : v ≡ y = eqb-true v y c in
          let P : ℕ → Type 0 = λ k. D k t → Has h.after.numbers (made_at (slice_index_or (set f.after.made v new) k nowhere) t) (form_number ssa all (bits_of t) (Value k)) in
          let at : P v = λ q. subst (λ x. Has h.after.numbers x (form_number ssa all (bits_of t) (Value v))) (sym (ap (λ p. made_at p t) (at-same f.after.made v new inside) ∙ bit-made t f.value s)) (made-on f _ h v t q) in
          subst P same at d
      | inr c ↦ subst (λ q. Has h.after.numbers (made_at q t) (form_number ssa all (bits_of t) (Value y))) (sym (at-other f.after.made v y new c)) (made-on f _ h y t d)
    ];
  }
    where
      s : Standing
      s = slice_index_or f.after.made v nowhere

      new : Standing
      new = and_bit_made f.value (slice_index_or f.after.made v nowhere)

      inside : v < length f.after.made
      inside = (let e = ap length h.made in omega arith)

      by : (y : ℕ) → M y ⊎ (y ≡ v) → (nat_eq v y ≡ true) ⊎ (nat_eq v y ≡ false) → Has h.after.numbers (slice_index_or (set f.after.made v (and_bit_made f.value (slice_index_or f.after.made v nowhere))) y nowhere).bit (slice_index all y)
      by y d (inl c) =
          let same : v ≡ y = eqb-true v y c in
          let P : ℕ → Type 0 = λ k. Has h.after.numbers (slice_index_or (set f.after.made v new) k nowhere).bit (slice_index all k) in
          subst P same (subst (λ x. Has h.after.numbers x (slice_index all v)) (sym (ap (λ (q : Standing). q.bit) (at-same f.after.made v new inside))) h.value)
      by y (inl d) (inr c) = subst (λ (q : Standing). Has h.after.numbers q.bit (slice_index all y)) (sym (at-other f.after.made v y new c)) (bits-on f _ h y d)
      by y (inr d) (inr c) = absurd (eqb-false v y c (sym d))
