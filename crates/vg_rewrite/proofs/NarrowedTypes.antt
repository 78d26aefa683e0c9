-- Narrowed units take earlier values of the widths that they want.
use Rattle.std.proofs.Common.{◌≡◌, ℕ, suc, ◌+◌, ◌-◌, ◌<◌, ◌≤◌, ◌⊎◌, true, false, List, [], ◌∷◌, ◌++◌, length, map, take, drop, Option, Some, None, refl, sym, ap, ◌∙◌, subst, arith, inl, inr}
use Rattle.std.specs.Prelude.{filter, slice_get, slice_index, slice_index_or}
use Rattle.std.proofs.lemmas.Bool.{cases_Bool, cases_lt, cond-false, cond-true, true≢false}
use Rattle.std.proofs.lemmas.List.{length-append, length-map, length_push, length-set, take-append-drop}
use Rattle.std.proofs.lemmas.List.Elements.{filter-append}
use Rattle.std.proofs.lemmas.Nat.{pow_pos}
use Rattle.vg_base.specs.declared.address.Address.{Address}
use Rattle.vg_base.specs.declared.width.Width.{Width}
use Rattle.vg_base.specs.declared.width.Width.TheVariants.{W8}
use Rattle.vg_base.specs.Width.{bits_of}
use Rattle.vg_rewrite.specs.declared.form.Form.{Form}
use Rattle.vg_rewrite.specs.Form.{compare_operands, comparison_by, made, narrow_form, operation_form, own_form, reading_of, value_form}
use Rattle.vg_rewrite.specs.Narrowed.{and_made, asked_at, asked_of, have, made_at, make_form, make_operation, make_param, make_params, make_unit, make_units, make_value, Narrowing, narrowed_units, next_value, no_value, nowhere, put, record_bit, stand}
use Rattle.vg_rewrite.proofs.Closing.{asked-closed, Asks, Closed, FormedIn}
use Rattle.vg_rewrite.proofs.Demands.{Allows, IsIn}
use Rattle.vg_rewrite.proofs.FormShapes.{comparison-made, itself-is, number-any, number-not, value-is}
use Rattle.vg_rewrite.proofs.FormsTyped.{bit-made_in, FormedAs, next-is, number-in, put-typed, recorded-bit, SoFar, so-far-put, State}
use Rattle.vg_rewrite.proofs.NarrowedRuns.{all-taken, Flags, flags-before, Forms, forms-before, IsWide, made-here, never-flag, none-before, comparison-parts, value-parts, WithOwn}
use Rattle.vg_rewrite.proofs.Parameters.{is-parameter}
use Rattle.vg_rewrite.proofs.Reaching.{reaches, unit-span-at}
use Rattle.vg_rewrite.proofs.RepeatedTypes.{argument-bits, bits-at, in-more, no-store, one-store, sound-typed, Stores, unit-takes_earlier, unit-typed}
use Rattle.vg_rewrite.proofs.Rereading.{all-from, AreFrom, from-here, from-next}
use Rattle.vg_rewrite.proofs.ValuesMade.{Below, itself-parts, not-value}
use Rattle.vg_rewrite.proofs.ValuesTyped.{Behind, itself-owns, never-is, state-added, state-fewer, value-typed}
use Rattle.vg_scalar.specs.declared.comparison.Comparison.{Comparison}
use Rattle.vg_shapes.specs.declared.ssa.Ssa.{Ssa}
use Rattle.vg_shapes.specs.declared.ssa.SsaParam.{SsaParam}
use Rattle.vg_shapes.specs.declared.ssa_unit.Operands.{Operands}
use Rattle.vg_shapes.specs.declared.ssa_unit.Operator.{Operator}
use Rattle.vg_shapes.specs.declared.ssa_unit.Operator.TheVariants.{Two, Shift, Resize, Compare, Select}
use Rattle.vg_shapes.specs.declared.ssa_unit.SsaUnit.{SsaUnit}
use Rattle.vg_shapes.specs.declared.ssa_unit.SsaUnit.TheVariants.{Load, Store, Operation}
use Rattle.vg_shapes.specs.declared.wanted.Wanted.{Wanted}
use Rattle.vg_shapes.specs.declared.wanted.Wanted.TheVariants.{Value, Constant, Nothing}
use Rattle.vg_shapes.specs.Sound.{AreArguments, IsEarlier, IsNumber, IsSound, is_store, kind_bits, pointers, result_bits, TakeEarlier, unit_bits, value_bits}
use Rattle.vg_shapes.specs.Units.{arguments, integers, unit_at}
use Rattle.vg_spans.specs.Laws.{span_at}
use Rattle.vg_spans.specs.Span.{signed_span}
use Rattle.vg_spans.specs.Spans.{operation_span, spans_of}
use Rattle.vg_spans.proofs.Given.{AreGiven, given-long, some-given}
use Rattle.vg_spans.proofs.Holding.{Holds}
use Rattle.vg_spans.proofs.Runs.{arguments-long, front-hold}
use Rattle.vg_ssa.specs.OfUnits.{widths_of}
use Rattle.vg_ssa.proofs.Soundness.{widths, widths-many}
use Rattle.vg_ssa.proofs.Typing.{BitIn, NumberIn, UnitIn, UnitsIn}

-- ---- some numbers of parameters

record SomeArguments (ps : List SsaParam) : Type 0 where
  args : List ℕ
  are : AreArguments ps args

some-arguments : (ps : List SsaParam) → SomeArguments ps
some-arguments [] = record { args = []; are = refl }
some-arguments (p ∷ ps) = let rest = some-arguments ps in record { args = 0 ∷ rest.args; are = (pow_pos (kind_bits p.kind), rest.are) }

module _ (ssa : Ssa) (sound : IsSound ssa) (args : List ℕ) (fit : AreArguments (integers ssa) args) (more : List ℕ) (given : AreGiven args (take (length ssa.units) ssa.units) more) where
  holds : (x m : ℕ) → x < length (args ++ more) → value_bits ssa x ≡ Some m → Holds m (span_at ssa x) (slice_index (args ++ more) x)
  holds x m l e = front-hold ssa (take (length ssa.units) ssa.units) (drop (length ssa.units) ssa.units) args more sound (take-append-drop (length ssa.units) ssa.units) fit given x m l e

  all-long : length (args ++ more) ≡ arguments ssa + length ssa.units
  all-long =
      let a = length-append args more in
      let b = given-long args (take (length ssa.units) ssa.units) more given in
      let c = arguments-long (integers ssa) args fit in
      let d = ap length (all-taken ssa.units) in
      omega arith

  abbrev count : ℕ
  count = length (pointers ssa)

  abbrev bits : List (Option ℕ)
  bits = widths (integers ssa)

  unit-span : (v : ℕ) (op : Operator) (own : Width) (k : ℕ) (xs : Operands) → unit_at ssa v ≡ Some (Operation op own k xs) → span_at ssa v ≡ operation_span (spans_of ssa) op (bits_of own) k xs
  unit-span v op own k xs is = unit-span-at ssa sound args fit (length ssa.units) more given v (Operation op own k xs) (reaches ssa v (Operation op own k xs) is)

  load-span : (v : ℕ) (a : Address) (w : Width) → unit_at ssa v ≡ Some (Load a w) → span_at ssa v ≡ signed_span (bits_of w)
  load-span v a w is = unit-span-at ssa sound args fit (length ssa.units) more given v (Load a w) (reaches ssa v (Load a w) is)

  closed-at : (v : ℕ) (u : SsaUnit) → unit_at ssa v ≡ Some u → Closed (spans_of ssa) (asked_of ssa) v u
  closed-at v u is =
      let r = reaches ssa v u is in
      let same : length (widths_of ssa.params) ≡ arguments ssa = widths-many ssa.params in
      let at : length (widths_of ssa.params) + (v - arguments ssa) ≡ v = (let n = r.number in omega arith) in
      subst (λ n. Closed (spans_of ssa) (asked_of ssa) n u) at (asked-closed (spans_of ssa) (widths_of ssa.params) ssa.units (subst (λ n. TakeEarlier n ssa.units) (sym same) sound.earlier) (v - arguments ssa) u r.at)

  -- ---- states

  record Beside (v : ℕ) (g : Narrowing) : Type 0 where
    state : State count bits (Forms ssa v) (Flags ssa v) g
    long : length g.made ≡ v

  abbrev Stepped : ℕ → SsaUnit → Narrowing → Narrowing → Type 0
  Stepped v u g h = Beside (v + 1) h × (Stores h.units ≡ Stores (g.units ++ u ∷ []))

  state-put : (v : ℕ) (g : Narrowing) (u : SsaUnit) → State count bits (Forms ssa v) (Flags ssa v) g → UnitIn count (SoFar bits g) u → State count bits (Forms ssa v) (Flags ssa v) (put u g)
  state-put v g u state one = record {
    typed = put-typed count bits g u state.typed one;
    made = λ y t h. subst (λ l. NumberIn l t (made_at (slice_index_or g.made y nowhere) t)) (sym (so-far-put bits g u)) (in-more (SoFar bits g) (unit_bits u ∷ []) (Some (Some t)) (made_at (slice_index_or g.made y nowhere) t) (state.made y t h));
    flags = λ y h. subst (λ l. BitIn l (slice_index_or g.made y nowhere).bit) (sym (so-far-put bits g u)) (in-more (SoFar bits g) (unit_bits u ∷ []) (Some None) (slice_index_or g.made y nowhere).bit (state.flags y h));
  }

  state-none : (v : ℕ) (g : Narrowing) → State count bits (Forms ssa v) (Flags ssa v) g → length g.made ≡ v → State count bits (Forms ssa v) (Flags ssa v) (no_value g)
  state-none v g state long = state-added count bits (Forms ssa v) (Forms ssa v) (Flags ssa v) g nowhere state (λ y w h. (let l = h.0 in omega arith)) (λ y h. (let l = h.0 in omega arith)) (λ y w h. inl h)

  beside-behind : (v : ℕ) (own : Width) (D : ℕ → Width → Type 0) (start : List (Option ℕ)) (stores : ℕ) (g : Narrowing) → value_bits ssa v ≡ Some (bits_of own) → ((y : ℕ) (t : Width) → Forms ssa v y t → D y t)
      → Behind count bits (Below (asked_of ssa) v D 128) (Flags ssa v) (v + 1) start stores g → Beside (v + 1) g
  beside-behind v own D start stores g e f h = record {
    state = state-fewer count bits (Below (asked_of ssa) v D 128) (Forms ssa (v + 1)) (Flags ssa v) (Flags ssa (v + 1)) g h.state (forms-before ssa v D f) (flags-before ssa v own e);
    long = h.long_is;
  }

  -- ---- a value that stands itself

  step-own : (v : ℕ) (own : Width) (u : Option SsaUnit) (value : Wanted) (g : Narrowing) → ((w : Width) → narrow_form (spans_of ssa) v u own w ≡ own_form v own w) → value_bits ssa v ≡ Some (bits_of own) → span_at ssa v ≡ signed_span (bits_of own)
      → length g.made ≡ v → State count bits (Forms ssa v) (Flags ssa v) g → NumberIn (SoFar bits g) own value
      → Behind count bits (Below (asked_of ssa) v (WithOwn ssa v own) 128) (Flags ssa v) (v + 1) (SoFar bits g) (Stores g.units) (make_value (spans_of ssa) (asked_of ssa) v u value own (stand own value g))
  step-own v own u value g narrow e span long state has =
      let D = WithOwn ssa v own in
      let s = and_made own value nowhere in
      let added = state-added count bits (Forms ssa v) D (Flags ssa v) g s state (λ y w h. (let l = h.0 in omega arith)) (λ y h. (let l = h.0 in omega arith)) split in
      value-typed count bits (asked_of ssa) (spans_of ssa) v u value own D (Flags ssa v) (v + 1) (SoFar bits g) (Stores g.units) (omega arith)
      (λ w asks. itself-parts (Below (asked_of ssa) v D (bits_of w)) (Flags ssa v) (spans_of ssa) v u own w span (narrow w) (inl (inr (refl, refl))))
      (λ w. itself-is (spans_of ssa) v u own w (narrow w))
      (λ w. itself-owns (λ x. NumberIn (SoFar bits g) x value) (spans_of ssa) v u own w (narrow w) has)
      (stand own value g) added (length_push g.made s ∙ ap (λ k. k + 1) long) refl refl
    where
      split : (y : ℕ) (w : Width) → WithOwn ssa v own y w → Forms ssa v y w ⊎ ((y ≡ length g.made) × NumberIn (SoFar bits g) w (made_at (and_made own value nowhere) w))
      split y w (inl h) = inl h
      split y w (inr h) =
          let stands : NumberIn (SoFar bits g) own (made_at (and_made own value nowhere) own) = subst (NumberIn (SoFar bits g) own) (sym (made-here own value)) has in
          inr (h.0 ∙ sym long, subst (λ x. NumberIn (SoFar bits g) x (made_at (and_made own value nowhere) x)) (sym h.1) stands)

  -- ---- units

  step-load : (v : ℕ) (a : Address) (w : Width) (g : Narrowing) → unit_at ssa v ≡ Some (Load a w) → Beside v g → Stepped v (Load a w) g (make_unit (spans_of ssa) (asked_of ssa) v (Load a w) g)
  step-load v a w g is beside =
      let e = bits-at ssa v (Load a w) is in
      let h = step-own v w (Some (Load a w)) (next_value g) (put (Load a w) g) (λ u. refl) e (load-span v a w is) beside.long (state-put v g (Load a w) beside.state (unit-typed ssa v (Load a w) (sound-typed ssa sound) is)) (next-is count bits g (Load a w) beside.state.typed) in
      (beside-behind v w (WithOwn ssa v w) _ _ (make_unit (spans_of ssa) (asked_of ssa) v (Load a w) g) e (λ y t d. inl d) h, h.stores_are)

  store-allows : (v : ℕ) (w : Width) (x : Wanted) → IsEarlier v x → IsIn (asked_of ssa) w x → IsNumber ssa w x → Allows (Forms ssa v) w x
  store-allows v w (Value y) l i h = (l, i, (w, h))
  store-allows v w (Constant m n) l i h = tt
  store-allows v w Nothing l i h = tt

  never-some : (n : ℕ) → None ≡ Some n → ⊥
  never-some n e = absurd (cc)

  no-flag : (v y : ℕ) → value_bits ssa v ≡ None → Flags ssa (v + 1) y → (y < v) ⊎ (v ≤ y) → Flags ssa v y
  no-flag v y none h (inl less) = (less, h.1, h.2)
  no-flag v y none h (inr past) = absurd (let low = h.0 in let same : v ≡ y = omega arith in never-some 1 (sym none ∙ ap (value_bits ssa) same ∙ h.2))

  step-store : (v : ℕ) (a : Address) (w : Width) (x : Wanted) (g : Narrowing) → unit_at ssa v ≡ Some (Store a w x) → Beside v g → Stepped v (Store a w x) g (make_unit (spans_of ssa) (asked_of ssa) v (Store a w x) g)
  step-store v a w x g is beside =
      let rule = unit-typed ssa v (Store a w x) (sound-typed ssa sound) is in
      let allows = store-allows v w x (unit-takes_earlier ssa v (Store a w x) (sound-typed ssa sound) is) (closed-at v (Store a w x) is) rule.1 in
      let number = number-in count bits (Forms ssa v) (Flags ssa v) g beside.state w x (number-any w x (number-not ssa w x rule.1)) allows in
      let u = Store a w (have g w x) in
      let state = state-put v g u beside.state (rule.0, number) in
      let none = bits-at ssa v (Store a w x) is in (
        record {
          state = state-fewer count bits (Forms ssa v) (Forms ssa (v + 1)) (Flags ssa v) (Flags ssa (v + 1)) (no_value (put u g)) (state-none v (put u g) state beside.long)
              (none-before ssa v (λ h. never-some (bits_of h.0) (sym none ∙ h.1))) (λ y h. no-flag v y none h (cases_lt y v));
          long = length_push g.made nowhere ∙ ap (λ k. k + 1) beside.long;
        },
        one-store g.units u refl ∙ sym (one-store g.units (Store a w x) refl),
      )

  step-value : (v : ℕ) (op : Operator) (own : Width) (k : ℕ) (xs : Operands) (g : Narrowing) → unit_at ssa v ≡ Some (Operation op own k xs) → v ≤ length (args ++ more) → Beside v g → value_bits ssa v ≡ Some (bits_of own) → (1 ≡ result_bits op own → ⊥)
      → ((w : Width) → Asks (asked_of ssa) v w → FormedIn (asked_of ssa) w (value_form (spans_of ssa) v (Some (Operation op own k xs)) own w))
      → Stepped v (Operation op own k xs) g (make_value (spans_of ssa) (asked_of ssa) v (Some (Operation op own k xs)) Nothing own (no_value g))
  step-value v op own k xs g is inside beside e wide closed =
      let u = Operation op own k xs in
      let takes = unit-takes_earlier ssa v u (sound-typed ssa sound) is in
      let rule = unit-typed ssa v u (sound-typed ssa sound) is in
      let h = value-typed count bits (asked_of ssa) (spans_of ssa) v (Some u) Nothing own (Forms ssa v) (Flags ssa v) (v + 1) (SoFar bits g) (Stores g.units) (omega arith)
      (value-parts ssa v op own k xs takes rule (own, e) closed)
      (λ w. value-is ssa (args ++ more) holds v op own k xs w inside takes rule wide (unit-span v op own k xs is))
      (λ w. never-is (NumberIn (SoFar bits g) w Nothing) (value_form (spans_of ssa) v (Some u) own w) (not-value (spans_of ssa) v op own k xs w))
      (no_value g) (state-none v g beside.state beside.long) (length_push g.made nowhere ∙ ap (λ j. j + 1) beside.long) refl refl in
      (beside-behind v own (Forms ssa v) _ _ (make_value (spans_of ssa) (asked_of ssa) v (Some u) Nothing own (no_value g)) e (λ y t d. d) h, h.stores_are ∙ sym (no-store g.units u refl))

  step-comparison : (v : ℕ) (op : Comparison) (own : Width) (k : ℕ) (xs : Operands) (g : Narrowing) → unit_at ssa v ≡ Some (Operation (Compare op) own k xs) → Beside v g
      → Stepped v (Operation (Compare op) own k xs) g (make_operation (spans_of ssa) (asked_of ssa) v (Compare op) own k xs g)
  step-comparison v op own k xs g is beside = elim (cases_Bool (asked_at (asked_of ssa) v).bit) [
    | inl e ↦
        let h = formed_bit e in
        subst (Stepped v (Operation (Compare op) own k xs) g) (sym (cond-true (asked_at (asked_of ssa) v).bit (record_bit v (make_form (no_value g) Nothing W8 f)) (no_value g) e)) (
          record {
            state = state-fewer count bits (Forms ssa v) (Forms ssa (v + 1)) (Flags ssa (v + 1)) (Flags ssa (v + 1)) (record_bit v (make_form (no_value g) Nothing W8 f))
                (recorded-bit count bits (Forms ssa v) (Forms ssa v) (Flags ssa v) (Flags ssa (v + 1)) (no_value g) none v (make_form (no_value g) Nothing W8 f) h (let l = longer in omega arith) (λ y z. or-here y z (cases_lt y v)))
                (none-before ssa v narrow) (λ y z. z);
            long = length-set (make_form (no_value g) Nothing W8 f).after.made v _ ∙ ap length h.made ∙ longer;
          },
          h.stores ∙ sym (no-store g.units (Operation (Compare op) own k xs) refl),
        )
    | inr e ↦
        subst (Stepped v (Operation (Compare op) own k xs) g) (sym (cond-false (asked_at (asked_of ssa) v).bit (record_bit v (make_form (no_value g) Nothing W8 f)) (no_value g) e)) (
          record {
            state = state-fewer count bits (Forms ssa v) (Forms ssa (v + 1)) (Flags ssa v) (Flags ssa (v + 1)) (no_value g) none (none-before ssa v narrow) (λ y z. unasked-flag e y z (cases_lt y v));
            long = longer;
          },
          sym (no-store g.units (Operation (Compare op) own k xs) refl),
        )
  ]
    where
      f : Form
      f = operation_form (spans_of ssa) (Compare op) own k xs W8

      none : State count bits (Forms ssa v) (Flags ssa v) (no_value g)
      none = state-none v g beside.state beside.long

      longer : length (no_value g).made ≡ v + 1
      longer = length_push g.made nowhere ∙ ap (λ j. j + 1) beside.long

      narrow : IsWide ssa v → ⊥
      narrow h = never-flag h.0 (sym h.1 ∙ bits-at ssa v (Operation (Compare op) own k xs) is)

      formed_bit : (asked_at (asked_of ssa) v).bit ≡ true → FormedAs count bits (no_value g) (make_form (no_value g) Nothing W8 (operation_form (spans_of ssa) (Compare op) own k xs W8)) (Some None)
      formed_bit e =
          let u = Operation (Compare op) own k xs in
          let rule = unit-typed ssa v u (sound-typed ssa sound) is in
          let c = compare_operands (spans_of ssa) (reading_of op) own xs in
          let m = made (Compare (comparison_by c.reading)) c.width 0 xs c.width in
          bit-made_in count bits (Forms ssa v) (Flags ssa v) (no_value g) none m refl (comparison-made (comparison_by c.reading) xs c.width (number-not ssa own xs.first rule.1) (number-not ssa own xs.second rule.2) rule.3)
          (comparison-parts ssa v op own k xs (unit-takes_earlier ssa v u (sound-typed ssa sound) is) rule (closed-at v u is e))

      or-here : (y : ℕ) → Flags ssa (v + 1) y → (y < v) ⊎ (v ≤ y) → Flags ssa v y ⊎ (y ≡ v)
      or-here y z (inl less) = inl (less, z.1, z.2)
      or-here y z (inr past) = inr (let low = z.0 in omega arith)

      unasked-flag : (asked_at (asked_of ssa) v).bit ≡ false → (y : ℕ) → Flags ssa (v + 1) y → (y < v) ⊎ (v ≤ y) → Flags ssa v y
      unasked-flag e y z (inl less) = (less, z.1, z.2)
      unasked-flag e y z (inr past) = absurd (let low = z.0 in let here : y ≡ v = omega arith in true≢false (sym z.1 ∙ ap (λ n. (asked_at (asked_of ssa) n).bit) here ∙ e))

  wide-result : (own : Width) → 1 ≡ bits_of own → ⊥
  wide-result own e = never-flag own (ap Some (sym e))

  step : (v : ℕ) (u : SsaUnit) (g : Narrowing) → unit_at ssa v ≡ Some u → v ≤ length (args ++ more) → Beside v g → Stepped v u g (make_unit (spans_of ssa) (asked_of ssa) v u g)
  step v (Load a w) g is inside beside = step-load v a w g is beside
  step v (Store a w x) g is inside beside = step-store v a w x g is beside
  step v (Operation (Two op) own k xs) g is inside beside = step-value v (Two op) own k xs g is inside beside (bits-at ssa v (Operation (Two op) own k xs) is) (wide-result own) (closed-at v (Operation (Two op) own k xs) is)
  step v (Operation (Shift op) own k xs) g is inside beside = step-value v (Shift op) own k xs g is inside beside (bits-at ssa v (Operation (Shift op) own k xs) is) (wide-result own) (closed-at v (Operation (Shift op) own k xs) is)
  step v (Operation (Resize op from) own k xs) g is inside beside =
      step-value v (Resize op from) own k xs g is inside beside (bits-at ssa v (Operation (Resize op from) own k xs) is) (wide-result own) (closed-at v (Operation (Resize op from) own k xs) is)
  step v (Operation (Compare op) own k xs) g is inside beside = step-comparison v op own k xs g is beside
  step v (Operation Select own k xs) g is inside beside = step-value v Select own k xs g is inside beside (bits-at ssa v (Operation Select own k xs) is) (wide-result own) (closed-at v (Operation Select own k xs) is)

  follow : (v : ℕ) (us : List SsaUnit) (g : Narrowing) → AreFrom ssa v us → v + length us ≡ length (args ++ more) → Beside v g
      → UnitsIn count bits (make_units (spans_of ssa) (asked_of ssa) v us g).units × (Stores (make_units (spans_of ssa) (asked_of ssa) v us g).units ≡ Stores g.units + Stores us)
  follow v [] g from all beside = (beside.state.typed.units, (let e : Stores g.units ≡ Stores g.units + 0 = omega arith in e))
  follow v (u ∷ us) g from all beside =
      let one = step v u g (from-here ssa v u us from) (omega arith) beside in
      let rest = follow (v + 1) us (make_unit (spans_of ssa) (asked_of ssa) v u g) (from-next ssa v u us from) (omega arith) one.0 in
      let a = ap length (filter-append is_store g.units (u ∷ [])) ∙ length-append (filter is_store g.units) (filter is_store (u ∷ [])) in
      let b = ap length (filter-append is_store (u ∷ []) us) ∙ length-append (filter is_store (u ∷ [])) (filter is_store us) in
      (rest.0, rest.1 ∙ ap (λ k. k + Stores us) (one.1 ∙ a) ∙ (let e : Stores g.units + length (filter is_store (u ∷ [])) + Stores us ≡ Stores g.units + Stores (u ∷ us) = omega arith in e))

  -- ---- parameters

  params : (v : ℕ) (ws : List Width) (g : Narrowing) → ((j : ℕ) (w : Width) → slice_get ws j ≡ Some w → slice_get (widths_of ssa.params) (v + j) ≡ Some w) → Beside v g → Stores g.units ≡ 0
      → Beside (v + length ws) (make_params (spans_of ssa) (asked_of ssa) v ws g) × (Stores (make_params (spans_of ssa) (asked_of ssa) v ws g).units ≡ 0)
  params v [] g at beside none = (let same : v ≡ v + 0 = omega arith in (subst (λ n. Beside n g) same beside, none))
  params v (w ∷ ws) g at beside none =
      let here : v + 0 ≡ v = omega arith in
      let p = is-parameter ssa v w (ap (slice_get (widths_of ssa.params)) (sym here) ∙ at 0 w refl) in
      let number : NumberIn (SoFar bits g) w (Value v) = in-more bits (map unit_bits g.units) (Some (Some w)) (Value v) (sym (argument-bits ssa v p.inside) ∙ p.bits) in
      let h = step-own v w None (Value v) g (λ u. refl) p.bits p.spans beside.long beside.state number in
      let one = beside-behind v w (WithOwn ssa v w) _ _ (make_param (spans_of ssa) (asked_of ssa) v w g) p.bits (λ y t d. inl d) h in
      let next : v + 1 + length ws ≡ v + length (w ∷ ws) = omega arith in
      let rest = params (v + 1) ws (make_param (spans_of ssa) (asked_of ssa) v w g) (λ j u e. (let past : v + 1 + j ≡ v + suc j = omega arith in ap (slice_get (widths_of ssa.params)) past ∙ at (suc j) u e)) one (h.stores_are ∙ none) in
      (subst (λ n. Beside n (make_params (spans_of ssa) (asked_of ssa) v (w ∷ ws) g)) next rest.0, rest.1)

  typed : UnitsIn count bits (narrowed_units ssa) × (Stores (narrowed_units ssa) ≡ Stores ssa.units)
  typed =
      let ws = widths_of ssa.params in
      let g : Narrowing = record { first = length ws; units = []; made = [] } in
      let same : length ws ≡ arguments ssa = widths-many ssa.params in
      let long : length bits ≡ length ws = length-map (integers ssa) (λ p. Some (kind_bits p.kind)) ∙ sym same in
      let begun : Beside 0 g = record {
        state = record { typed = record { units = tt; long = long }; made = λ y w h. absurd (let l = h.0 in omega arith); flags = λ y h. absurd (let l = h.0 in omega arith) };
        long = refl;
      } in
      let ready = params 0 ws g (λ j w e. (let past : j ≡ 0 + j = omega arith in ap (slice_get ws) (sym past) ∙ e)) begun refl in
      let zero_more : 0 + length ws ≡ length ws = omega arith in
      let all = all-long in
      let h = make_params (spans_of ssa) (asked_of ssa) 0 ws g in
      let end = follow (length ws) ssa.units h (subst (λ n. AreFrom ssa n ssa.units) (sym same) (all-from ssa)) (omega arith) (subst (λ n. Beside n h) zero_more ready.0) in
      (end.0, end.1 ∙ ap (λ k. k + Stores ssa.units) ready.1 ∙ (let e : 0 + Stores ssa.units ≡ Stores ssa.units = omega arith in e))

-- narrowed units have operands of the widths that they want, and as many stores as the given ones
pub narrowed-typed : (ssa : Ssa) → IsSound ssa → UnitsIn (length (pointers ssa)) (widths (integers ssa)) (narrowed_units ssa) × (Stores (narrowed_units ssa) ≡ Stores ssa.units)
narrowed-typed ssa sound =
    let a = some-arguments (integers ssa) in
    let m = some-given a.args (take (length ssa.units) ssa.units) in
    typed ssa sound a.args a.are m.more m.are
