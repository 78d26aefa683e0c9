-- Each access of the given units stands among the repeated units.
use Rattle.std.proofs.Common.{◌≡◌, ℕ, zero, suc, ◌+◌, ◌-◌, Bool, true, false, List, [], ◌∷◌, ◌++◌, Option, Some, None, refl, sym, ap, ◌∙◌, subst, arith, inl, inr}
use Rattle.std.specs.Prelude.{◌&&◌, ◌||◌, not, nat_eq, slice_get}
use Rattle.std.specs.List.{list_all, list_any}
use Rattle.std.specs.Option.{is_some, option_map_or}
use Rattle.std.proofs.lemmas.Bool.{and_cases, and_from, and_parts, cases_Bool, cond-false, cond-true, eq-eqb, eqb-true, or_cases, or_parts, true≢false}
use Rattle.vg_base.specs.Trap.{◌>>=◌}
use Rattle.vg_base.specs.declared.address.Address.{Address}
use Rattle.vg_base.specs.declared.width.Width.{Width}
use Rattle.vg_rewrite.specs.Repeated.{anew, is_free, is_needed, is_number, is_read, load_stays, read_anew, repeat_by, repeat_other, repeat_units, Repeating, source_by, source_of, stand_source, stood, take_operand, take_source, Taken, takes, unit_list, unit_or}
use Rattle.vg_rewrite.proofs.Rereading.{AreFrom, from-here, from-next}
use Rattle.vg_rewrite.proofs.SourceFacts.{load-source, none-from, some-passes, unit-inside}
use Rattle.vg_shapes.specs.declared.ssa.Ssa.{Ssa}
use Rattle.vg_shapes.specs.declared.ssa_unit.Operands.{Operands}
use Rattle.vg_shapes.specs.declared.ssa_unit.Operator.{Operator}
use Rattle.vg_shapes.specs.declared.ssa_unit.SsaUnit.{SsaUnit}
use Rattle.vg_shapes.specs.declared.ssa_unit.SsaUnit.TheVariants.{Load, Store, Operation}
use Rattle.vg_shapes.specs.declared.wanted.Wanted.{Wanted}
use Rattle.vg_shapes.specs.declared.wanted.Wanted.TheVariants.{Value, Constant, Nothing}
use Rattle.vg_shapes.specs.Depends.{uses_at}
use Rattle.vg_shapes.specs.Units.{arguments, is_among, is_value, unit_at, uses_value}

module _ (ssa : Ssa) (p : SsaUnit → Bool) (each_store : (a : Address) (w : Width) (x y : Wanted) → p (Store a w x) ≡ p (Store a w y)) (each_operation : (op : Operator) (w : Width) (k : ℕ) (xs : Operands) → p (Operation op w k xs) ≡ true) where
  abbrev Pass : List SsaUnit → Type 0
  Pass us = list_all p us ≡ true

  pass-front : (us : List SsaUnit) (u : SsaUnit) → Pass (us ++ u ∷ []) → Pass us × (p u ≡ true)
  pass-front [] u h = (refl, (and_parts (p u) true h).0)
  pass-front (x ∷ us) u h =
      let both = and_parts (p x) (list_all p (us ++ u ∷ [])) h in
      let rest = pass-front us u both.1 in
      (and_from (p x) (list_all p us) both.0 rest.0, rest.1)

  -- ---- operands

  pass-anew : (x l : ℕ) (g : Repeating) → Pass (read_anew ssa x l g).after.units → Pass g.units × (p (unit_or (unit_at ssa l)) ≡ true)
  pass-anew x l g h = elim (cases_Bool (nat_eq x l)) [
    | inl c ↦ pass-front g.units (unit_or (unit_at ssa l)) (subst (λ (t : Taken). Pass t.after.units) (cond-true (nat_eq x l) (anew (unit_or (unit_at ssa l)) g) _ c) h)
    | inr c ↦
        let read = anew (unit_or (unit_at ssa l)) g in
        let both = pass-front read.after.units _ (subst (λ (t : Taken). Pass t.after.units) (cond-false (nat_eq x l) read _ c) h) in
        pass-front g.units (unit_or (unit_at ssa l)) both.0
  ]

  pass-source : (user x : ℕ) (o : Option ℕ) (g : Repeating) → Pass (take_source ssa user x o g).after.units → Pass g.units
  pass-source user x None g h = h
  pass-source user x (Some l) g h = elim (cases_Bool (is_free ssa user x)) [
    | inl c ↦ (pass-anew x l g (subst (λ (t : Taken). Pass t.after.units) (cond-true (is_free ssa user x) (read_anew ssa x l g) (stood g x) c) h)).0
    | inr c ↦ subst (λ (t : Taken). Pass t.after.units) (cond-false (is_free ssa user x) (read_anew ssa x l g) (stood g x) c) h
  ]

  pass-operand : (user : ℕ) (x : Wanted) (g : Repeating) → Pass (take_operand ssa user x g).after.units → Pass g.units
  pass-operand user (Value x) g h = pass-source user x (source_of ssa x) g h
  pass-operand user (Constant w n) g h = h
  pass-operand user Nothing g h = h

  -- the load of a free use of an operand passes
  abbrev Rereads : ℕ → Wanted → Type 0
  Rereads user x = (y l : ℕ) → is_value y x ≡ true → source_of ssa y ≡ Some l → is_free ssa user y ≡ true → p (unit_or (unit_at ssa l)) ≡ true

  rereads : (user : ℕ) (x : Wanted) (g : Repeating) → Pass (take_operand ssa user x g).after.units → Rereads user x
  rereads user (Value x) g h y l is source free =
      let same : x ≡ y = eqb-true x y is in
      let at : source_of ssa x ≡ Some l = ap (source_of ssa) same ∙ source in
      let open_use : is_free ssa user x ≡ true = ap (is_free ssa user) same ∙ free in
      let made : take_operand ssa user (Value x) g ≡ read_anew ssa x l g = ap (λ o. take_source ssa user x o g) at ∙ cond-true (is_free ssa user x) (read_anew ssa x l g) (stood g x) open_use in
      (pass-anew x l g (subst (λ (t : Taken). Pass t.after.units) made h)).1
  rereads user (Constant w n) g h y l is source free = absurd (true≢false (sym is))
  rereads user Nothing g h y l is source free = absurd (true≢false (sym is))

  -- ---- units

  pass-stand : (b : Bool) (u : SsaUnit) (g : Repeating) → Pass (stand_source b u g).units → Pass g.units
  pass-stand true u g h = (pass-front g.units u h).0
  pass-stand false u g h = h

  pass-operation : (v : ℕ) (xs : Operands) (u : SsaUnit) (g : Repeating)
      → Pass ((take_operand ssa v xs.third (take_operand ssa v xs.second (take_operand ssa v xs.first g).after).after).after.units ++ u ∷ [])
      → Pass g.units × Rereads v xs.first × Rereads v xs.second × Rereads v xs.third
  pass-operation v xs u g h =
      let a = take_operand ssa v xs.first g in
      let b = take_operand ssa v xs.second a.after in
      let c = take_operand ssa v xs.third b.after in
      let hc = (pass-front c.after.units u h).0 in
      let hb = pass-operand v xs.third b.after hc in
      let ha = pass-operand v xs.second a.after hb in
      (pass-operand v xs.first g ha, rereads v xs.first g ha, rereads v xs.second a.after hb, rereads v xs.third b.after hc)

  -- what a unit's place among the repeated units shows
  abbrev Covers : ℕ → SsaUnit → Type 0
  Covers v (Load a w) = load_stays ssa v ≡ true → p (Load a w) ≡ true
  Covers v (Store a w x) = (p (Store a w x) ≡ true) × Rereads v x
  Covers v (Operation op w k xs) = source_of ssa v ≡ None → Rereads v xs.first × Rereads v xs.second × Rereads v xs.third

  pass-other : (v : ℕ) (u : SsaUnit) (g : Repeating) → Pass (repeat_other ssa v u g).units → Pass g.units × Covers v u
  pass-other v (Load a w) g h =
      (pass-stand (load_stays ssa v) (Load a w) g h, λ s. (pass-front g.units (Load a w) (subst (λ b. Pass (stand_source b (Load a w) g).units) s h)).1)
  pass-other v (Store a w x) g h =
      let c = take_operand ssa v x g in
      let both = pass-front c.after.units (Store a w c.value) h in
      (pass-operand v x g both.0, (each_store a w x c.value ∙ both.1, rereads v x g both.0))
  pass-other v (Operation op w k xs) g h = let all = pass-operation v xs _ g h in (all.0, λ none. (all.1, all.2, all.3))

  pass-by : (v : ℕ) (u : SsaUnit) (o : Option ℕ) (g : Repeating) → Pass (repeat_by ssa v u o g).units → Pass g.units
  pass-by v u None g h = (pass-other v u g h).0
  pass-by v u (Some l) g h = elim (cases_Bool (nat_eq v l)) [
    | inl c ↦ (pass-other v u g (subst (λ (t : Repeating). Pass t.units) (cond-true (nat_eq v l) (repeat_other ssa v u g) _ c) h)).0
    | inr c ↦ pass-stand (is_needed ssa v) _ g (subst (λ (t : Repeating). Pass t.units) (cond-false (nat_eq v l) (repeat_other ssa v u g) _ c) h)
  ]

  covers : (v : ℕ) (u : SsaUnit) (g : Repeating) → unit_at ssa v ≡ Some u → Pass (repeat_by ssa v u (source_of ssa v) g).units → Covers v u
  covers v (Load a w) g is h =
      let here : source_of ssa v ≡ Some v = load-source ssa v (record { address = a; width = w; unit = is }) in
      let made : repeat_by ssa v (Load a w) (source_of ssa v) g ≡ repeat_other ssa v (Load a w) g =
      ap (λ o. repeat_by ssa v (Load a w) o g) here ∙ cond-true (nat_eq v v) (repeat_other ssa v (Load a w) g) _ (eq-eqb v v refl) in
      (pass-other v (Load a w) g (subst (λ (t : Repeating). Pass t.units) made h)).1
  covers v (Store a w x) g is h =
      let none : source_of ssa v ≡ None = ap (λ o. o >>= source_by ssa v) is in
      (pass-other v (Store a w x) g (subst (λ o. Pass (repeat_by ssa v (Store a w x) o g).units) none h)).1
  covers v (Operation op w k xs) g is h = λ none. (pass-other v (Operation op w k xs) g (subst (λ o. Pass (repeat_by ssa v (Operation op w k xs) o g).units) none h)).1 none

  pass-before : (v : ℕ) (us : List SsaUnit) (g : Repeating) → Pass (repeat_units ssa v us g).units → Pass g.units
  pass-before v [] g h = h
  pass-before v (u ∷ us) g h = pass-by v u (source_of ssa v) g (pass-before (v + 1) us (repeat_by ssa v u (source_of ssa v) g) h)

  all-cover : (v : ℕ) (us : List SsaUnit) (g : Repeating) → AreFrom ssa v us → Pass (repeat_units ssa v us g).units → (j : ℕ) (u : SsaUnit) → slice_get us j ≡ Some u → Covers (v + j) u
  all-cover v [] g from h j u e = absurd (cc)
  all-cover v (x ∷ us) g from h zero u e =
      let same : x ≡ u = cc in
      let at : v ≡ v + 0 = omega arith in
      subst (λ n. Covers n u) at (subst (Covers v) same (covers v x g (from-here ssa v x us from) (pass-before (v + 1) us (repeat_by ssa v x (source_of ssa v) g) h)))
  all-cover v (x ∷ us) g from h (suc j) u e =
      let at : v + 1 + j ≡ v + suc j = omega arith in
      subst (λ n. Covers n u) at (all-cover (v + 1) us (repeat_by ssa v x (source_of ssa v) g) (from-next ssa v x us from) h j u e)

  -- ---- loads that are gone

  is-source : (l : ℕ) (o : Option ℕ) → is_number l o ≡ true → o ≡ Some l
  is-source l None e = absurd (true≢false (sym e))
  is-source l (Some x) e = ap Some (eqb-true x l e)

  no-source : (o : Option ℕ) → not (is_some o) ≡ true → o ≡ None
  no-source None e = refl
  no-source (Some x) e = absurd (true≢false (sym e))

  from-not : (b : Bool) → not b ≡ false → b ≡ true
  from-not true e = refl
  from-not false e = absurd (true≢false e)

  among : (user y l : ℕ) (xs : Operands) → Rereads user xs.first × Rereads user xs.second × Rereads user xs.third → is_among y xs ≡ true → source_of ssa y ≡ Some l → is_free ssa user y ≡ true → p (unit_or (unit_at ssa l)) ≡ true
  among user y l xs h e source free = elim (or_cases (is_value y xs.first) (is_value y xs.second || is_value y xs.third) e) [
    | inl a ↦ h.0 y l a source free
    | inr b ↦ elim (or_cases (is_value y xs.second) (is_value y xs.third) b) [
      | inl a ↦ h.1 y l a source free
      | inr c ↦ h.2 y l c source free
    ]
  ]

  by-use : (user y l : ℕ) (u : SsaUnit) → Covers user u → source_of ssa user ≡ None → uses_value y u ≡ true → source_of ssa y ≡ Some l → is_free ssa user y ≡ true → p (unit_or (unit_at ssa l)) ≡ true
  by-use user y l (Load a w) h none e source free = absurd (true≢false (sym e))
  by-use user y l (Store a w x) h none e source free = h.1 y l e source free
  by-use user y l (Operation op w k xs) h none e source free = among user y l xs (h none) e source free

  user-unit : (user y : ℕ) (o : Option SsaUnit) → unit_at ssa user ≡ o → option_map_or (uses_value y) o false ≡ true → (u : SsaUnit) × (unit_at ssa user ≡ Some u) × (uses_value y u ≡ true)
  user-unit user y None e h = absurd (true≢false (sym h))
  user-unit user y (Some u) e h = (u, e, h)

  module _ (cover : (v : ℕ) (u : SsaUnit) → unit_at ssa v ≡ Some u → Covers v u) where
    gone-load : (l : ℕ) → load_stays ssa l ≡ false → p (unit_or (unit_at ssa l)) ≡ true
    gone-load l gone =
        let parts = or_parts (list_any (λ v. is_number l (source_of ssa v) && is_needed ssa v) (unit_list ssa)) (not (is_read ssa l)) gone in
        let read = some-passes (λ v. is_number l (source_of ssa v) && list_any (λ user. takes ssa user v) (unit_list ssa)) (arguments ssa) _ (from-not (is_read ssa l) parts.1) in
        let y = read.number in
        let both = and_parts (is_number l (source_of ssa y)) (list_any (λ user. takes ssa user y) (unit_list ssa)) read.passes in
        let source = is-source l (source_of ssa y) both.0 in
        let used = some-passes (λ user. takes ssa user y) (arguments ssa) _ both.1 in
        let user = used.number in
        let held : is_needed ssa y ≡ false =
        right-false (is_number l (source_of ssa y)) (is_needed ssa y) both.0 (none-from (λ v. is_number l (source_of ssa v) && is_needed ssa v) (arguments ssa) _ y parts.0 read.low read.high) in
        let free : is_free ssa user y ≡ true =
        from-not (is_free ssa user y) (right-false (takes ssa user y) (not (is_free ssa user y)) used.passes (none-from (λ x. takes ssa x y && not (is_free ssa x y)) (arguments ssa) _ user held used.low used.high)) in
        let uses = and_parts (not (is_some (source_of ssa user))) (uses_at ssa user y) used.passes in
        let at = user-unit user y (unit_at ssa user) refl uses.1 in
        by-use user y l at.0 (cover user at.0 at.1) (no-source (source_of ssa user) uses.0) at.2 source free
      where
        right-false : (a b : Bool) → a ≡ true → (a && b) ≡ false → b ≡ false
        right-false a b t e = elim (and_cases a b e) [ inl f ↦ absurd (true≢false (sym t ∙ f)) | inr f ↦ f ]

    unit-passes : (v : ℕ) (u : SsaUnit) → unit_at ssa v ≡ Some u → p u ≡ true
    unit-passes v (Load a w) is = elim (cases_Bool (load_stays ssa v)) [
      | inl c ↦ cover v (Load a w) is c
      | inr c ↦ sym (ap (λ o. p (unit_or o)) is) ∙ gone-load v c
    ]
    unit-passes v (Store a w x) is = (cover v (Store a w x) is).0
    unit-passes v (Operation op w k xs) is = each_operation op w k xs

  all-pass : (v : ℕ) (us : List SsaUnit) → AreFrom ssa v us → ((n : ℕ) (u : SsaUnit) → unit_at ssa n ≡ Some u → p u ≡ true) → Pass us
  all-pass v [] from h = refl
  all-pass v (u ∷ us) from h = and_from (p u) (list_all p us) (h v u (from-here ssa v u us from)) (all-pass (v + 1) us (from-next ssa v u us from) h)

  cover-at : (g : Repeating) → AreFrom ssa (arguments ssa) ssa.units → Pass (repeat_units ssa (arguments ssa) ssa.units g).units → (v : ℕ) (u : SsaUnit) → unit_at ssa v ≡ Some u → Covers v u
  cover-at g from h v u e =
      let inside = unit-inside ssa v u e in
      let low = inside.low in
      let here : arguments ssa + (v - arguments ssa) ≡ v = omega arith in
      subst (λ n. Covers n u) here (all-cover (arguments ssa) ssa.units g from h (v - arguments ssa) u (from (v - arguments ssa) ∙ ap (unit_at ssa) here ∙ e))

  -- what holds of each repeated unit holds of each given one
  pub given-pass : (g : Repeating) → AreFrom ssa (arguments ssa) ssa.units → Pass (repeat_units ssa (arguments ssa) ssa.units g).units → Pass ssa.units
  given-pass g from h = all-pass (arguments ssa) ssa.units from (unit-passes (cover-at g from h))
