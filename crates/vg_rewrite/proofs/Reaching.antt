-- Forms hold in each run.
use Rattle.std.proofs.Common.{◌≡◌, ℕ, zero, suc, ◌+◌, ◌-◌, ◌<◌, false, List, [], ◌∷◌, ◌++◌, length, take, drop, Option, Some, None, refl, sym, ap, ◌∙◌, subst, arith, inl, inr}
use Rattle.std.specs.Prelude.{nat_lt, slice_get, slice_index}
use Rattle.std.specs.List.{AllByRecursion}
use Rattle.std.specs.Option.{option_map}
use Rattle.std.proofs.lemmas.Bool.{cases_Bool, cond-false, cond-true, ltb-false}
use Rattle.std.proofs.lemmas.List.{length-append, take-append-drop}
use Rattle.vg_base.specs.Trap.{◌>>=◌}
use Rattle.vg_base.specs.declared.width.Width.{Width}
use Rattle.vg_base.specs.Width.{bits_of}
use Rattle.vg_rewrite.specs.Form.{operation_form, value_form}
use Rattle.vg_rewrite.specs.Laws.{BitFormsHold, form_number, FormsHold, number_by}
use Rattle.vg_rewrite.proofs.AtUnits.{operation-at, span-of-unit}
use Rattle.vg_rewrite.proofs.FormsHold.{bit-row, Given, value-row}
use Rattle.vg_shapes.specs.declared.ssa.Ssa.{Ssa}
use Rattle.vg_shapes.specs.declared.ssa_unit.Operands.{Operands}
use Rattle.vg_shapes.specs.declared.ssa_unit.Operator.{Operator}
use Rattle.vg_shapes.specs.declared.ssa_unit.Operator.TheVariants.{Compare}
use Rattle.vg_shapes.specs.declared.ssa_unit.SsaUnit.{SsaUnit}
use Rattle.vg_shapes.specs.declared.ssa_unit.SsaUnit.TheVariants.{Load, Store, Operation}
use Rattle.vg_shapes.specs.RunUnits.{result_of, start_of}
use Rattle.vg_shapes.specs.Sound.{AreArguments, IsSound, IsUnit, kind_bits, TakeEarlier, TakesEarlier, unit_bits, value_bits}
use Rattle.vg_shapes.specs.Units.{arguments, integers, unit_at}
use Rattle.vg_spans.specs.Laws.{span_at}
use Rattle.vg_spans.specs.Spans.{argument_spans, spans_of, unit_span}
use Rattle.vg_shapes.specs.declared.wanted.Wanted.TheVariants.{Value}
use Rattle.vg_spans.proofs.Holding.{Holds}
use Rattle.vg_spans.proofs.Given.{AreGiven, given-long, run-given}
use Rattle.vg_spans.proofs.Runs.{arguments-long, begun-hold, front-hold}

-- ---- a unit among units

pub all-at : {A : Type 0} (P : A → Type 0) (us : List A) (j : ℕ) (u : A) → AllByRecursion P us → slice_get us j ≡ Some u → P u
all-at P [] j u h e = absurd (cc)
all-at P (x ∷ us) zero u h e = let same : x ≡ u = cc in subst P same h.0
all-at P (x ∷ us) (suc j) u h e = all-at P us j u h.1 e

pub earlier-at : (n : ℕ) (us : List SsaUnit) (j : ℕ) (u : SsaUnit) → TakeEarlier n us → slice_get us j ≡ Some u → TakesEarlier (n + j) u
earlier-at n [] j u h e = absurd (cc)
earlier-at n (x ∷ us) zero u h e =
    let same : x ≡ u = cc in
    let at : n ≡ n + 0 = omega arith in
    subst (λ m. TakesEarlier m u) at (subst (TakesEarlier n) same h.0)
earlier-at n (x ∷ us) (suc j) u h e =
    let at : n + 1 + j ≡ n + suc j = omega arith in
    subst (λ m. TakesEarlier m u) at (earlier-at (n + 1) us j u h.1 e)

earlier-take : (n k : ℕ) (us : List SsaUnit) → TakeEarlier n us → TakeEarlier n (take k us)
earlier-take n zero us h = tt
earlier-take n (suc k) [] h = tt
earlier-take n (suc k) (u ∷ us) h = (h.0, earlier-take (n + 1) k us h.1)

get-take : (k : ℕ) (us : List SsaUnit) (j : ℕ) (u : SsaUnit) → j < length (take k us) → slice_get us j ≡ Some u → slice_get (take k us) j ≡ Some u
get-take zero us j u l e = absurd (omega arith)
get-take (suc k) [] j u l e = absurd (omega arith)
get-take (suc k) (x ∷ us) zero u l e = e
get-take (suc k) (x ∷ us) (suc j) u l e = get-take k us j u (omega arith) e

-- ---- what is known of a unit where a run of the first units reaches its value

pub record Reaches (ssa : Ssa) (v : ℕ) (u : SsaUnit) : Type 0 where
  pub past : nat_lt v (arguments ssa) ≡ false
  pub at : slice_get ssa.units (v - arguments ssa) ≡ Some u
  pub number : arguments ssa + (v - arguments ssa) ≡ v

pub reaches : (ssa : Ssa) (v : ℕ) (u : SsaUnit) → unit_at ssa v ≡ Some u → Reaches ssa v u
reaches ssa v u e = elim (cases_Bool (nat_lt v (arguments ssa))) [
  | inl c ↦ absurd (let none : None ≡ Some u = sym (cond-true (nat_lt v (arguments ssa)) None (slice_get ssa.units (v - arguments ssa)) c) ∙ e in cc)
  | inr c ↦ record {
    past = c;
    at = sym (cond-false (nat_lt v (arguments ssa)) None (slice_get ssa.units (v - arguments ssa)) c) ∙ e;
    number = (let l = ltb-false v (arguments ssa) c in omega arith);
  }
]

module _ (ssa : Ssa) (sound : IsSound ssa) (args : List ℕ) (fit : AreArguments (integers ssa) args) (k : ℕ) (more : List ℕ) (given : AreGiven args (take k ssa.units) more) where
  count : length args ≡ arguments ssa
  count = arguments-long (integers ssa) args fit

  unit-number : (v : ℕ) (op : Operator) (w : Width) (n : ℕ) (xs : Operands) → v < length (args ++ more) → Reaches ssa v (Operation op w n xs)
      → slice_index (args ++ more) v ≡ result_of (slice_index (args ++ more)) op (bits_of w) n xs
  unit-number v op w n xs l r =
      let first = count in
      let all = length-append args more in
      let long = given-long args (take k ssa.units) more given in
      let number = r.number in
      let past = ltb-false v (arguments ssa) r.past in
      let inside : v - arguments ssa < length (take k ssa.units) = omega arith in
      let here : length args + (v - arguments ssa) ≡ v = omega arith in
      ap (slice_index (args ++ more)) (sym here)
      ∙ operation-at args (take k ssa.units) more (v - arguments ssa) op w n xs given (subst (λ m. TakeEarlier m (take k ssa.units)) (sym first) (earlier-take (arguments ssa) k ssa.units sound.earlier))
      (get-take k ssa.units (v - arguments ssa) (Operation op w n xs) inside r.at)

  pub unit-span-at : (v : ℕ) (u : SsaUnit) → Reaches ssa v u → span_at ssa v ≡ unit_span (spans_of ssa) u
  unit-span-at v u r =
      let begun = begun-hold ssa args fit in
      let first = begun.long ∙ count in
      let here : length (argument_spans ssa.params) + (v - arguments ssa) ≡ v = (let n = r.number in omega arith) in
      ap (span_at ssa) (sym here) ∙ span-of-unit (argument_spans ssa.params) ssa.units (v - arguments ssa) u (subst (λ m. TakeEarlier m ssa.units) (sym first) sound.earlier) r.at

  pub unit-takes : (v : ℕ) (u : SsaUnit) → Reaches ssa v u → TakesEarlier v u
  unit-takes v u r = subst (λ m. TakesEarlier m u) r.number (earlier-at (arguments ssa) ssa.units (v - arguments ssa) u sound.earlier r.at)

  pub unit-is : (v : ℕ) (u : SsaUnit) → Reaches ssa v u → IsUnit ssa u
  unit-is v u r = all-at (IsUnit ssa) ssa.units (v - arguments ssa) u sound.units r.at

  pub unit-width : (v : ℕ) (u : SsaUnit) → Reaches ssa v u → unit_at ssa v ≡ Some u → value_bits ssa v ≡ unit_bits u
  unit-width v u r e =
      cond-false (nat_lt v (arguments ssa)) (option_map (λ p. kind_bits p.kind) (slice_get (integers ssa) v)) (unit_at ssa v >>= unit_bits) r.past ∙ ap (λ o. o >>= unit_bits) e

  known : (v w : ℕ) (unit : Option SsaUnit) → v < length (args ++ more) → value_bits ssa v ≡ Some w → unit_at ssa v ≡ unit
      → Given ssa (args ++ more) (λ x m l e. front-hold ssa (take k ssa.units) (drop k ssa.units) args more sound (take-append-drop k ssa.units) fit given x m l e) v unit
  known v w None l b e = tt
  known v w (Some (Load a m)) l b e = tt
  known v w (Some (Store a m y)) l b e =
      let r = reaches ssa v (Store a m y) e in
      let none : None ≡ Some w = sym (unit-width v (Store a m y) r e) ∙ b in
      absurd (cc)
  known v w (Some (Operation op m n xs)) l b e =
      let u = Operation op m n xs in
      let r = reaches ssa v u e in
      (unit-takes v u r, unit-is v u r, unit-number v op m n xs l r, unit-span-at v u r, unit-width v u r e)

pub forms-hold : FormsHold
forms-hold ssa places memory args k r sound bytes fit run v own w l e =
    let g = run-given places (take k ssa.units) (start_of memory args) r bytes run in
    let hold : (x m : ℕ) → x < length (args ++ g.more) → value_bits ssa x ≡ Some m → Holds m (span_at ssa x) (slice_index (args ++ g.more) x) =
    λ x m l e. front-hold ssa (take k ssa.units) (drop k ssa.units) args g.more sound (take-append-drop k ssa.units) fit g.are x m l e in
    let inside = subst (λ ns. v < length ns) g.split l in
    subst (λ ns. number_by ssa ns v w (value_form (spans_of ssa) v (unit_at ssa v) own w) ≡ form_number ssa ns (bits_of w) (Value v)) (sym g.split)
    (value-row ssa (args ++ g.more) hold v (unit_at ssa v) own w inside e (known ssa sound args fit k g.more g.are v (bits_of own) (unit_at ssa v) inside e refl))

pub bit-forms-hold : BitFormsHold
bit-forms-hold ssa places memory args k r sound bytes fit run v op own w n xs l e =
    let g = run-given places (take k ssa.units) (start_of memory args) r bytes run in
    let hold : (x m : ℕ) → x < length (args ++ g.more) → value_bits ssa x ≡ Some m → Holds m (span_at ssa x) (slice_index (args ++ g.more) x) =
    λ x m l e. front-hold ssa (take k ssa.units) (drop k ssa.units) args g.more sound (take-append-drop k ssa.units) fit g.are x m l e in
    let inside = subst (λ ns. v < length ns) g.split l in
    let u = Operation (Compare op) own n xs in
    let reach = reaches ssa v u e in
    subst (λ ns. number_by ssa ns v w (operation_form (spans_of ssa) (Compare op) own n xs w) ≡ slice_index ns v) (sym g.split)
    (bit-row ssa (args ++ g.more) hold v op own w n xs (omega arith) (unit-takes ssa sound args fit k g.more g.are v u reach) (unit-is ssa sound args fit k g.more g.are v u reach)
    ∙ sym (unit-number ssa sound args fit k g.more g.are v (Compare op) own n xs inside reach))
