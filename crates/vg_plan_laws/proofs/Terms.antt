-- The terms of a sound kernel: that each value has one, of the value's width, and their numbers in
-- a run.
use Rattle.std.proofs.Common.{◌≡◌, ℕ, zero, suc, ◌+◌, ◌-◌, ◌%◌, ◌^◌, ◌<◌, false, List, [], ◌∷◌, length, take, drop, Option, Some, None, refl, sym, ap, subst, ◌∙◌, ◌⊎◌, inl, inr, arith}
use Rattle.std.specs.Prelude.{slice_get, slice_index}
use Rattle.std.specs.List.{AllByRecursion}
use Rattle.std.specs.Option.{option_map}
use Rattle.std.proofs.lemmas.Bool.{cases_lt, cond-false, cond-true, le-ltb, lt-ltb}
use Rattle.std.proofs.lemmas.List.{length_push}
use Rattle.std.proofs.lemmas.Nat.{pow_pos}
use Rattle.std.proofs.lemmas.Option.{none-some}
use Rattle.vg_base.specs.Address.{place_of}
use Rattle.vg_base.specs.Bits.{bytes}
use Rattle.vg_base.specs.Memory.{loaded, stored}
use Rattle.vg_base.specs.Trap.{◌>>=◌}
use Rattle.vg_base.specs.Width.{bits_of, size_of}
use Rattle.vg_terms.specs.declared.term.LeafKey.{LeafKey}
use Rattle.vg_terms.specs.declared.value.Env.{Env}
use Rattle.vg_terms.specs.Root.{is_constant}
use Rattle.vg_terms.specs.Term.{Tree, leaf, width_of}
use Rattle.vg_terms.specs.Value.{number_at, value}
use Rattle.vg_terms.proofs.Values.{value-below}
use Rattle.vg_shapes.specs.declared.ssa.Ssa.{Ssa}
use Rattle.vg_shapes.specs.declared.ssa.SsaParam.{SsaParam}
use Rattle.vg_shapes.specs.declared.ssa_unit.SsaUnit.{SsaUnit}
use Rattle.vg_shapes.specs.declared.ssa_unit.SsaUnit.TheVariants.{Load, Store, Operation}
use Rattle.vg_shapes.specs.RunUnits.{number_of, Reached, run_units, unit_run}
use Rattle.vg_shapes.specs.Sound.{argument_key, IsSound, IsUnit, IsUnitTerm, kind_bits, load_key, result_bits, term_at, terms_of, unit_bits, value_bits}
use Rattle.vg_shapes.specs.Units.{arguments, integers, unit_at}
use Rattle.vg_shapes.proofs.ValueTerms.{argument-has, drop-got, get-there, IsArgumentTerm, IsWorkTerm, known, known-width, take-got, unit-above, unit-has}

pub term-known : (ssa : Ssa) (v : ℕ) (t : Tree) → IsSound ssa → term_at ssa v ≡ Some t
    → IsArgumentTerm ssa v t ⊎ IsWorkTerm ssa v t
term-known ssa v t sound e =
    known ssa (terms_of ssa) sound.argument_terms sound.unit_terms v t e

pub term-low : (ssa : Ssa) (v : ℕ) (t : Tree) → IsSound ssa → term_at ssa v ≡ Some t
    → v < arguments ssa + length ssa.units
term-low ssa v t sound e = elim (term-known ssa v t sound e) [
  | inl a ↦ (let low = a.1 in omega arith)
  | inr u ↦ (unit-above ssa v u.0 u.1).1
]

-- ---- widths

-- a term that is no constant is as wide as its value
pub term-width : (ssa : Ssa) (v : ℕ) (t : Tree) → IsSound ssa → term_at ssa v ≡ Some t
    → is_constant t ≡ false → value_bits ssa v ≡ Some (width_of t)
term-width ssa v t sound e c =
    known-width ssa (terms_of ssa) sound.argument_terms sound.unit_terms v t e c

work-there : (v w : ℕ) (u : SsaUnit) (t : Tree) → IsUnitTerm v u t → unit_bits u ≡ Some w
    → width_of t ≡ w
work-there v w (Load a x) t is e = ap width_of is ∙ (let same : bits_of x ≡ w = cc in same)
work-there v w (Store a x y) t is e = absurd (none-some w e)
work-there v w (Operation op x k xs) t is e = is.1 ∙ (let same : result_bits op x ≡ w = cc in same)

pub went : {A B : Type 0} (o : Option A) (f : A → Option B) (y : B) → (o >>= f) ≡ Some y
    → (x : A) × (o ≡ Some x) × (f x ≡ Some y)
went (Some x) f y e = (x, refl, e)
went None f y e = cc

-- a value of a width has a term of that width
pub value-term : (ssa : Ssa) (v w : ℕ) → IsSound ssa → value_bits ssa v ≡ Some w
    → (t : Tree) × (term_at ssa v ≡ Some t) × (width_of t ≡ w)
value-term ssa v w sound e = elim (cases_lt v (arguments ssa)) [
  | inl below ↦
      let bits : option_map (λ (p : SsaParam). kind_bits p.kind)
      (slice_get (integers ssa) v) ≡ Some w = sym
      (cond-true _ _ _ (lt-ltb v (arguments ssa) below)) ∙ e in
      let p = get-there (integers ssa) v below in
      let wide : Some (kind_bits p.0.kind) ≡ Some w =
      sym (ap (option_map (λ (q : SsaParam). kind_bits q.kind)) p.1) ∙ bits in
      let same : kind_bits p.0.kind ≡ w = cc in
      let t =
      argument-has 0 v (integers ssa)
      (take (arguments ssa) (terms_of ssa)) p.0 sound.argument_terms p.1 in
      (t.0, take-got (arguments ssa) v (terms_of ssa) t.0 t.1, t.2 ∙ same)
  | inr above ↦
      let u =
      went (unit_at ssa v) unit_bits w
      (sym (cond-false _ _ _ (le-ltb v (arguments ssa) above)) ∙ e) in
      let at : slice_get ssa.units (v - arguments ssa) ≡ Some u.0 =
      sym (cond-false _ _ _ (le-ltb v (arguments ssa) above)) ∙ u.1 in
      let t =
      unit-has (arguments ssa) (v - arguments ssa) ssa.units
      (drop (arguments ssa) (terms_of ssa)) u.0 sound.unit_terms at in
      let here : arguments ssa + (v - arguments ssa) ≡ v = omega arith in (
        t.0,
        subst (λ n. term_at ssa n
            ≡ Some t.0) here (drop-got (arguments ssa) (v - arguments ssa)
            (terms_of ssa) t.0 t.1),
        work-there _ w u.0 t.0 t.2 u.2,
      )
]

-- ---- numbers

leaf-below : (env : Env) (t : Tree) (w : ℕ) (k : LeafKey) → t ≡ leaf w k
    → value env t < 2 ^ width_of t
leaf-below env t w k e =
    let some = pow_pos w in
    let below : number_at env.pairs k % 2 ^ w < 2 ^ w = omega arith in
    subst (λ s. value env s < 2 ^ width_of s) (sym e) below

work-below : (env : Env) (v : ℕ) (u : SsaUnit) (t : Tree) → IsUnitTerm v u t
    → value env t < 2 ^ width_of t
work-below env v (Load a w) t is = leaf-below env t (bits_of w) (load_key a v) is
work-below env v (Store a w x) t is =
    let low : 0 < 2 ^ 8 = omega arith in subst (λ s. value env s < 2 ^ width_of s) (sym is) low
work-below env v (Operation op w k xs) t is = value-below env t is.0

term-below : (env : Env) (ssa : Ssa) (v : ℕ) (t : Tree) → IsSound ssa → term_at ssa v ≡ Some t
    → value env t < 2 ^ width_of t
term-below env ssa v t sound e = elim (term-known ssa v t sound e) [
  | inl a ↦ leaf-below env t (kind_bits a.0.kind) (argument_key v) a.3
  | inr u ↦ work-below env v u.0 t u.2
]

-- a number below 2 to its width stands for each value whose term has it
pub value-fits : (env : Env) (ssa : Ssa) (v w n : ℕ) (t : Tree) → IsSound ssa
    → term_at ssa v ≡ Some t → width_of t ≡ w → value env t ≡ n → n < 2 ^ w
value-fits env ssa v w n t sound at wide is =
    let below = term-below env ssa v t sound at in
    subst (λ m. m < 2 ^ w) is (subst (λ m. value env t < 2 ^ m) wide below)

-- ---- how many numbers a run gives

unit-longer : (places : List ℕ) (u : SsaUnit) (r t : Reached) → unit_run places u r ≡ Some t
    → length t.numbers ≡ length r.numbers + 1
unit-longer places (Load a w) r t e =
    let x = went (loaded r.memory (place_of places a) (size_of w)) _ t e in
    let same : Some _ ≡ Some t = x.2 in
    (let is = some-is _ t same in ap (λ (q : Reached). length q.numbers) (sym is)
    ∙ length_push r.numbers _)
  where
    some-is : (x y : Reached) → Some x ≡ Some y → x ≡ y
    some-is x y e = cc
unit-longer places (Store a w x) r t e =
    let y =
    went (stored r.memory (place_of places a)
    (bytes (size_of w) (number_of (slice_index r.numbers) x))) _ t e in
    (let is = some-is _ t y.2 in ap (λ (q : Reached). length q.numbers) (sym is)
    ∙ length_push r.numbers 0)
  where
    some-is : (x y : Reached) → Some x ≡ Some y → x ≡ y
    some-is x y e = cc
unit-longer places (Operation op w k xs) r t e =
    (let is = some-is _ t e in ap (λ (q : Reached). length q.numbers) (sym is)
    ∙ length_push r.numbers _)
  where
    some-is : (x y : Reached) → Some x ≡ Some y → x ≡ y
    some-is x y e = cc

pub run-long : (places : List ℕ) (us : List SsaUnit) (r t : Reached) → run_units places us r ≡ Some t
    → length t.numbers ≡ length r.numbers + length us
unfolding run_units
run-long places [] r t e =
    let same : r ≡ t = cc in
    let none : length r.numbers ≡ length r.numbers + 0 = omega arith in
    ap (λ (q : Reached). length q.numbers) (sym same) ∙ none
run-long places (u ∷ us) r t e =
    let mid = went (unit_run places u r) (run_units places us) t e in
    let one = unit-longer places u r mid.0 mid.1 in
    let rest = run-long places us mid.0 t mid.2 in
    omega arith

-- ---- units

pub unit-is : (ssa : Ssa) (v : ℕ) (u : SsaUnit) → AllByRecursion (IsUnit ssa) ssa.units
    → unit_at ssa v ≡ Some u → IsUnit ssa u
unit-is ssa v u all e =
    from ssa.units (v - arguments ssa) all
    (sym (cond-false _ _ _ (le-ltb v (arguments ssa) (unit-above ssa v u e).0)) ∙ e)
  where
    from : (us : List SsaUnit) (k : ℕ) → AllByRecursion (IsUnit ssa) us → slice_get us k ≡ Some u
        → IsUnit ssa u
    from [] k h g = absurd (none-some u g)
    from (x ∷ us) zero h g = let same : x ≡ u = cc in subst (IsUnit ssa) same h.0
    from (x ∷ us) (suc k) h g = from us k h.1 g
