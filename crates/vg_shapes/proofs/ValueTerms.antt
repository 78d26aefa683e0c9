-- Lists of terms of values: each is that of a parameter, or that of a unit.
use Rattle.std.proofs.Common.{◌≡◌, ℕ, zero, suc, ◌+◌, ◌-◌, ◌<◌, ◌≤◌, false, List, [], ◌∷◌, length, take, drop, Some, None, refl, sym, ap, subst, ◌∙◌, ◌⊎◌, inl, inr, arith}
use Rattle.std.specs.Prelude.{slice_get}
use Rattle.std.specs.Option.{option_map}
use Rattle.std.proofs.lemmas.Bool.{cases_lt, cond-false, cond-true, le-ltb, lt-ltb}
use Rattle.std.proofs.lemmas.Option.{none-some}
use Rattle.vg_base.specs.Trap.{◌>>=◌}
use Rattle.vg_terms.specs.Root.{is_constant}
use Rattle.vg_terms.specs.Term.{Tree, leaf, width_of}
use Rattle.vg_shapes.specs.declared.ssa.Ssa.{Ssa}
use Rattle.vg_shapes.specs.declared.ssa.SsaParam.{SsaParam}
use Rattle.vg_shapes.specs.declared.ssa_unit.SsaUnit.{SsaUnit}
use Rattle.vg_shapes.specs.declared.ssa_unit.SsaUnit.TheVariants.{Load, Store, Operation}
use Rattle.vg_shapes.specs.Sound.{argument_key, AreArgumentTerms, AreUnitTerms, IsUnitTerm, kind_bits, unit_bits, value_bits}
use Rattle.vg_shapes.specs.Units.{arguments, integers, unit_at}

-- ---- members by number

pub take-get : {X : Type 0} (n k : ℕ) (xs : List X) (x : X) → k < n → slice_get xs k ≡ Some x
    → slice_get (take n xs) k ≡ Some x
take-get zero k xs x l e = absurd (omega arith)
take-get (suc n) k [] x l e = cc
take-get (suc n) zero (y ∷ xs) x l e = e
take-get (suc n) (suc k) (y ∷ xs) x l e = take-get n k xs x (omega arith) e

pub take-got : {X : Type 0} (n k : ℕ) (xs : List X) (x : X) → slice_get (take n xs) k ≡ Some x
    → slice_get xs k ≡ Some x
take-got zero k xs x e = cc
take-got (suc n) k [] x e = e
take-got (suc n) zero (y ∷ xs) x e = e
take-got (suc n) (suc k) (y ∷ xs) x e = take-got n k xs x e

pub drop-get : {X : Type 0} (n k : ℕ) (xs : List X) (x : X) → n ≤ k → slice_get xs k ≡ Some x
    → slice_get (drop n xs) (k - n) ≡ Some x
drop-get zero k xs x l e =
    let same : k ≡ k - 0 = omega arith in subst (λ m. slice_get xs m ≡ Some x) same e
drop-get (suc n) k [] x l e = cc
drop-get (suc n) zero (y ∷ xs) x l e = absurd (omega arith)
drop-get (suc n) (suc k) (y ∷ xs) x l e =
    let same : k - n ≡ suc k - suc n = omega arith in
    subst (λ m. slice_get (drop n xs) m ≡ Some x) same (drop-get n k xs x (omega arith) e)

pub drop-got : {X : Type 0} (n k : ℕ) (xs : List X) (x : X) → slice_get (drop n xs) k ≡ Some x
    → slice_get xs (n + k) ≡ Some x
drop-got zero k xs x e =
    let same : k ≡ 0 + k = omega arith in subst (λ m. slice_get xs m ≡ Some x) same e
drop-got (suc n) k [] x e = cc
drop-got (suc n) k (y ∷ xs) x e =
    let same : suc (n + k) ≡ suc n + k = omega arith in
    subst (λ m. slice_get (y ∷ xs) m ≡ Some x) same (drop-got n k xs x e)

pub get-low : {X : Type 0} (xs : List X) (k : ℕ) (x : X) → slice_get xs k ≡ Some x → k < length xs
get-low [] k x e = cc
get-low (y ∷ xs) zero x e = omega arith
get-low (y ∷ xs) (suc k) x e = let rest = get-low xs k x e in omega arith

pub get-there : {X : Type 0} (xs : List X) (k : ℕ) → k < length xs → (x : X) × (slice_get xs k ≡ Some x)
get-there [] k l = absurd (omega arith)
get-there (x ∷ xs) zero l = (x, refl)
get-there (x ∷ xs) (suc k) l = get-there xs k (omega arith)

-- ---- arguments and units, and their terms

pub argument-term : (v k : ℕ) (ps : List SsaParam) (ts : List Tree) (t : Tree)
    → AreArgumentTerms v ps ts → slice_get ts k ≡ Some t
    → (p : SsaParam) × (slice_get ps k ≡ Some p)
    × (t ≡ leaf (kind_bits p.kind) (argument_key (v + k)))
argument-term v k [] ts t are e = absurd (none-some t (subst (λ l. slice_get l k ≡ Some t) are e))
argument-term v k (p ∷ ps) [] t are e = absurd are
argument-term v zero (p ∷ ps) (u ∷ ts) t are e =
    let same : t ≡ u = cc in
    let here : v ≡ v + 0 = omega arith in
    (p, refl, same ∙ are.0 ∙ ap (λ n. leaf (kind_bits p.kind) (argument_key n)) here)
argument-term v (suc k) (p ∷ ps) (u ∷ ts) t are e =
    let rest = argument-term (v + 1) k ps ts t are.1 e in
    let next : v + 1 + k ≡ v + suc k = omega arith in
    (rest.0, rest.1, rest.2 ∙ ap (λ n. leaf (kind_bits rest.0.kind) (argument_key n)) next)

pub argument-has : (v k : ℕ) (ps : List SsaParam) (ts : List Tree) (p : SsaParam)
    → AreArgumentTerms v ps ts → slice_get ps k ≡ Some p
    → (t : Tree) × (slice_get ts k ≡ Some t) × (width_of t ≡ kind_bits p.kind)
argument-has v k [] ts p are e = cc
argument-has v k (q ∷ ps) [] p are e = absurd are
argument-has v zero (q ∷ ps) (t ∷ ts) p are e =
    let same : q ≡ p = cc in
    (t, refl, ap width_of are.0 ∙ ap (λ (r : SsaParam). kind_bits r.kind) same)
argument-has v (suc k) (q ∷ ps) (t ∷ ts) p are e = argument-has (v + 1) k ps ts p are.1 e

pub unit-term : (v k : ℕ) (us : List SsaUnit) (ts : List Tree) (t : Tree) → AreUnitTerms v us ts
    → slice_get ts k ≡ Some t
    → (u : SsaUnit) × (slice_get us k ≡ Some u) × IsUnitTerm (v + k) u t
unit-term v k [] ts t are e = absurd (none-some t (subst (λ l. slice_get l k ≡ Some t) are e))
unit-term v k (u ∷ us) [] t are e = absurd are
unit-term v zero (u ∷ us) (s ∷ ts) t are e =
    let same : s ≡ t = cc in
    let here : v ≡ v + 0 = omega arith in
    (u, refl, subst (λ n. IsUnitTerm n u t) here (subst (IsUnitTerm v u) same are.0))
unit-term v (suc k) (u ∷ us) (s ∷ ts) t are e =
    let rest = unit-term (v + 1) k us ts t are.1 e in
    let next : v + 1 + k ≡ v + suc k = omega arith in
    (rest.0, rest.1, subst (λ n. IsUnitTerm n rest.0 t) next rest.2)

pub unit-has : (v k : ℕ) (us : List SsaUnit) (ts : List Tree) (u : SsaUnit) → AreUnitTerms v us ts
    → slice_get us k ≡ Some u
    → (t : Tree) × (slice_get ts k ≡ Some t) × IsUnitTerm (v + k) u t
unit-has v k [] ts u are e = cc
unit-has v k (x ∷ us) [] u are e = absurd are
unit-has v zero (x ∷ us) (t ∷ ts) u are e =
    let same : x ≡ u = cc in
    let here : v ≡ v + 0 = omega arith in
    (t, refl, subst (λ n. IsUnitTerm n u t) here (subst (λ y. IsUnitTerm v y t) same are.0))
unit-has v (suc k) (x ∷ us) (t ∷ ts) u are e =
    let rest = unit-has (v + 1) k us ts u are.1 e in
    let next : v + 1 + k ≡ v + suc k = omega arith in
    (rest.0, rest.1, subst (λ n. IsUnitTerm n u rest.0) next rest.2)

pub unit-above : (ssa : Ssa) (v : ℕ) (u : SsaUnit) → unit_at ssa v ≡ Some u
    → (arguments ssa ≤ v) × (v < arguments ssa + length ssa.units)
unit-above ssa v u e = elim (cases_lt v (arguments ssa)) [
  | inl below ↦ absurd (none-some u (sym (cond-true _ _ _ (lt-ltb v (arguments ssa) below)) ∙ e))
  | inr above ↦
      let low =
      get-low ssa.units (v - arguments ssa) u
      (sym (cond-false _ _ _ (le-ltb v (arguments ssa) above)) ∙ e) in
      (above, omega arith)
]

-- a term is that of an argument, or that of a unit
abbrev pub IsArgumentTerm : Ssa → ℕ → Tree → Type 0
IsArgumentTerm ssa v t =
    (p : SsaParam) × (v < arguments ssa) × (slice_get (integers ssa) v ≡ Some p)
    × (t ≡ leaf (kind_bits p.kind) (argument_key v))

abbrev pub IsWorkTerm : Ssa → ℕ → Tree → Type 0
IsWorkTerm ssa v t = (u : SsaUnit) × (unit_at ssa v ≡ Some u) × IsUnitTerm v u t

-- ---- widths

pub unit-width : (ssa : Ssa) (v : ℕ) (u : SsaUnit) → unit_at ssa v ≡ Some u
    → value_bits ssa v ≡ unit_bits u
unit-width ssa v u e =
    cond-false _ _ _ (le-ltb v (arguments ssa) (unit-above ssa v u e).0) ∙ ap
    (λ o. o >>= unit_bits) e

work-width : (v : ℕ) (u : SsaUnit) (t : Tree) → IsUnitTerm v u t → is_constant t ≡ false
    → unit_bits u ≡ Some (width_of t)
work-width v (Load a w) t is c = ap Some (sym (ap width_of is))
work-width v (Store a w x) t is c = absurd (let yes = ap is_constant is in cc)
work-width v (Operation op w k xs) t is c = ap Some (sym is.1)

-- ---- a list of terms, those of parameters first

module _ (ssa : Ssa) (ts : List Tree)
    (params : AreArgumentTerms 0 (integers ssa) (take (arguments ssa) ts))
    (units : AreUnitTerms (arguments ssa) ssa.units (drop (arguments ssa) ts)) where
  pub known : (v : ℕ) (t : Tree) → slice_get ts v ≡ Some t → IsArgumentTerm ssa v t ⊎ IsWorkTerm ssa v t
  known v t e = elim (cases_lt v (arguments ssa)) [
    | inl below ↦
        let a =
        argument-term 0 v (integers ssa) (take (arguments ssa) ts) t params
        (take-get (arguments ssa) v ts t below e) in
        let here : 0 + v ≡ v = omega arith in
        inl (a.0, below, a.1, a.2 ∙ ap (λ n. leaf (kind_bits a.0.kind) (argument_key n)) here)
    | inr above ↦
        let u =
        unit-term (arguments ssa) (v - arguments ssa) ssa.units (drop (arguments ssa) ts) t units
        (drop-get (arguments ssa) v ts t above e) in
        let here : arguments ssa + (v - arguments ssa) ≡ v = omega arith in
        inr (
          u.0,
          cond-false _ _ _ (le-ltb v (arguments ssa) above) ∙ u.1,
          subst (λ n. IsUnitTerm n u.0 t) here u.2,
        )
  ]

  -- a term that is no constant is as wide as its value
  pub known-width : (v : ℕ) (t : Tree) → slice_get ts v ≡ Some t → is_constant t ≡ false
      → value_bits ssa v ≡ Some (width_of t)
  known-width v t e c = elim (known v t e) [
    | inl a ↦
        cond-true _ _ _ (lt-ltb v (arguments ssa) a.1)
        ∙ ap (option_map (λ (p : SsaParam). kind_bits p.kind)) a.2
        ∙ ap Some (sym (ap width_of a.3))
    | inr u ↦ unit-width ssa v u.0 u.1 ∙ work-width v u.0 t u.2 c
  ]
