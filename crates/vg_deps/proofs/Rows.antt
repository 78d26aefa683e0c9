-- The units on which a unit depends, found one after the other.
use Rattle.std.proofs.Common.{◌≡◌, ℕ, zero, suc, ◌+◌, ◌-◌, ◌<◌, ◌≤◌, Bool, true, false, List, [], ◌∷◌, ◌++◌, length, map, Some, None, refl, sym, ap, subst, ◌∙◌, arith, inl, inr, append_assoc, append-nil, get_or}
use Rattle.std.specs.Prelude.{filter, slice_get, nat_lt, not, ◌&&◌, ◌||◌, if◌then◌else◌}
use Rattle.std.specs.Option.{is_some, option_map_or}
use Rattle.std.proofs.lemmas.Bool.{cases_Bool, cond-true, cond-false, lt-ltb, le-ltb}
use Rattle.std.proofs.lemmas.List.{map-append}
use Rattle.std.proofs.lemmas.List.Filters.{length-filter_both}
use Rattle.std.proofs.lemmas.Option.{slice_get-get_or}
use Rattle.vg_base.specs.Trap.{◌>>=◌}
use Rattle.vg_shapes.specs.declared.ssa.Ssa.{Ssa}
use Rattle.vg_shapes.specs.declared.ssa_unit.SsaUnit.{SsaUnit}
use Rattle.vg_shapes.specs.Depends.{conflict_at, conflict_of, depended, depends_on, numbers_below, uses_at}
use Rattle.vg_shapes.specs.Layout.{access_of, noalias_flags}
use Rattle.vg_shapes.specs.Order.{numbers_from}
use Rattle.vg_shapes.specs.Sound.{IsSound, is_store}
use Rattle.vg_shapes.specs.Units.{arguments, is_integer, is_unit, unit_at, uses_value}
use Rattle.vg_deps.specs.Rows.{depends_by}

-- ---- integer parameters are no units

no-unit : (ssa : Ssa) (x : ℕ) → x < arguments ssa → unit_at ssa x ≡ None
no-unit ssa x h = cond-true _ _ _ (lt-ltb x (arguments ssa) h)

pub depends-argument : (ssa : Ssa) (v x : ℕ) → x < arguments ssa → depends_on ssa v x ≡ false
depends-argument ssa v x h = by (is_unit ssa x) (nat_lt x v && (uses_at ssa v x || conflict_at ssa x v)) (ap is_some (no-unit ssa x h))
  where
    by : (b c : Bool) → b ≡ false → (b && c) ≡ false
    by false c e = refl
    by true c e = absurd (cc)

-- no argument is depended on
pub row_arguments : (ssa : Ssa) (v n : ℕ) → n ≤ arguments ssa → filter (depends_on ssa v) (numbers_below n) ≡ []
row_arguments ssa v zero h = refl
row_arguments ssa v (suc n) h = cond-false _ _ _ (depends-argument ssa v n (omega arith)) ∙ row_arguments ssa v n (omega arith)

-- ---- one unit more is looked at

unit-behind : (ssa : Ssa) (k : ℕ) → unit_at ssa (arguments ssa + k) ≡ slice_get ssa.units k
unit-behind ssa k =
    cond-false _ _ _ (le-ltb (arguments ssa + k) (arguments ssa) (omega arith))
    ∙ ap (slice_get ssa.units) (let e : arguments ssa + k - arguments ssa ≡ k = omega arith in e)

depends-units : (ssa : Ssa) (index k : ℕ) (u w : SsaUnit) → k < index → slice_get ssa.units k ≡ Some u → slice_get ssa.units index ≡ Some w
    → depends_on ssa (arguments ssa + index) (arguments ssa + k) ≡ depends_by (noalias_flags ssa) w u (arguments ssa + k)
depends-units ssa index k u w below e g =
    let earlier : unit_at ssa (arguments ssa + k) ≡ Some u = unit-behind ssa k ∙ e in
    let later : unit_at ssa (arguments ssa + index) ≡ Some w = unit-behind ssa index ∙ g in
    let lt : nat_lt (arguments ssa + k) (arguments ssa + index) ≡ true = lt-ltb _ _ (omega arith) in
    λ i. is_some (earlier i) && (lt i && (option_map_or (uses_value (arguments ssa + k)) (later i) false || conflict_of (noalias_flags ssa) (earlier i >>= access_of) (later i >>= access_of)))

-- the numbers of the units that are still to be looked at
abbrev pub RowSoFar : Ssa → ℕ → ℕ → List ℕ → Type 0
RowSoFar ssa index left row = row ++ filter (depends_on ssa (arguments ssa + index)) (numbers_below (arguments ssa + left)) ≡ depended ssa (arguments ssa + index)

pub row_more : (ssa : Ssa) (index k : ℕ) (u w : SsaUnit) (flags : List Bool) (row new : List ℕ) → k < index
    → slice_get ssa.units k ≡ Some u → slice_get ssa.units index ≡ Some w → flags ≡ noalias_flags ssa
    → new ≡ row ++ (if depends_by flags w u (arguments ssa + k) then (arguments ssa + k) ∷ [] else [])
    → RowSoFar ssa index (suc k) row → RowSoFar ssa index k new
row_more ssa index k u w flags row new below e g f is so =
    let v = arguments ssa + index in
    let x = arguments ssa + k in
    let next : arguments ssa + suc k ≡ suc x = omega arith in
    let test : depends_by flags w u x ≡ depends_on ssa v x = ap (λ l. depends_by l w u x) f ∙ sym (depends-units ssa index k u w below e g) in
    ap (λ l. l ++ filter (depends_on ssa v) (numbers_below x)) (is ∙ ap (λ (b : Bool). row ++ (if b then x ∷ [] else [])) test)
    ∙ append_assoc row _ _
    ∙ ap (λ l. row ++ l) (kept (depends_on ssa v x) x (filter (depends_on ssa v) (numbers_below x)))
    ∙ ap (λ n. row ++ filter (depends_on ssa v) (numbers_below n)) (sym next)
    ∙ so
  where
    kept : (b : Bool) (x : ℕ) (l : List ℕ) → (if b then x ∷ [] else []) ++ l ≡ (if b then x ∷ l else l)
    kept true x l = refl
    kept false x l = refl

-- the same where the units are read by their indexes
pub row_step : (ssa : Ssa) (units : List SsaUnit) (first value left : ℕ) (flags : List Bool) (row new : List ℕ) (dependent : Bool) (d e : SsaUnit)
    → units ≡ ssa.units → first ≡ arguments ssa → first ≤ value → value < first + length ssa.units → 0 < left → left ≤ value - first → flags ≡ noalias_flags ssa
    → dependent ≡ depends_by flags (get_or units (value - first) d) (get_or units (left - 1) e) (first + (left - 1))
    → new ≡ row ++ (if dependent then (first + (left - 1)) ∷ [] else [])
    → RowSoFar ssa (value - first) left row → RowSoFar ssa (value - first) (left - 1) new
row_step ssa units first value left flags row new dependent d e same begin low high some most f test is so =
    let index = value - first in
    let k = left - 1 in
    let next : left ≡ suc k = omega arith in
    let one = slice_get-get_or ssa.units k e (omega arith) in
    let two = slice_get-get_or ssa.units index d (omega arith) in
    let tested : dependent ≡ depends_by flags (get_or ssa.units index d) (get_or ssa.units k e) (arguments ssa + k) =
    test ∙ (λ i. depends_by flags (get_or (same i) index d) (get_or (same i) k e) (begin i + k)) in
    row_more ssa index k _ _ flags row new (omega arith) one two f
    (is ∙ (λ i. row ++ (if tested i then (begin i + k) ∷ [] else [])))
    (subst (λ n. RowSoFar ssa index n row) next so)

pub row_begins : (ssa : Ssa) (index : ℕ) → RowSoFar ssa index index []
row_begins ssa index = refl

row-whole : (ssa : Ssa) (index : ℕ) (row : List ℕ) → RowSoFar ssa index 0 row → row ≡ depended ssa (arguments ssa + index)
row-whole ssa index row so = sym (ap (λ l. row ++ l) (row_arguments ssa (arguments ssa + index) (arguments ssa + 0) (omega arith)) ∙ append-nil row) ∙ so

pub row_ends : (ssa : Ssa) (first value left : ℕ) (row : List ℕ) → first ≡ arguments ssa → first ≤ value → left ≤ 0 → RowSoFar ssa (value - first) left row → row ≡ depended ssa value
row_ends ssa first value left row begin low end so =
    let none : left ≡ 0 = omega arith in
    let is : arguments ssa + (value - first) ≡ value = omega arith in
    row-whole ssa (value - first) row (subst (λ n. RowSoFar ssa (value - first) n row) none so) ∙ ap (depended ssa) is

-- ---- all rows

numbers_from-more : (first n : ℕ) → numbers_from first (suc n) ≡ numbers_from first n ++ (first + n) ∷ []
numbers_from-more first zero = ap (λ m. m ∷ []) (let e : first ≡ first + 0 = omega arith in e)
numbers_from-more first (suc n) =
    let next : first + 1 + n ≡ first + suc n = omega arith in
    ap (λ l. first ∷ l) (numbers_from-more (first + 1) n ∙ ap (λ m. numbers_from (first + 1) n ++ m ∷ []) next)

pub rows_more : {A : Type 0} (f : ℕ → A) (n : ℕ) (rows : List A) → rows ≡ map f (numbers_from 0 n) → rows ++ f n ∷ [] ≡ map f (numbers_from 0 (n + 1))
rows_more f n rows e =
    let here : 0 + n ≡ n = omega arith in
    let next : suc n ≡ n + 1 = omega arith in
    ap (λ l. l ++ f n ∷ []) e ∙ ap (λ m. map f (numbers_from 0 n) ++ f m ∷ []) (sym here)
    ∙ sym (ap (map f) (numbers_from-more 0 n) ∙ map-append f (numbers_from 0 n) ((0 + n) ∷ []))
    ∙ ap (λ m. map f (numbers_from 0 m)) next

-- ---- numbers fit

length-filter-most : {A : Type 0} (p : A → Bool) (xs : List A) → length (filter p xs) ≤ length xs
length-filter-most p [] = omega arith
length-filter-most p (x ∷ xs) = elim (cases_Bool (p x)) [
  | inl t ↦ (let e : length (filter p (x ∷ xs)) ≡ suc (length (filter p xs)) = ap length (cond-true _ _ _ t) in omega (arith, length-filter-most p xs))
  | inr f ↦ (let e : length (filter p (x ∷ xs)) ≡ length (filter p xs) = ap length (cond-false _ _ _ f) in omega (arith, length-filter-most p xs))
]

pub few_values : (ssa : Ssa) → IsSound ssa → arguments ssa + length ssa.units ≤ 12304
few_values ssa sound =
    let both = length-filter_both is_store (λ u. not (is_store u)) (λ u. refl) ssa.units in
    let stores = sound.stores in
    let uses = sound.uses in
    let params = sound.params in
    let less : arguments ssa ≤ length ssa.params = length-filter-most (λ p. is_integer p.kind) ssa.params in
    omega arith
