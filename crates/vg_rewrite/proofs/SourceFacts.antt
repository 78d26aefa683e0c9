-- Loads, extensions of loads, and which of them stay where they stood.
use Rattle.std.proofs.Common.{◌≡◌, ℕ, zero, suc, ◌+◌, ◌-◌, ◌<◌, ◌≤◌, Bool, true, false, List, [], ◌∷◌, length, Option, Some, None, refl, sym, ap, ◌∙◌, subst, arith, inl, inr}
use Rattle.std.specs.Prelude.{◌&&◌, ◌||◌, not, nat_eq, nat_lt, slice_get, if◌then◌else◌}
use Rattle.std.specs.List.{list_any}
use Rattle.std.specs.Option.{is_some, option_map_or}
use Rattle.std.proofs.lemmas.Bool.{and_from, and_parts, cases_Bool, cases_lt, cond-false, cond-true, eq-eqb, eqb-true, ltb-false, not_from_false, or_left, or_right, true≢false}
use Rattle.vg_base.specs.Trap.{◌>>=◌}
use Rattle.vg_base.specs.declared.address.Address.{Address}
use Rattle.vg_base.specs.declared.width.Width.{Width}
use Rattle.vg_rewrite.specs.Repeated.{extended_by, is_free, is_free_by, is_needed, is_number, is_read, load_of, load_stays, loaded_by, meets_between, source_by, source_of, takes, unit_list}
use Rattle.vg_scalar.specs.declared.resize.Resize.{Resize}
use Rattle.vg_scalar.specs.declared.resize.Resize.TheVariants.{Sext, Zext, Trunc}
use Rattle.vg_shapes.specs.declared.ssa.Ssa.{Ssa}
use Rattle.vg_shapes.specs.declared.ssa_unit.Operands.{Operands}
use Rattle.vg_shapes.specs.declared.ssa_unit.Operator.TheVariants.{Two, Shift, Resize as ToWidth, Compare, Select}
use Rattle.vg_shapes.specs.declared.ssa_unit.SsaUnit.{SsaUnit}
use Rattle.vg_shapes.specs.declared.ssa_unit.SsaUnit.TheVariants.{Load, Store, Operation}
use Rattle.vg_shapes.specs.declared.wanted.Wanted.{Wanted}
use Rattle.vg_shapes.specs.declared.wanted.Wanted.TheVariants.{Value, Constant, Nothing}
use Rattle.vg_shapes.specs.Depends.{conflict_at, uses_at}
use Rattle.vg_shapes.specs.Order.{numbers_from}
use Rattle.vg_shapes.specs.Units.{arguments, unit_at, uses_value}

-- ---- numbers of which one passes

pub any-from : (p : ℕ → Bool) (first n x : ℕ) → first ≤ x → x < first + n → p x ≡ true → list_any p (numbers_from first n) ≡ true
any-from p first zero x low high e = absurd (omega arith)
any-from p first (suc n) x low high e = elim (cases_lt first x) [
  | inl l ↦ or_right (p first) (list_any p (numbers_from (first + 1) n)) (any-from p (first + 1) n x (omega arith) (omega arith) e)
  | inr g ↦ or_left (p first) (list_any p (numbers_from (first + 1) n)) (let same : first ≡ x = omega arith in ap p same ∙ e)
]

pub none-from : (p : ℕ → Bool) (first n x : ℕ) → list_any p (numbers_from first n) ≡ false → first ≤ x → x < first + n → p x ≡ false
none-from p first n x e low high = elim (cases_Bool (p x)) [
  | inl t ↦ absurd (true≢false (sym (any-from p first n x low high t) ∙ e))
  | inr f ↦ f
]

pub record Passes (p : ℕ → Bool) (first n : ℕ) : Type 0 where
  pub number : ℕ
  pub low : first ≤ number
  pub high : number < first + n
  pub passes : p number ≡ true

pub some-passes : (p : ℕ → Bool) (first n : ℕ) → list_any p (numbers_from first n) ≡ true → Passes p first n
some-passes p first zero e = absurd (cc)
some-passes p first (suc n) e = elim (cases_Bool (p first)) [
  | inl t ↦ record { number = first; low = omega arith; high = omega arith; passes = t }
  | inr f ↦
      let rest = some-passes p (first + 1) n (sym (ap (λ b. b || list_any p (numbers_from (first + 1) n)) f) ∙ e) in
      record { number = rest.number; low = (let l = rest.low in omega arith); high = (let h = rest.high in omega arith); passes = rest.passes }
]

-- ---- units and their numbers

pub record InUnits (ssa : Ssa) (v : ℕ) : Type 0 where
  pub low : arguments ssa ≤ v
  pub high : v < arguments ssa + length ssa.units

get-below : (us : List SsaUnit) (j : ℕ) (u : SsaUnit) → slice_get us j ≡ Some u → j < length us
get-below [] j u e = absurd (cc)
get-below (x ∷ us) zero u e = omega arith
get-below (x ∷ us) (suc j) u e = let rest = get-below us j u e in omega arith

pub unit-inside : (ssa : Ssa) (v : ℕ) (u : SsaUnit) → unit_at ssa v ≡ Some u → InUnits ssa v
unit-inside ssa v u e = elim (cases_Bool (nat_lt v (arguments ssa))) [
  | inl c ↦ absurd (let none : None ≡ Some u = sym (cond-true (nat_lt v (arguments ssa)) None (slice_get ssa.units (v - arguments ssa)) c) ∙ e in cc)
  | inr c ↦
      let past = ltb-false v (arguments ssa) c in
      let l = get-below ssa.units (v - arguments ssa) u (sym (cond-false (nat_lt v (arguments ssa)) None (slice_get ssa.units (v - arguments ssa)) c) ∙ e) in
      record { low = omega arith; high = omega arith }
]

-- ---- sources

pub record LoadAt (ssa : Ssa) (l : ℕ) : Type 0 where
  pub address : Address
  pub width : Width
  pub unit : unit_at ssa l ≡ Some (Load address width)

pub record ExtensionAt (ssa : Ssa) (e l : ℕ) : Type 0 where
  pub op : Resize
  pub from : Width
  pub width : Width
  pub amount : ℕ
  pub operands : Operands
  pub unit : unit_at ssa e ≡ Some (Operation (ToWidth op from) width amount operands)
  pub first : operands.first ≡ Value l
  pub load : LoadAt ssa l

some-load : (ssa : Ssa) (o : Option SsaUnit) (v l : ℕ) → unit_at ssa v ≡ o → load_of o v ≡ Some l → (v ≡ l) × LoadAt ssa v
some-load ssa None v l e h = absurd (cc)
some-load ssa (Some (Load a w)) v l e h = (let same : v ≡ l = cc in same, record { address = a; width = w; unit = e })
some-load ssa (Some (Store a w x)) v l e h = absurd (cc)
some-load ssa (Some (Operation op w k xs)) v l e h = absurd (cc)

loaded-is : (ssa : Ssa) (x : Wanted) (l : ℕ) → loaded_by ssa x ≡ Some l → (x ≡ Value l) × LoadAt ssa l
loaded-is ssa (Value v) l h = let is = some-load ssa (unit_at ssa v) v l refl h in (ap Value is.0, subst (LoadAt ssa) is.0 is.1)
loaded-is ssa (Constant w n) l h = absurd (cc)
loaded-is ssa Nothing l h = absurd (cc)

extended-is : (ssa : Ssa) (op : Resize) (x : Wanted) (l : ℕ) → extended_by ssa op x ≡ Some l → (x ≡ Value l) × LoadAt ssa l
extended-is ssa Sext x l h = loaded-is ssa x l h
extended-is ssa Zext x l h = loaded-is ssa x l h
extended-is ssa Trunc x l h = absurd (cc)

-- a source is the load itself, or what the unit extends
pub record SourceAt (ssa : Ssa) (v l : ℕ) : Type 0 where
  pub load : LoadAt ssa l
  pub extends : nat_eq v l ≡ false → ExtensionAt ssa v l

source-by : (ssa : Ssa) (v l : ℕ) (u : SsaUnit) → unit_at ssa v ≡ Some u → source_by ssa v u ≡ Some l → SourceAt ssa v l
source-by ssa v l (Load a w) e h =
    let same : v ≡ l = cc in
    record { load = subst (LoadAt ssa) same (record { address = a; width = w; unit = e }); extends = λ f. absurd (true≢false (sym (eq-eqb v l same) ∙ f)) }
source-by ssa v l (Store a w x) e h = absurd (cc)
source-by ssa v l (Operation (Two op) w k xs) e h = absurd (cc)
source-by ssa v l (Operation (Shift op) w k xs) e h = absurd (cc)
source-by ssa v l (Operation (ToWidth op from) w k xs) e h =
    let is = extended-is ssa op xs.first l h in
    record { load = is.1; extends = λ f. record { op = op; from = from; width = w; amount = k; operands = xs; unit = e; first = is.0; load = is.1 } }
source-by ssa v l (Operation (Compare op) w k xs) e h = absurd (cc)
source-by ssa v l (Operation Select w k xs) e h = absurd (cc)

source-some : (ssa : Ssa) (v l : ℕ) (o : Option SsaUnit) → unit_at ssa v ≡ o → (o >>= source_by ssa v) ≡ Some l → SourceAt ssa v l
source-some ssa v l None e h = absurd (cc)
source-some ssa v l (Some u) e h = source-by ssa v l u e h

pub source-at : (ssa : Ssa) (v l : ℕ) → source_of ssa v ≡ Some l → SourceAt ssa v l
source-at ssa v l h = source-some ssa v l (unit_at ssa v) refl h

pub load-source : (ssa : Ssa) (l : ℕ) → LoadAt ssa l → source_of ssa l ≡ Some l
load-source ssa l h = ap (λ o. o >>= source_by ssa l) h.unit

pub source-inside : (ssa : Ssa) (v l : ℕ) → source_of ssa v ≡ Some l → InUnits ssa v
source-inside ssa v l e = by (unit_at ssa v) refl e
  where
    by : (o : Option SsaUnit) → unit_at ssa v ≡ o → (o >>= source_by ssa v) ≡ Some l → InUnits ssa v
    by None f h = absurd (cc)
    by (Some u) f h = unit-inside ssa v u f

-- ---- what stays

abbrev pub stays_by : Ssa → ℕ → Option ℕ → Bool
stays_by ssa v None = true
stays_by ssa v (Some l) = if nat_eq v l then load_stays ssa v else is_needed ssa v

-- a value stands where it stood
abbrev pub stays : Ssa → ℕ → Bool
stays ssa v = stays_by ssa v (source_of ssa v)

-- a value that is needed keeps its load
needed-load : (ssa : Ssa) (v l : ℕ) → InUnits ssa v → source_of ssa v ≡ Some l → is_needed ssa v ≡ true → load_stays ssa l ≡ true
needed-load ssa v l inside e need =
    or_left (list_any (λ x. is_number l (source_of ssa x) && is_needed ssa x) (unit_list ssa)) (not (is_read ssa l))
    (any-from (λ x. is_number l (source_of ssa x) && is_needed ssa x) (arguments ssa) (length ssa.units) v inside.low inside.high
    (and_from (is_number l (source_of ssa v)) (is_needed ssa v) (ap (is_number l) e ∙ eq-eqb l l refl) need))

pub needed-stays : (ssa : Ssa) (v l : ℕ) → InUnits ssa v → source_of ssa v ≡ Some l → is_needed ssa v ≡ true → stays ssa v ≡ true
needed-stays ssa v l inside e need =
    ap (stays_by ssa v) e ∙ (elim (cases_Bool (nat_eq v l)) [
      | inl c ↦ cond-true (nat_eq v l) (load_stays ssa v) (is_needed ssa v) c ∙ ap (load_stays ssa) (eqb-true v l c) ∙ needed-load ssa v l inside e need
      | inr c ↦ cond-false (nat_eq v l) (load_stays ssa v) (is_needed ssa v) c ∙ need
    ])

pub source-stays : (ssa : Ssa) (v l : ℕ) → InUnits ssa v → source_of ssa v ≡ Some l → is_needed ssa v ≡ true → stays ssa l ≡ true
source-stays ssa v l inside e need =
    ap (stays_by ssa l) (load-source ssa l (source-at ssa v l e).load) ∙ cond-true (nat_eq l l) (load_stays ssa l) (is_needed ssa l) (eq-eqb l l refl) ∙ needed-load ssa v l inside e need

pub none-stays : (ssa : Ssa) (v : ℕ) → source_of ssa v ≡ None → stays ssa v ≡ true
none-stays ssa v e = ap (stays_by ssa v) e

-- ---- uses

pub takes-it : (ssa : Ssa) (user v : ℕ) (u : SsaUnit) → unit_at ssa user ≡ Some u → source_of ssa user ≡ None → uses_value v u ≡ true → takes ssa user v ≡ true
takes-it ssa user v u e none uses =
    and_from (not (is_some (source_of ssa user))) (uses_at ssa user v) (ap (λ o. not (is_some o)) none) (ap (λ o. option_map_or (uses_value v) o false) e ∙ uses)

pub use-needs : (ssa : Ssa) (user v : ℕ) → InUnits ssa user → takes ssa user v ≡ true → is_free ssa user v ≡ false → is_needed ssa v ≡ true
use-needs ssa user v inside uses held =
    any-from (λ x. takes ssa x v && not (is_free ssa x v)) (arguments ssa) (length ssa.units) user inside.low inside.high
    (and_from (takes ssa user v) (not (is_free ssa user v)) uses (not_from_false (is_free ssa user v) held))

not-true : (b : Bool) → not b ≡ true → b ≡ false
not-true true e = absurd (cc)
not-true false e = refl

-- nothing between the load and a free use conflicts with the load
pub free-apart : (ssa : Ssa) (user v l : ℕ) → source_of ssa v ≡ Some l → is_free ssa user v ≡ true → (s : ℕ) → l < s → s < user → conflict_at ssa l s ≡ false
free-apart ssa user v l e free s low high =
    let both = and_parts (not (is_some (source_of ssa user))) (not (meets_between ssa l user)) (sym (ap (λ o. not (is_some (source_of ssa user)) && is_free_by ssa user o) e) ∙ free) in
    none-from (conflict_at ssa l) (l + 1) (user - (l + 1)) s (not-true (meets_between ssa l user) both.1) (omega arith) (omega arith)
