-- The numbered values of a well-formed kernel are sound.
use Rattle.std.proofs.Common.{◌≡◌, ℕ, zero, suc, ◌+◌, ◌-◌, ◌%◌, ◌^◌, ◌<◌, ◌≤◌, ◌⊎◌, Bool, true, false, List, [], ◌∷◌, ◌++◌, length, take, drop, map, Option, Some, None, refl, sym, ap, subst, ◌∙◌, arith, append_assoc, append-nil, inl, inr}
use Rattle.std.specs.Prelude.{◌&&◌, filter, IsTrue, nat_eq, nat_lt, not, slice_get, slice_index, slice_index_or, sum_by, if◌then◌else◌}
use Rattle.std.specs.List.{AllByRecursion, cons_option, IsDistinct}
use Rattle.std.specs.Option.{option_map}
use Rattle.std.specs.Str.{bytes_eq}
use Rattle.std.proofs.lemmas.Bool.{cond-true, cond-false, ltb-true, ltb-false}
use Rattle.std.proofs.lemmas.List.{get_or_append_left, get_or-append_right, length-append, length-map, length_push, take-append-drop}
use Rattle.std.proofs.lemmas.List.Elements.{filter-append}
use Rattle.std.proofs.lemmas.List.Sums.{sum_by-cons}
use Rattle.std.proofs.Math.Nat.{mod-eq_of_lt}
use Rattle.std.proofs.Math.Seq.{drop-append_seam, take-append_seam}
use Rattle.vg_base.specs.Trap.{◌>>=◌}
use Rattle.vg_base.specs.declared.width.Width.{Width}
use Rattle.vg_base.specs.Width.{bits_of}
use Rattle.vg_bits.specs.BitList.{IsBytes}
use Rattle.vg_kernel.specs.declared.parameter.KParam.{KParam}
use Rattle.vg_kernel.specs.declared.parameter.KParamKind.{KParamKind}
use Rattle.vg_kernel.specs.declared.parameter.KParamKind.TheVariants as kinds
use Rattle.vg_kernel.specs.Cost.{uses_of}
use Rattle.vg_kernel.specs.Names.{is_pointer}
use Rattle.vg_kernel.specs.Tree.{Expression, argument, assigned, literal, load, two, shift, resize, compare, select, Statement, assign, store, Tree as Kernel}
use Rattle.vg_kernel.specs.WellFormed.{integer_widths, IsWellFormed, pointers as kernel_pointers}
use Rattle.vg_kernel.specs.Words.{is_free, is_reserved}
use Rattle.vg_text.specs.Byte.{is_name_text}
use Rattle.vg_shapes.specs.declared.ssa.Ssa.{Ssa}
use Rattle.vg_shapes.specs.declared.ssa.SsaParam.{SsaParam}
use Rattle.vg_shapes.specs.declared.ssa.SsaParamKind.{SsaParamKind}
use Rattle.vg_shapes.specs.declared.ssa.SsaParamKind.TheVariants.{Pointer, Integer}
use Rattle.vg_shapes.specs.declared.ssa_unit.Operands.{Operands}
use Rattle.vg_shapes.specs.declared.ssa_unit.Operator.{Operator}
use Rattle.vg_shapes.specs.declared.ssa_unit.Operator.TheVariants.{Two, Shift, Resize, Compare, Select}
use Rattle.vg_shapes.specs.declared.ssa_unit.SsaUnit.{SsaUnit}
use Rattle.vg_shapes.specs.declared.ssa_unit.SsaUnit.TheVariants.{Load, Store, Operation}
use Rattle.vg_shapes.specs.declared.wanted.Wanted.{Wanted}
use Rattle.vg_shapes.specs.declared.wanted.Wanted.TheVariants.{Value, Constant, Nothing}
use Rattle.vg_shapes.specs.RunUnits.{Reached, run_units, start_of}
use Rattle.vg_shapes.specs.Sound.{AreArguments, AreArgumentTerms, AreCuts, argument_key, AreUnitTerms, cut_at, cut_key, cuts_of, environment, HaveNumbers, IsEarlier, IsNumber, IsOperation, IsBit, IsSound, IsUnit, is_store, kind_bits, name_at, name_of, pointers, result_bits, terms_of, TakeEarlier, TakesEarlier, unit_bits, unit_name, value_bits}
use Rattle.vg_shapes.specs.Units.{arguments, integers, integers_of, is_integer, unit_at}
use Rattle.vg_ssa.specs.declared.value_terms.Depth.{Depth}
use Rattle.vg_ssa.specs.declared.value_terms.Depth.TheVariants.{Whole, Cut}
use Rattle.vg_ssa.specs.Laws.{NumberedValuesAreSound}
use Rattle.vg_ssa.specs.OfUnits.{CanBeNumbered, HaveCuts, terms_over, width_of_kind, widths_of, without_terms}
use Rattle.vg_ssa.specs.Numbering.{first_unit, IsNumbering, kind_of, numbered, param_of, units_from, units_of}
use Rattle.vg_ssa.specs.ValueTerm.{argument_terms, no_term, terms_behind}
use Rattle.vg_ssa.specs.Fitting.{IsTermOf, UnitsFit}
use Rattle.vg_ssa.proofs.Counts.{arguments-first, expression-units}
use Rattle.vg_ssa.proofs.Earlier.{units-take_earlier}
use Rattle.vg_ssa.proofs.Environment.{of-arguments, of-units, ReadArguments, read-front, ReadUnits}
use Rattle.vg_ssa.proofs.Meaning.{bound, leaf-means, Mean, run-means, run-more}
use Rattle.vg_ssa.proofs.OperationTerms.{bits-width}
use Rattle.vg_ssa.proofs.Terms.{leaf-term, Stand, stand-behind, terms_after, terms-behind, terms-both, terms-long, unit-terms, units-fit}
use Rattle.vg_ssa.proofs.TypedUnits.{Held, statements-typed}
use Rattle.vg_ssa.proofs.Typing.{behind, behind-both, behind-long, BitIn, number-stays, NumberIn, bit-stays, OperationIn, UnitIn, UnitsIn}
use Rattle.vg_terms.specs.declared.value.Env.{Env}
use Rattle.vg_terms.specs.Term.{Tree, IsWidth, leaf, width_of}
use Rattle.vg_terms.specs.Value.{number_at, value}

-- ---- parameters

names-same : (ps : List KParam) → map (λ p. p.name) (map param_of ps) ≡ map (λ p. p.name) ps
names-same [] = refl
names-same (p ∷ ps) = ap (λ l. p.name ∷ l) (names-same ps)

and-left : (a b : Bool) → IsTrue (a && b) → IsTrue a
and-left true b h = refl
and-left false b h = h

names-free : (ps : List KParam) → AllByRecursion (λ p. IsTrue (is_free p.name)) ps → AllByRecursion (λ p. IsTrue (is_name_text p.name)) (map param_of ps)
names-free [] h = tt
names-free (p ∷ ps) h = (and-left (is_name_text p.name) (not (is_reserved p.name)) h.0, names-free ps h.1)

-- one parameter more, by its kind
pointer-more : (kind : KParamKind) {A B : Type 0} (x : A) (y : B) (xs : List A) (ys : List B) → length xs ≡ length ys
    → length (if not (is_integer (kind_of kind)) then x ∷ xs else xs) ≡ length (if is_pointer kind then y ∷ ys else ys)
pointer-more (kinds.Pointer noalias) x y xs ys e = ap suc e
pointer-more (kinds.Integer w) x y xs ys e = e

pointers-same : (ps : List KParam) → length (filter (λ p. not (is_integer p.kind)) (map param_of ps)) ≡ length (kernel_pointers ps)
pointers-same [] = refl
pointers-same (p ∷ ps) = pointer-more p.kind (param_of p) p (filter (λ p. not (is_integer p.kind)) (map param_of ps)) (kernel_pointers ps) (pointers-same ps)

-- the widths of integer parameters
abbrev pub widths : List SsaParam → List (Option ℕ)
widths ps = map (λ p. Some (kind_bits p.kind)) ps

integer-more : (kind : KParamKind) (name : List ℕ) (qs : List SsaParam) (ws : List Width) → widths qs ≡ map (λ w. Some (bits_of w)) ws
    → widths (if is_integer (kind_of kind) then (record { name = name; kind = kind_of kind }) ∷ qs else qs)
    ≡ map (λ w. Some (bits_of w)) (cons_option (elim kind as (λ k. Option Width) [ kinds.Pointer noalias ↦ None | kinds.Integer w ↦ Some w ]) ws)
integer-more (kinds.Pointer noalias) name qs ws e = e
integer-more (kinds.Integer w) name qs ws e = ap (λ l. Some (bits_of w) ∷ l) e

widths-same : (ps : List KParam) → widths (integers_of (map param_of ps)) ≡ map (λ w. Some (bits_of w)) (integer_widths ps)
widths-same [] = refl
widths-same (p ∷ ps) = integer-more p.kind p.name (integers_of (map param_of ps)) (integer_widths ps) (widths-same ps)

width-at : (ws : List Width) (k : ℕ) (w : Width) → slice_get ws k ≡ Some w → slice_index_or (map (λ w. Some (bits_of w)) ws) k None ≡ Some (bits_of w)
width-at [] k w e = absurd (cc)
width-at (v ∷ ws) zero w e = let same : v ≡ w = cc in ap (λ u. Some (bits_of u)) same
width-at (v ∷ ws) (suc k) w e = width-at ws k w e

-- the same of parameters of units
same-widths : (ps : List KParam) → widths_of (map param_of ps) ≡ integer_widths ps
same-widths [] = refl
same-widths (p ∷ ps) = width-more p.kind (widths_of (map param_of ps)) (integer_widths ps) (same-widths ps)
  where
    width-more : (kind : KParamKind) (vs ws : List Width) → vs ≡ ws
        → cons_option (width_of_kind (kind_of kind)) vs ≡ cons_option (elim kind as (λ k. Option Width) [ kinds.Pointer noalias ↦ None | kinds.Integer w ↦ Some w ]) ws
    width-more (kinds.Pointer noalias) vs ws e = e
    width-more (kinds.Integer w) vs ws e = ap (λ l. w ∷ l) e

bits-more : (kind : SsaParamKind) (name : List ℕ) (qs : List SsaParam) (ws : List Width) → widths qs ≡ map (λ w. Some (bits_of w)) ws
    → widths (if is_integer kind then (record { name = name; kind = kind }) ∷ qs else qs) ≡ map (λ w. Some (bits_of w)) (cons_option (width_of_kind kind) ws)
bits-more (Pointer noalias) name qs ws e = e
bits-more (Integer w) name qs ws e = ap (λ l. Some (bits_of w) ∷ l) e

param-widths : (ps : List SsaParam) → widths (integers_of ps) ≡ map (λ w. Some (bits_of w)) (widths_of ps)
param-widths [] = refl
param-widths (p ∷ ps) = bits-more p.kind p.name (integers_of ps) (widths_of ps) (param-widths ps)

pub widths-many : (ps : List SsaParam) → length (widths_of ps) ≡ length (integers_of ps)
widths-many ps =
    sym (length-map (widths_of ps) (λ w. Some (bits_of w))) ∙ sym (ap length (param-widths ps)) ∙ length-map (integers_of ps) (λ p. Some (kind_bits p.kind))

-- their terms
terms-of-integer : (v : ℕ) (kind : SsaParamKind) (name : List ℕ) (qs : List SsaParam) (ws : List Width)
    → ((u : ℕ) → AreArgumentTerms u qs (argument_terms u ws))
    → AreArgumentTerms v (if is_integer kind then (record { name = name; kind = kind }) ∷ qs else qs) (argument_terms v (cons_option (width_of_kind kind) ws))
terms-of-integer v (Pointer noalias) name qs ws h = h v
terms-of-integer v (Integer w) name qs ws h = (refl, h (v + 1))

argument-terms : (ps : List SsaParam) (v : ℕ) → AreArgumentTerms v (integers_of ps) (argument_terms v (widths_of ps))
argument-terms [] v = refl
argument-terms (p ∷ ps) v = terms-of-integer v p.kind p.name (integers_of ps) (widths_of ps) (argument-terms ps)

pub arguments-long : (v : ℕ) (ws : List Width) → length (argument_terms v ws) ≡ length ws
arguments-long v [] = refl
arguments-long v (w ∷ ws) = ap suc (arguments-long (v + 1) ws)

-- they stand
arguments-each : (u : ℕ) (ws : List Width) (v w : ℕ) → slice_index_or (map (λ w. Some (bits_of w)) ws) v None ≡ Some w → IsWidth w × IsTermOf w (slice_index_or (argument_terms u ws) v no_term)
arguments-each u [] v w e = absurd (cc)
arguments-each u (x ∷ ws) zero w e =
    let same : bits_of x ≡ w = cc in
    let P : ℕ → Type 0 = λ n. IsWidth n × IsTermOf n (leaf (bits_of x) (argument_key u)) in
    subst P same (bits-width x, leaf-term (bits_of x) (argument_key u) (bits-width x))
arguments-each u (x ∷ ws) (suc v) w e = arguments-each (u + 1) ws v w e

-- ---- the rules on units

pub value-at : (ps : List SsaParam) (us : List SsaUnit) (v : ℕ)
    → (if nat_lt v (length ps) then option_map (λ p. kind_bits p.kind) (slice_get ps v) else (if nat_lt v (length ps) then None else slice_get us (v - length ps)) >>= unit_bits)
    ≡ slice_index_or (behind (widths ps) us) v None
value-at ps us v = by (nat_lt v (length ps)) refl
  where
    front : (ps : List SsaParam) (v : ℕ) → option_map (λ p. kind_bits p.kind) (slice_get ps v) ≡ slice_index_or (widths ps) v None
    front [] v = refl
    front (p ∷ ps) zero = refl
    front (p ∷ ps) (suc v) = front ps v

    back : (us : List SsaUnit) (v : ℕ) → (slice_get us v >>= unit_bits) ≡ slice_index_or (map unit_bits us) v None
    back [] v = refl
    back (u ∷ us) zero = refl
    back (u ∷ us) (suc v) = back us v

    by : (b : Bool) → nat_lt v (length ps) ≡ b
        → (if nat_lt v (length ps) then option_map (λ p. kind_bits p.kind) (slice_get ps v) else (if nat_lt v (length ps) then None else slice_get us (v - length ps)) >>= unit_bits)
        ≡ slice_index_or (behind (widths ps) us) v None
    by true e =
        let long = length-map ps (λ p. Some (kind_bits p.kind)) in
        let below = ltb-true v (length ps) e in
        (λ i. if e i then option_map (λ p. kind_bits p.kind) (slice_get ps v) else (if e i then None else slice_get us (v - length ps)) >>= unit_bits)
        ∙ front ps v ∙ sym (get_or_append_left (widths ps) (map unit_bits us) None v (omega arith))
    by false e =
        let long = length-map ps (λ p. Some (kind_bits p.kind)) in
        let below = ltb-false v (length ps) e in
        (λ i. if e i then option_map (λ p. kind_bits p.kind) (slice_get ps v) else (if e i then None else slice_get us (v - length ps)) >>= unit_bits)
        ∙ back us (v - length ps) ∙ sym (get_or-append_right (widths ps) (map unit_bits us) (length ps) v None long below)

number-sound : (ssa : Ssa) (bits : List (Option ℕ)) (w : Width) (x : Wanted) → ((v : ℕ) → value_bits ssa v ≡ slice_index_or bits v None) → NumberIn bits w x → IsNumber ssa w x
number-sound ssa bits w (Value v) same h = same v ∙ h
number-sound ssa bits w (Constant m k) same h = h
number-sound ssa bits w Nothing same h = h

bit-sound : (ssa : Ssa) (bits : List (Option ℕ)) (x : Wanted) → ((v : ℕ) → value_bits ssa v ≡ slice_index_or bits v None) → BitIn bits x → IsBit ssa x
bit-sound ssa bits (Value v) same h = same v ∙ h
bit-sound ssa bits (Constant m k) same h = h
bit-sound ssa bits Nothing same h = h

-- in a list of widths with more after
operation-sound : (ssa : Ssa) (bits more : List (Option ℕ)) (op : Operator) (w : Width) (k : ℕ) (xs : Operands) → ((v : ℕ) → value_bits ssa v ≡ slice_index_or (bits ++ more) v None) → OperationIn bits op w k xs → IsOperation ssa op w k xs
operation-sound ssa bits more op w k xs same = by op
  where
    n : (w : Width) (x : Wanted) → NumberIn bits w x → IsNumber ssa w x
    n w x h = number-sound ssa (bits ++ more) w x same (number-stays bits more w x h)

    by : (op : Operator) → OperationIn bits op w k xs → IsOperation ssa op w k xs
    by (Two op) h = (h.0, n w xs.first h.1, n w xs.second h.2, h.3)
    by (Shift op) h = (h.0, n w xs.first h.1, h.2, h.3)
    by (Resize op v) h = (h.0, h.1, n v xs.first h.2, h.3, h.4)
    by (Compare op) h = (h.0, n w xs.first h.1, n w xs.second h.2, h.3)
    by Select h = (h.0, bit-sound ssa (bits ++ more) xs.first same (bit-stays bits more xs.first h.1), n w xs.second h.2, n w xs.third h.3)

unit-sound : (ssa : Ssa) (bits more : List (Option ℕ)) (u : SsaUnit) → ((v : ℕ) → value_bits ssa v ≡ slice_index_or (bits ++ more) v None) → UnitIn (length (pointers ssa)) bits u → IsUnit ssa u
unit-sound ssa bits more (Load a w) same h = h
unit-sound ssa bits more (Store a w x) same h = (h.0, number-sound ssa (bits ++ more) w x same (number-stays bits more w x h.1))
unit-sound ssa bits more (Operation op w k xs) same h = operation-sound ssa bits more op w k xs same h

units-sound : (ssa : Ssa) (bits : List (Option ℕ)) (us : List SsaUnit) → ((v : ℕ) → value_bits ssa v ≡ slice_index_or (behind bits us) v None) → UnitsIn (length (pointers ssa)) bits us → AllByRecursion (IsUnit ssa) us
units-sound ssa bits [] same h = tt
units-sound ssa bits (u ∷ us) same h = (
  unit-sound ssa bits (map unit_bits (u ∷ us)) u same h.0,
  units-sound ssa (bits ++ unit_bits u ∷ []) us (λ v. same v ∙ ap (λ l. slice_index_or l v None) (sym (append_assoc bits (unit_bits u ∷ []) (map unit_bits us)))) h.1,
)

-- and the other way round: what a unit takes is among the values before it
number-in : (ssa : Ssa) (bits more : List (Option ℕ)) (w : Width) (x : Wanted) → ((v : ℕ) → value_bits ssa v ≡ slice_index_or (bits ++ more) v None) → IsEarlier (length bits) x → IsNumber ssa w x → NumberIn bits w x
number-in ssa bits more w (Value v) same l h = sym (same v ∙ get_or_append_left bits more None v l) ∙ h
number-in ssa bits more w (Constant m k) same l h = h
number-in ssa bits more w Nothing same l h = h

bit-in : (ssa : Ssa) (bits more : List (Option ℕ)) (x : Wanted) → ((v : ℕ) → value_bits ssa v ≡ slice_index_or (bits ++ more) v None) → IsEarlier (length bits) x → IsBit ssa x → BitIn bits x
bit-in ssa bits more (Value v) same l h = sym (same v ∙ get_or_append_left bits more None v l) ∙ h
bit-in ssa bits more (Constant m k) same l h = h
bit-in ssa bits more Nothing same l h = h

operation-in : (ssa : Ssa) (bits more : List (Option ℕ)) (op : Operator) (w : Width) (k : ℕ) (xs : Operands) → ((v : ℕ) → value_bits ssa v ≡ slice_index_or (bits ++ more) v None)
    → IsEarlier (length bits) xs.first → IsEarlier (length bits) xs.second → IsEarlier (length bits) xs.third → IsOperation ssa op w k xs → OperationIn bits op w k xs
operation-in ssa bits more op w k xs same x y z = by op
  where
    n : (w : Width) (x : Wanted) → IsEarlier (length bits) x → IsNumber ssa w x → NumberIn bits w x
    n w x l h = number-in ssa bits more w x same l h

    by : (op : Operator) → IsOperation ssa op w k xs → OperationIn bits op w k xs
    by (Two op) h = (h.0, n w xs.first x h.1, n w xs.second y h.2, h.3)
    by (Shift op) h = (h.0, n w xs.first x h.1, h.2, h.3)
    by (Resize op v) h = (h.0, h.1, n v xs.first x h.2, h.3, h.4)
    by (Compare op) h = (h.0, n w xs.first x h.1, n w xs.second y h.2, h.3)
    by Select h = (h.0, bit-in ssa bits more xs.first same x h.1, n w xs.second y h.2, n w xs.third z h.3)

unit-in : (ssa : Ssa) (bits more : List (Option ℕ)) (u : SsaUnit) → ((v : ℕ) → value_bits ssa v ≡ slice_index_or (bits ++ more) v None) → TakesEarlier (length bits) u → IsUnit ssa u → UnitIn (length (pointers ssa)) bits u
unit-in ssa bits more (Load a w) same l h = h
unit-in ssa bits more (Store a w x) same l h = (h.0, number-in ssa bits more w x same l h.1)
unit-in ssa bits more (Operation op w k xs) same l h = operation-in ssa bits more op w k xs same l.0 l.1 l.2 h

units-in : (ssa : Ssa) (bits : List (Option ℕ)) (us : List SsaUnit) → ((v : ℕ) → value_bits ssa v ≡ slice_index_or (behind bits us) v None) → TakeEarlier (length bits) us → AllByRecursion (IsUnit ssa) us
    → UnitsIn (length (pointers ssa)) bits us
units-in ssa bits [] same l h = tt
units-in ssa bits (u ∷ us) same l h = (
  unit-in ssa bits (map unit_bits (u ∷ us)) u same l.0 h.0,
  units-in ssa (bits ++ unit_bits u ∷ []) us (λ v. same v ∙ ap (λ l. slice_index_or l v None) (sym (append_assoc bits (unit_bits u ∷ []) (map unit_bits us))))
      (subst (λ n. TakeEarlier n us) (sym (length_push bits (unit_bits u))) l.1) h.1,
)

-- ---- the limits

abbrev stores_of : List SsaUnit → List SsaUnit
stores_of us = filter is_store us

abbrev others_of : List SsaUnit → List SsaUnit
others_of us = filter (λ u. not (is_store u)) us

-- units of which none is a store
record NoStore (us : List SsaUnit) : Type 0 where
  stores : stores_of us ≡ []
  others : others_of us ≡ us

none-both : (us vs : List SsaUnit) → NoStore us → NoStore vs → NoStore (us ++ vs)
none-both us vs h g = record {
  stores = filter-append is_store us vs ∙ (λ i. h.stores i ++ g.stores i);
  others = filter-append (λ u. not (is_store u)) us vs ∙ (λ i. h.others i ++ g.others i);
}

no-store : (n : ℕ) (names : List Wanted) (e : Expression) → NoStore (numbered n names e).units
no-store n names (argument k w) = record { stores = refl; others = refl }
no-store n names (assigned k t) = record { stores = refl; others = refl }
no-store n names (literal w v) = record { stores = refl; others = refl }
no-store n names (load w a) = record { stores = refl; others = refl }
no-store n names (two op w x y) =
    let p = numbered n names x in
    let q = numbered (n + length p.units) names y in
    none-both (p.units ++ q.units) _ (none-both p.units q.units (no-store n names x) (no-store (n + length p.units) names y)) (record { stores = refl; others = refl })
no-store n names (shift op w k x) = none-both (numbered n names x).units _ (no-store n names x) (record { stores = refl; others = refl })
no-store n names (resize op w v x) = none-both (numbered n names x).units _ (no-store n names x) (record { stores = refl; others = refl })
no-store n names (compare op w x y) =
    let p = numbered n names x in
    let q = numbered (n + length p.units) names y in
    none-both (p.units ++ q.units) _ (none-both p.units q.units (no-store n names x) (no-store (n + length p.units) names y)) (record { stores = refl; others = refl })
no-store n names (select w c x y) =
    let o = numbered n names c in
    let p = numbered (n + length o.units) names x in
    let q = numbered (n + length (o.units ++ p.units)) names y in
    none-both ((o.units ++ p.units) ++ q.units) _
    (none-both (o.units ++ p.units) q.units (none-both o.units p.units (no-store n names c) (no-store (n + length o.units) names x)) (no-store (n + length (o.units ++ p.units)) names y))
    (record { stores = refl; others = refl })

stores-few : (n : ℕ) (names : List Wanted) (ss : List Statement) → length (stores_of (units_from n names ss)) ≤ length ss
stores-few n names [] = omega arith
stores-few n names (assign e ∷ ss) =
    let p = numbered n names e in
    let rest = units_from (n + length p.units) (names ++ p.value ∷ []) ss in
    let h = no-store n names e in
    let split = ap length (filter-append is_store p.units rest ∙ ap (λ l. l ++ stores_of rest) h.stores) in
    let more = stores-few (n + length p.units) (names ++ p.value ∷ []) ss in
    omega arith
stores-few n names (store w a e ∷ ss) =
    let p = numbered n names e in
    let rest = units_from (n + length p.units + 1) names ss in
    let h = no-store n names e in
    let one = Store a w p.value ∷ [] in
    let front = filter-append is_store p.units one ∙ ap (λ l. l ++ stores_of one) h.stores in
    let split = ap length (filter-append is_store (p.units ++ one) rest ∙ ap (λ l. l ++ stores_of rest) front) in
    let more = stores-few (n + length p.units + 1) names ss in
    omega arith

others-counted : (n : ℕ) (names : List Wanted) (ss : List Statement) → length (others_of (units_from n names ss)) ≡ sum_by uses_of ss
others-counted n names [] = refl
others-counted n names (assign e ∷ ss) =
    let p = numbered n names e in
    let rest = units_from (n + length p.units) (names ++ p.value ∷ []) ss in
    let h = no-store n names e in
    ap length (filter-append (λ u. not (is_store u)) p.units rest ∙ ap (λ l. l ++ others_of rest) h.others)
    ∙ length-append p.units (others_of rest)
    ∙ (λ i. expression-units n names e i + others-counted (n + length p.units) (names ++ p.value ∷ []) ss i)
    ∙ sym (sum_by-cons uses_of (assign e) ss)
others-counted n names (store w a e ∷ ss) =
    let p = numbered n names e in
    let rest = units_from (n + length p.units + 1) names ss in
    let h = no-store n names e in
    let one = Store a w p.value ∷ [] in
    let front = filter-append (λ u. not (is_store u)) p.units one ∙ append-nil (others_of p.units) ∙ h.others in
    ap length (filter-append (λ u. not (is_store u)) (p.units ++ one) rest ∙ ap (λ l. l ++ others_of rest) front)
    ∙ length-append p.units (others_of rest)
    ∙ (λ i. expression-units n names e i + others-counted (n + length p.units + 1) names ss i)
    ∙ sym (sum_by-cons uses_of (store w a e) ss)

-- ---- the terms of a run

-- the number of an argument is that of its leaf
arguments-mean : (env : Env) (u : ℕ) (ps : List SsaParam) (ts : List Tree) (ns : List ℕ) → AreArgumentTerms u ps ts → AreArguments ps ns → ReadArguments env.pairs u ns
    → (v : ℕ) → value env (slice_index_or ts v no_term) ≡ slice_index ns v
arguments-mean env u [] ts ns h g r v =
    subst (λ t. value env (slice_index_or t v no_term) ≡ slice_index ns v) (sym h) (subst (λ l. value env (slice_index_or [] v no_term) ≡ slice_index l v) (sym g) refl)
arguments-mean env u (p ∷ ps) [] ns h g r v = absurd h
arguments-mean env u (p ∷ ps) (t ∷ ts) [] h g r v = absurd g
arguments-mean env u (p ∷ ps) (t ∷ ts) (n ∷ ns) h g r zero = ap (value env) h.0 ∙ ap (λ k. k % 2 ^ kind_bits p.kind) r.0 ∙ mod-eq_of_lt g.0
arguments-mean env u (p ∷ ps) (t ∷ ts) (n ∷ ns) h g r (suc v) = arguments-mean env (u + 1) ps ts ns h.1 g.1 r.1 v

arguments-count : (ps : List SsaParam) (ns : List ℕ) → AreArguments ps ns → length ns ≡ length ps
arguments-count [] ns h = ap length h
arguments-count (p ∷ ps) [] h = absurd h
arguments-count (p ∷ ps) (n ∷ ns) h = ap suc (arguments-count ps ns h.1)

pub some-below : (bits : List (Option ℕ)) (v w : ℕ) → slice_index_or bits v None ≡ Some w → v < length bits
some-below [] v w e = absurd (cc)
some-below (b ∷ bits) zero w e = omega arith
some-below (b ∷ bits) (suc v) w e = let rest = some-below bits v w e in omega arith

index-at : (ts : List Tree) (v : ℕ) (t : Tree) → slice_get ts v ≡ Some t → slice_index_or ts v no_term ≡ t
index-at [] v t e = absurd (cc)
index-at (x ∷ ts) zero t e = cc
index-at (x ∷ ts) (suc v) t e = index-at ts v t e

units-front : (count : ℕ) (bits : List (Option ℕ)) (us vs : List SsaUnit) → UnitsIn count bits (us ++ vs) → UnitsIn count bits us
units-front count bits [] vs h = tt
units-front count bits (u ∷ us) vs h = (h.0, units-front count (bits ++ unit_bits u ∷ []) us vs h.1)

-- the term of a value that the first units reach is theirs
term-of-front : (d : Depth) (first : ℕ) (terms : List Tree) (us vs : List SsaUnit) (v : ℕ) → v < length terms + length us → slice_index_or (terms_behind d first terms (us ++ vs)) v no_term ≡ slice_index_or (terms_behind d first terms us) v no_term
term-of-front d first terms us vs v l =
    let long = terms-long d first terms us in
    ap (λ t. slice_index_or t v no_term) (terms-both d first terms us vs ∙ terms-behind d first (terms_behind d first terms us) vs)
    ∙ get_or_append_left (terms_behind d first terms us) (terms_after d first (terms_behind d first terms us) vs) no_term v (omega arith)

-- and so is its width
width-of-front : (bits : List (Option ℕ)) (us vs : List SsaUnit) (v : ℕ) → v < length bits + length us → slice_index_or (behind bits us) v None ≡ slice_index_or (behind bits (us ++ vs)) v None
width-of-front bits us vs v l =
    let long = behind-long bits us in
    sym (ap (λ b. slice_index_or b v None) (behind-both bits us vs) ∙ get_or_append_left (behind bits us) (map unit_bits vs) None v (omega arith))

-- units that take what they may after the terms of the parameters
pub record Typed (ssa : Ssa) (terms : List Tree) : Type 0 where
  pub units : UnitsIn (length (pointers ssa)) (widths (integers ssa)) ssa.units
  pub stand : Stand (widths (integers ssa)) terms
  pub leaves : AreArgumentTerms 0 (integers ssa) terms

-- the terms of all values, and their widths
abbrev pub all_terms : Depth → Ssa → List Tree → List Tree
all_terms d ssa terms = terms_behind d (arguments ssa) terms ssa.units

abbrev pub all_widths : Ssa → List (Option ℕ)
all_widths ssa = behind (widths (integers ssa)) ssa.units

-- in the environment of these numbers, which are those of the first values, their terms and their cut
-- leaves have them
record FrontMeans (d : Depth) (ssa : Ssa) (terms : List Tree) (numbers : List ℕ) : Type 0 where
  each : (v : ℕ) → v < length numbers → value (environment ssa numbers) (slice_index_or (all_terms d ssa terms) v no_term) ≡ slice_index numbers v
  leaf : (v w : ℕ) → v < length numbers → nat_lt v (arguments ssa) ≡ false → slice_index_or (all_widths ssa) v None ≡ Some w → number_at (environment ssa numbers).pairs (cut_key v) ≡ slice_index numbers v

-- in the environment of a run of some of the units
front-means : (d : Depth) (ssa : Ssa) (terms : List Tree) (us vs : List SsaUnit) (places memory args : List ℕ) (r : Reached) → Typed ssa terms → us ++ vs ≡ ssa.units → IsBytes memory → AreArguments (integers ssa) args
    → run_units places us (start_of memory args) ≡ Some r → FrontMeans d ssa terms r.numbers
front-means d ssa terms us vs places memory args r h split bytes fit run =
    let first = arguments ssa in
    let bits = widths (integers ssa) in
    let more = run-more places us (start_of memory args) r bytes run in
    let count : length args ≡ first = arguments-count (integers ssa) args fit in
    let wide : length bits ≡ first = length-map (integers ssa) (λ p. Some (kind_bits p.kind)) in
    let taken : take first r.numbers ≡ args = (λ i. take (sym count i) (more.numbers i)) ∙ take-append_seam args more.more in
    let left : drop first r.numbers ≡ more.more = (λ i. drop (sym count i) (more.numbers i)) ∙ drop-append_seam args more.more in
    let env : Env = environment ssa r.numbers in
    let read : ReadArguments env.pairs 0 args = subst (ReadArguments env.pairs 0) taken (of-arguments first (take first r.numbers) (drop first r.numbers) ssa.units) in
    let whole : ReadUnits env.pairs first ssa.units (drop first r.numbers) = of-units first (take first r.numbers) (drop first r.numbers) ssa.units (ap length taken ∙ count) in
    let reads : ReadUnits env.pairs (length args) us (drop (length args) r.numbers) =
    subst (λ n. ReadUnits env.pairs n us (drop n r.numbers)) (sym count) (read-front env.pairs first us vs (drop first r.numbers) (subst (λ l. ReadUnits env.pairs first l (drop first r.numbers)) (sym split) whole)) in
    let begun : Mean env first bits terms args = record {
      long = count ∙ sym wide;
      each = arguments-mean env 0 (integers ssa) terms args h.leaves fit read;
      cut = λ j w c e. let below = some-below bits j w e in let above = ltb-false j first c in absurd (omega arith);
    } in
    let typed = units-front (length (pointers ssa)) bits us vs (subst (UnitsIn (length (pointers ssa)) bits) (sym split) h.units) in
    let means : Mean env first (behind bits us) (terms_behind d first terms us) r.numbers = run-means env d (length (pointers ssa)) first places us bits terms (start_of memory args) r h.stand begun typed bytes run reads in
    let size = ap length more.numbers ∙ length-append args more.more in
    let long = more.long in
    let stood = h.stand.long in
    record {
      each = λ v l.
          let near : v < length terms + length us = omega arith in
          ap (λ t. value env (slice_index_or t v no_term)) (ap (terms_behind d first terms) (sym split)) ∙ ap (value env) (term-of-front d first terms us vs v near) ∙ means.each v;
      leaf = λ v w l c e.
          let near : v < length bits + length us = omega arith in
          means.cut v w c (width-of-front bits us vs v near ∙ ap (λ l. slice_index_or (behind bits l) v None) split ∙ e);
    }

terms-mean : (d : Depth) (ssa : Ssa) (terms made : List Tree) → Typed ssa terms → made ≡ all_terms d ssa terms → HaveNumbers ssa (slice_get made)
terms-mean d ssa terms made h same places memory args k r bytes fit run v t l e =
    let means = front-means d ssa terms (take k ssa.units) (drop k ssa.units) places memory args r h (take-append-drop k ssa.units) bytes fit run in
    let at : slice_get (all_terms d ssa terms) v ≡ Some t = ap (λ ts. slice_get ts v) (sym same) ∙ e in
    sym (ap (value (environment ssa r.numbers)) (index-at (all_terms d ssa terms) v t at)) ∙ means.each v l

-- ---- all of it

-- the terms of parameters stand
pub params-stand : (ps : List SsaParam) → Stand (widths (integers_of ps)) (argument_terms 0 (widths_of ps))
params-stand ps =
    let ws = widths_of ps in
    subst (λ b. Stand b (argument_terms 0 ws)) (sym (param-widths ps)) (record {
      long = arguments-long 0 ws ∙ sym (length-map ws (λ w. Some (bits_of w)));
      each = arguments-each 0 ws;
    })

-- units that can be numbered, after the terms of their parameters
pub can-typed : (ssa : Ssa) → CanBeNumbered ssa → Typed ssa (argument_terms 0 (widths_of ssa.params))
can-typed ssa h =
    let long = length-map (integers ssa) (λ p. Some (kind_bits p.kind)) in
    record {
      units = units-in ssa (widths (integers ssa)) ssa.units (value-at (integers ssa) ssa.units) (subst (λ n. TakeEarlier n ssa.units) (sym long) h.earlier) h.units;
      stand = params-stand ssa.params;
      leaves = argument-terms ssa.params 0;
    }

pub over-terms : (d : Depth) (ssa : Ssa) → terms_over d ssa.params ssa.units ≡ all_terms d ssa (argument_terms 0 (widths_of ssa.params))
over-terms d ssa = ap (λ n. terms_behind d n (argument_terms 0 (widths_of ssa.params)) ssa.units) (widths-many ssa.params)

pub params-first : (ssa : Ssa) → length (argument_terms 0 (widths_of ssa.params)) ≡ arguments ssa
params-first ssa = arguments-long 0 (widths_of ssa.params) ∙ widths-many ssa.params

typed-sound : (ssa : Ssa) (terms : List Tree) → Typed ssa terms → AllByRecursion (IsUnit ssa) ssa.units
typed-sound ssa terms h = units-sound ssa (widths (integers ssa)) ssa.units (value-at (integers ssa) ssa.units) h.units

argument-terms-first : (d : Depth) (ssa : Ssa) (terms made : List Tree) → Typed ssa terms → length terms ≡ arguments ssa → made ≡ all_terms d ssa terms → AreArgumentTerms 0 (integers ssa) (take (arguments ssa) made)
argument-terms-first d ssa terms made h e is =
    let same : take (arguments ssa) made ≡ terms = (λ i. take (sym e i) ((is ∙ terms-behind d (arguments ssa) terms ssa.units) i)) ∙ take-append_seam terms (terms_after d (arguments ssa) terms ssa.units) in
    subst (AreArgumentTerms 0 (integers ssa)) (sym same) h.leaves

unit-terms-behind : (d : Depth) (ssa : Ssa) (terms made : List Tree) → Typed ssa terms → length terms ≡ arguments ssa → made ≡ all_terms d ssa terms → AreUnitTerms (arguments ssa) ssa.units (drop (arguments ssa) made)
unit-terms-behind d ssa terms made h e is =
    let after = terms_after d (arguments ssa) terms ssa.units in
    let same : drop (arguments ssa) made ≡ after = (λ i. drop (sym e i) ((is ∙ terms-behind d (arguments ssa) terms ssa.units) i)) ∙ drop-append_seam terms after in
    let fit = units-fit d (length (pointers ssa)) (arguments ssa) (widths (integers ssa)) terms ssa.units h.stand h.units in
    subst (AreUnitTerms (arguments ssa) ssa.units) (sym same) (subst (λ n. AreUnitTerms n ssa.units after) e (unit-terms d (arguments ssa) terms ssa.units fit))

-- units that can be numbered fit after the terms of their parameters
pub can-fit : (d : Depth) (ssa : Ssa) → CanBeNumbered ssa → UnitsFit d (length (widths_of ssa.params)) (argument_terms 0 (widths_of ssa.params)) ssa.units
can-fit d ssa h =
    let typed = can-typed ssa h in
    units-fit d (length (pointers ssa)) (length (widths_of ssa.params)) (widths (integers ssa)) (argument_terms 0 (widths_of ssa.params)) ssa.units typed.stand typed.units

-- ---- names

-- the value of a unit has this width, and so has its cut term
record Made (ssa : Ssa) (terms : List Tree) (v w : ℕ) : Type 0 where
  width : slice_index_or (all_widths ssa) v None ≡ Some w
  term : IsTermOf w (slice_index_or (all_terms Cut ssa terms) v no_term)

made-of : (ssa : Ssa) (terms : List Tree) (v : ℕ) (u : SsaUnit) (w : ℕ) → Typed ssa terms → nat_lt v (arguments ssa) ≡ false → unit_at ssa v ≡ Some u → unit_bits u ≡ Some w → Made ssa terms v w
made-of ssa terms v u w h past at bits =
    let all = stand-behind Cut (length (pointers ssa)) (arguments ssa) (widths (integers ssa)) terms ssa.units h.stand h.units in
    let here : value_bits ssa v ≡ Some w = cond-false (nat_lt v (arguments ssa)) (option_map (λ p. kind_bits p.kind) (slice_get (integers ssa) v)) (unit_at ssa v >>= unit_bits) past ∙ ap (λ o. o >>= unit_bits) at ∙ bits in
    let is : slice_index_or (all_widths ssa) v None ≡ Some w = sym (value-at (integers ssa) ssa.units v) ∙ here in
    record { width = is; term = (all.each v w is).1 }

-- a bit that is written out, or a cut leaf
either-name : (env : Env) (b : Bool) (c t : Tree) (v n : ℕ) → value env c ≡ n → value env (leaf (width_of c) (cut_key v)) ≡ n → Some (if b then c else leaf (width_of c) (cut_key v)) ≡ Some t → value env t ≡ n
either-name env true c t v n e f g = let same : c ≡ t = cc in ap (value env) (sym same) ∙ e
either-name env false c t v n e f g = let same : leaf (width_of c) (cut_key v) ≡ t = cc in ap (value env) (sym same) ∙ f

module _ (ssa : Ssa) (terms : List Tree) (typed : Typed ssa terms) (numbers : List ℕ) (means : FrontMeans Cut ssa terms numbers) where
  abbrev env : Env
  env = environment ssa numbers

  -- the cut leaf of a value
  cut-leaf : (v w : ℕ) (c : Tree) → v < length numbers → nat_lt v (arguments ssa) ≡ false → slice_index_or (all_terms Cut ssa terms) v no_term ≡ c → Made ssa terms v w
      → value env (leaf (width_of c) (cut_key v)) ≡ slice_index numbers v
  cut-leaf v w c l past is x =
      leaf-means env w v (slice_index numbers v) c (subst (IsTermOf w) is x.term) (means.leaf v w l past x.width) (ap (value env) (sym is) ∙ means.each v l)

  unit-name-means : (v : ℕ) (c t : Tree) (u : SsaUnit) → v < length numbers → nat_lt v (arguments ssa) ≡ false → slice_index_or (all_terms Cut ssa terms) v no_term ≡ c
      → unit_at ssa v ≡ Some u → unit_name v c u ≡ Some t → value env t ≡ slice_index numbers v
  unit-name-means v c t (Load a w) l past is at e =
      let x = made-of ssa terms v (Load a w) (bits_of w) typed past at refl in
      let wide : width_of c ≡ bits_of w = ap width_of (sym is) ∙ x.term.width in
      let same : leaf (bits_of w) (cut_key v) ≡ t = cc in
      ap (value env) (sym same) ∙ ap (λ n. value env (leaf n (cut_key v))) (sym wide) ∙ cut-leaf v (bits_of w) c l past is x
  unit-name-means v c t (Store a w y) l past is at e = absurd (cc)
  unit-name-means v c t (Operation op w k xs) l past is at e =
      let x = made-of ssa terms v (Operation op w k xs) (result_bits op w) typed past at refl in
      either-name env (nat_eq (width_of c) 1) c t v (slice_index numbers v) (ap (value env) (sym is) ∙ means.each v l) (cut-leaf v (result_bits op w) c l past is x) e

  name-means : (v : ℕ) (c t : Tree) → v < length numbers → slice_index_or (all_terms Cut ssa terms) v no_term ≡ c → name_of ssa v c ≡ Some t → value env t ≡ slice_index numbers v
  name-means v c t l is e = by (nat_lt v (arguments ssa)) refl
    where
      by : (b : Bool) → nat_lt v (arguments ssa) ≡ b → value env t ≡ slice_index numbers v
      by true g =
          let own : Some c ≡ Some t = sym (cond-true (nat_lt v (arguments ssa)) (Some c) (unit_at ssa v >>= unit_name v c) g) ∙ e in
          let same : c ≡ t = cc in
          ap (value env) (sym same) ∙ ap (value env) (sym is) ∙ means.each v l
      by false g =
          let b = bound (unit_at ssa v) (unit_name v c) t (sym (cond-false (nat_lt v (arguments ssa)) (Some c) (unit_at ssa v >>= unit_name v c) g) ∙ e) in
          unit-name-means v c t b.0 l g is b.1 b.2

names-mean : (ssa : Ssa) (terms : List Tree) → Typed ssa terms → cuts_of ssa ≡ all_terms Cut ssa terms → HaveNumbers ssa (name_at ssa)
names-mean ssa terms h same places memory args k r bytes fit run v t l e =
    let means = front-means Cut ssa terms (take k ssa.units) (drop k ssa.units) places memory args r h (take-append-drop k ssa.units) bytes fit run in
    let b = bound (cut_at ssa v) (name_of ssa v) t e in
    let at : slice_get (all_terms Cut ssa terms) v ≡ Some b.0 = ap (λ ts. slice_get ts v) (sym same) ∙ b.1 in
    name-means ssa terms h r.numbers means v b.0 t l (index-at (all_terms Cut ssa terms) v b.0 at) b.2

cuts-sound : (ssa : Ssa) (terms : List Tree) → Typed ssa terms → length terms ≡ arguments ssa → cuts_of ssa ≡ all_terms Cut ssa terms → AreCuts ssa
cuts-sound ssa terms h first same = record {
  argument_terms = argument-terms-first Cut ssa terms (cuts_of ssa) h first same;
  unit_terms = unit-terms-behind Cut ssa terms (cuts_of ssa) h first same;
  meaning = terms-mean Cut ssa terms (cuts_of ssa) h same;
  names = names-mean ssa terms h same;
}

-- values of units that can be numbered are sound
pub numbered-sound : (ssa : Ssa) → CanBeNumbered ssa → terms_of ssa ≡ terms_over Whole ssa.params ssa.units → (ssa.cuts ≡ []) ⊎ HaveCuts ssa.params ssa.units ssa → IsSound ssa
numbered-sound ssa h is cuts =
    let terms = argument_terms 0 (widths_of ssa.params) in
    let typed = can-typed ssa h in
    let made = is ∙ over-terms Whole ssa in
    let first = params-first ssa in
    record {
      name = h.name;
      names = h.names;
      distinct = h.distinct;
      params = h.params;
      stores = h.stores;
      uses = h.uses;
      units = h.units;
      earlier = h.earlier;
      argument_terms = argument-terms-first Whole ssa terms (terms_of ssa) typed first made;
      unit_terms = unit-terms-behind Whole ssa terms (terms_of ssa) typed first made;
      meaning = terms-mean Whole ssa terms (terms_of ssa) typed made;
      cuts = elim cuts [
        | inl none ↦ inl none
        | inr are ↦ inr (cuts-sound ssa terms typed first (are ∙ over-terms Cut ssa))
      ];
    }

-- ---- kernels

-- whatever terms there are
pub can-same : (ssa : Ssa) → CanBeNumbered (without_terms ssa.name ssa.params ssa.units) → CanBeNumbered ssa
can-same ssa h = record {
  name = h.name;
  names = h.names;
  distinct = h.distinct;
  params = h.params;
  stores = h.stores;
  uses = h.uses;
  units = h.units;
  earlier = h.earlier;
}

-- the units of a well-formed kernel can be numbered over its parameters
pub kernel-can : (k : Kernel) → IsWellFormed k → CanBeNumbered (without_terms k.name (map param_of k.params) (units_of k))
kernel-can k good =
    let ssa = without_terms k.name (map param_of k.params) (units_of k) in
    let ws = integer_widths k.params in
    let bits = map (λ w. Some (bits_of w)) ws in
    let wide : widths (integers ssa) ≡ bits = widths-same k.params in
    let held : Held k.params [] [] bits = record { args = width-at ws; count = refl; named = λ j t e. absurd (cc) } in
    let typed = statements-typed k.params [] [] (first_unit k) bits k.statements good.each held (sym (length-map ws (λ w. Some (bits_of w)))) in
    let units : UnitsIn (length (pointers ssa)) (widths (integers ssa)) ssa.units =
    subst (λ b. UnitsIn (length (pointers ssa)) b (units_of k)) (sym wide) (subst (λ n. UnitsIn n bits (units_of k)) (sym (pointers-same k.params)) typed) in
    record {
      name = and-left (is_name_text k.name) (not (is_reserved k.name)) good.name;
      names = names-free k.params good.names;
      distinct = subst (IsDistinct bytes_eq) (sym (names-same k.params)) good.distinct;
      params = subst (λ n. n ≤ 16) (sym (length-map k.params param_of)) good.params;
      stores = (let few = stores-few (first_unit k) [] k.statements in let most = good.statements in omega arith);
      uses = (let count = others-counted (first_unit k) [] k.statements in let most = good.uses in omega arith);
      units = units-sound ssa (widths (integers ssa)) ssa.units (value-at (integers ssa) ssa.units) units;
      earlier = subst (λ n. TakeEarlier n (units_of k)) (sym (arguments-first k.params)) (units-take_earlier k good);
    }

-- what a kernel is numbered as has these units, which can be numbered
pub numbered-can : (k : Kernel) (ssa : Ssa) → IsWellFormed k → IsNumbering k ssa → CanBeNumbered ssa
numbered-can k ssa good is = can-same ssa (subst CanBeNumbered (λ i. without_terms (sym is.name i) (sym is.params i) (sym is.units i)) (kernel-can k good))

-- the terms of a kernel are those of its units over its parameters
pub kernel-terms : (d : Depth) (k : Kernel) → terms_over d (map param_of k.params) (units_of k) ≡ terms_behind d (first_unit k) (argument_terms 0 (integer_widths k.params)) (units_of k)
kernel-terms d k = ap (λ ws. terms_behind d (length ws) (argument_terms 0 ws) (units_of k)) (same-widths k.params)

pub numbered-terms : (d : Depth) (k : Kernel) (ssa : Ssa) → IsNumbering k ssa → terms_behind d (first_unit k) (argument_terms 0 (integer_widths k.params)) (units_of k) ≡ terms_over d ssa.params ssa.units
numbered-terms d k ssa is = sym (kernel-terms d k) ∙ (λ i. terms_over d (sym is.params i) (sym is.units i))

pub numbered-values-are-sound : NumberedValuesAreSound
numbered-values-are-sound k ssa good is cuts =
    numbered-sound ssa (numbered-can k ssa good is) (is.terms ∙ numbered-terms Whole k ssa is) (elim cuts [
      | inl none ↦ inl none
      | inr are ↦ inr (are ∙ numbered-terms Cut k ssa is)
    ])
