-- The units of a kernel make its accesses, and the layouts that respect noalias are the same.
use Rattle.std.proofs.Common.{◌≡◌, ℕ, zero, suc, ◌+◌, Bool, false, List, [], ◌∷◌, ◌++◌, length, map, Option, Some, None, refl, sym, ap, subst, ◌∙◌, arith, append-nil, append_assoc, get_or}
use Rattle.std.specs.Prelude.{Contains, slice_get, unwrap_or, ◌||◌}
use Rattle.std.specs.List.{cons_option, filter_map, flat_map}
use Rattle.std.proofs.lemmas.List.{map-append}
use Rattle.std.proofs.lemmas.List.Elements.{filter_map-append}
use Rattle.vg_kernel.specs.declared.parameter.KParam.{KParam}
use Rattle.vg_kernel.specs.declared.parameter.KParamKind.{KParamKind}
use Rattle.vg_kernel.specs.declared.parameter.KParamKind.TheVariants as kinds
use Rattle.vg_kernel.specs.Layout.{Access as KernelAccess, accesses as kernel_accesses, noalias_flags as kernel_flags, noalias_of as kernel_noalias, reads_of, statement_accesses}
use Rattle.vg_kernel.specs.Tree.{Expression, argument, assigned, literal, load, two, shift, resize, compare, select, Statement, assign, store}
use Rattle.vg_shapes.specs.declared.access.Access.{Access}
use Rattle.vg_shapes.specs.declared.ssa_unit.SsaUnit.{SsaUnit}
use Rattle.vg_shapes.specs.declared.ssa_unit.SsaUnit.TheVariants.{Store}
use Rattle.vg_shapes.specs.declared.wanted.Wanted.{Wanted}
use Rattle.vg_shapes.specs.Layout.{access_of as unit_access, noalias_flags, noalias_of}
use Rattle.vg_ssa.specs.Laws.{access_of, SameAccesses, SameLayouts}
use Rattle.vg_ssa.specs.Numbering.{first_unit, kind_of, numbered, param_of, units_from}

-- ---- accesses

abbrev made : List SsaUnit → List Access
made us = filter_map unit_access us

-- units that make these accesses, and an operation after them
with-operation : (us : List SsaUnit) (u : SsaUnit) (xs : List Access) → unit_access u ≡ None → made us ≡ xs → made (us ++ u ∷ []) ≡ xs
with-operation us u xs none e = filter_map-append unit_access us (u ∷ []) ∙ (λ i. e i ++ cons_option (none i) []) ∙ append-nil xs

made-both : (us vs : List SsaUnit) (xs ys : List KernelAccess) → made us ≡ map access_of xs → made vs ≡ map access_of ys → made (us ++ vs) ≡ map access_of (xs ++ ys)
made-both us vs xs ys e f = filter_map-append unit_access us vs ∙ (λ i. e i ++ f i) ∙ sym (map-append access_of xs ys)

expression-made : (n : ℕ) (names : List Wanted) (e : Expression) → made (numbered n names e).units ≡ map access_of (reads_of e)
expression-made n names (argument k w) = refl
expression-made n names (assigned k t) = refl
expression-made n names (literal w v) = refl
expression-made n names (load w a) = refl
expression-made n names (two op w x y) =
    let p = numbered n names x in
    let q = numbered (n + length p.units) names y in
    with-operation (p.units ++ q.units) _ _ refl (made-both p.units q.units (reads_of x) (reads_of y) (expression-made n names x) (expression-made (n + length p.units) names y))
expression-made n names (shift op w k x) = with-operation (numbered n names x).units _ _ refl (expression-made n names x)
expression-made n names (resize op w v x) = with-operation (numbered n names x).units _ _ refl (expression-made n names x)
expression-made n names (compare op w x y) =
    let p = numbered n names x in
    let q = numbered (n + length p.units) names y in
    with-operation (p.units ++ q.units) _ _ refl (made-both p.units q.units (reads_of x) (reads_of y) (expression-made n names x) (expression-made (n + length p.units) names y))
expression-made n names (select w c x y) =
    let o = numbered n names c in
    let p = numbered (n + length o.units) names x in
    let q = numbered (n + length (o.units ++ p.units)) names y in
    with-operation ((o.units ++ p.units) ++ q.units) _ _ refl
    (made-both (o.units ++ p.units) q.units (reads_of c ++ reads_of x) (reads_of y) (made-both o.units p.units (reads_of c) (reads_of x) (expression-made n names c) (expression-made (n + length o.units) names x)) (expression-made (n + length (o.units ++ p.units)) names y)
    ∙ ap (map access_of) (append_assoc (reads_of c) (reads_of x) (reads_of y)))

statements-made : (n : ℕ) (names : List Wanted) (ss : List Statement) → made (units_from n names ss) ≡ map access_of (flat_map statement_accesses ss)
statements-made n names [] = refl
statements-made n names (assign e ∷ ss) =
    let p = numbered n names e in
    made-both p.units (units_from (n + length p.units) (names ++ p.value ∷ []) ss) (reads_of e) (flat_map statement_accesses ss) (expression-made n names e) (statements-made (n + length p.units) (names ++ p.value ∷ []) ss)
statements-made n names (store w a e ∷ ss) =
    let p = numbered n names e in
    made-both (p.units ++ Store a w p.value ∷ []) (units_from (n + length p.units + 1) names ss) (statement_accesses (store w a e)) (flat_map statement_accesses ss)
    (made-both p.units (Store a w p.value ∷ []) (reads_of e) _ (expression-made n names e) refl)
    (statements-made (n + length p.units + 1) names ss)

pub same-accesses : SameAccesses
same-accesses k ssa is = ap made is.units ∙ statements-made (first_unit k) [] k.statements

-- ---- layouts

kind-flag : (kind : KParamKind) → noalias_of (kind_of kind) ≡ elim kind as (λ k. Option Bool) [ kinds.Pointer noalias ↦ Some noalias | kinds.Integer w ↦ None ]
kind-flag (kinds.Pointer noalias) = refl
kind-flag (kinds.Integer w) = refl

same-flags : (ps : List KParam) → filter_map (λ q. noalias_of q.kind) (map param_of ps) ≡ filter_map kernel_noalias ps
same-flags [] = refl
same-flags (p ∷ ps) = λ i. cons_option (kind-flag p.kind i) (same-flags ps i)

abbrev back : Access → KernelAccess
back x = record { address = x.address; size = x.size; writes = x.writes }

get_or-map : {A B : Type 0} (f : A → B) (xs : List A) (k : ℕ) (d : A) → get_or (map f xs) k (f d) ≡ f (get_or xs k d)
get_or-map f [] k d = refl
get_or-map f (x ∷ xs) zero d = refl
get_or-map f (x ∷ xs) (suc k) d = get_or-map f xs k d

mapped-long : (xs : List KernelAccess) → length (map access_of xs) ≡ length xs
mapped-long [] = refl
mapped-long (x ∷ xs) = ap suc (mapped-long xs)

made-in : (xs : List KernelAccess) (x : KernelAccess) → Contains xs x → Contains (map access_of xs) (access_of x)
made-in xs x has = (has.0, (let below = has.1 in let long = mapped-long xs in omega arith), get_or-map access_of xs has.0 x ∙ ap access_of has.2)

made-back : (xs : List KernelAccess) (x : Access) → Contains (map access_of xs) x → Contains xs (back x)
made-back xs x has = (has.0, (let below = has.1 in let long = mapped-long xs in omega arith), ap back (sym (get_or-map access_of xs has.0 (back x)) ∙ has.2))

pub same-layouts : SameLayouts
same-layouts k ssa places is =
    let same = same-accesses k ssa is in
    let flags : noalias_flags ssa ≡ kernel_flags k = ap (filter_map (λ q. noalias_of q.kind)) is.params ∙ same-flags k.params in (
      (λ respects x y cx cy bound.
          respects (back x) (back y) (made-back (kernel_accesses k) x (subst (λ l. Contains l x) same cx)) (made-back (kernel_accesses k) y (subst (λ l. Contains l y) same cy))
          (bound.0, sym (λ i. unwrap_or (slice_get (flags i) x.address.pointer) false || unwrap_or (slice_get (flags i) y.address.pointer) false) ∙ bound.1, bound.2)),
      (λ respects x y cx cy bound.
          respects (access_of x) (access_of y) (subst (λ l. Contains l (access_of x)) (sym same) (made-in (kernel_accesses k) x cx)) (subst (λ l. Contains l (access_of y)) (sym same) (made-in (kernel_accesses k) y cy))
          (bound.0, (λ i. unwrap_or (slice_get (flags i) x.address.pointer) false || unwrap_or (slice_get (flags i) y.address.pointer) false) ∙ bound.1, bound.2)),
    )
