-- How many units a kernel has, and how many integer parameters stand before them.
use Rattle.std.proofs.Common.{◌≡◌, ℕ, suc, ◌+◌, List, [], ◌∷◌, ◌++◌, length, map, Option, Some, None, refl, sym, ap, ◌∙◌}
use Rattle.std.specs.Prelude.{sum_by, if◌then◌else◌}
use Rattle.std.specs.List.{cons_option}
use Rattle.std.proofs.lemmas.List.{length-append}
use Rattle.std.proofs.lemmas.List.Sums.{sum_by-cons}
use Rattle.vg_base.specs.declared.width.Width.{Width}
use Rattle.vg_kernel.specs.declared.parameter.KParam.{KParam}
use Rattle.vg_kernel.specs.declared.parameter.KParamKind.{KParamKind}
use Rattle.vg_kernel.specs.declared.parameter.KParamKind.TheVariants as kinds
use Rattle.vg_kernel.specs.Cost.{expression_cost, statement_cost}
use Rattle.vg_kernel.specs.Tree.{Expression, argument, assigned, literal, load, two, shift, resize, compare, select, Statement, assign, store}
use Rattle.vg_kernel.specs.WellFormed.{integer_widths}
use Rattle.vg_shapes.specs.declared.ssa_unit.SsaUnit.{SsaUnit}
use Rattle.vg_shapes.specs.declared.ssa_unit.SsaUnit.TheVariants.{Store}
use Rattle.vg_shapes.specs.declared.wanted.Wanted.{Wanted}
use Rattle.vg_shapes.specs.Units.{integers_of, is_integer}
use Rattle.vg_ssa.specs.Laws.{ArgumentsFirst, UnitsAreTheCost}
use Rattle.vg_ssa.specs.Numbering.{kind_of, numbered, param_of, units_from}

one-more : (us : List SsaUnit) (u : SsaUnit) → length (us ++ u ∷ []) ≡ length us + 1
one-more us u = length-append us (u ∷ [])

pub expression-units : (n : ℕ) (names : List Wanted) (e : Expression) → length (numbered n names e).units ≡ expression_cost e
expression-units n names (argument k w) = refl
expression-units n names (assigned k t) = refl
expression-units n names (literal w v) = refl
expression-units n names (load w a) = refl
expression-units n names (two op w x y) =
    let p = numbered n names x in
    let q = numbered (n + length p.units) names y in
    one-more (p.units ++ q.units) _ ∙ ap (λ k. k + 1) (length-append p.units q.units ∙ (λ i. expression-units n names x i + expression-units (n + length p.units) names y i))
expression-units n names (shift op w k x) = one-more (numbered n names x).units _ ∙ ap (λ k. k + 1) (expression-units n names x)
expression-units n names (resize op w v x) = one-more (numbered n names x).units _ ∙ ap (λ k. k + 1) (expression-units n names x)
expression-units n names (compare op w x y) =
    let p = numbered n names x in
    let q = numbered (n + length p.units) names y in
    one-more (p.units ++ q.units) _ ∙ ap (λ k. k + 1) (length-append p.units q.units ∙ (λ i. expression-units n names x i + expression-units (n + length p.units) names y i))
expression-units n names (select w c x y) =
    let o = numbered n names c in
    let p = numbered (n + length o.units) names x in
    let q = numbered (n + length (o.units ++ p.units)) names y in
    one-more ((o.units ++ p.units) ++ q.units) _ ∙ ap (λ k. k + 1) (length-append (o.units ++ p.units) q.units ∙ (λ i. (length-append o.units p.units ∙ (λ j. expression-units n names c j + expression-units (n + length o.units) names x j)) i + expression-units (n + length (o.units ++ p.units)) names y i))

statement-units : (n : ℕ) (names : List Wanted) (ss : List Statement) → length (units_from n names ss) ≡ sum_by statement_cost ss
statement-units n names [] = refl
statement-units n names (assign e ∷ ss) =
    let p = numbered n names e in
    length-append p.units (units_from (n + length p.units) (names ++ p.value ∷ []) ss)
    ∙ (λ i. expression-units n names e i + statement-units (n + length p.units) (names ++ p.value ∷ []) ss i)
    ∙ sym (sum_by-cons statement_cost (assign e) ss)
statement-units n names (store w a e ∷ ss) =
    let p = numbered n names e in
    length-append (p.units ++ Store a w p.value ∷ []) (units_from (n + length p.units + 1) names ss)
    ∙ (λ i. (one-more p.units (Store a w p.value) ∙ ap (λ k. k + 1) (expression-units n names e)) i + statement-units (n + length p.units + 1) names ss i)
    ∙ sym (sum_by-cons statement_cost (store w a e) ss)

pub units-are_the_cost : UnitsAreTheCost
units-are_the_cost k = statement-units (length (integer_widths k.params)) [] k.statements

-- ---- integer parameters

-- one parameter more, by its kind
shape-length : (kind : KParamKind) {A : Type 0} (x : A) (xs : List A) (ys : List Width) → length xs ≡ length ys
    → length (if is_integer (kind_of kind) then x ∷ xs else xs) ≡ length (cons_option (elim kind as (λ k. Option Width) [ kinds.Pointer noalias ↦ None | kinds.Integer w ↦ Some w ]) ys)
shape-length (kinds.Pointer noalias) x xs ys e = e
shape-length (kinds.Integer w) x xs ys e = ap suc e

pub arguments-first : (ps : List KParam) → length (integers_of (map param_of ps)) ≡ length (integer_widths ps)
arguments-first [] = refl
arguments-first (p ∷ ps) = shape-length p.kind (param_of p) (integers_of (map param_of ps)) (integer_widths ps) (arguments-first ps)

pub arguments_first : ArgumentsFirst
arguments_first k ssa is = ap (λ ps. length (integers_of ps)) is.params ∙ arguments-first k.params
