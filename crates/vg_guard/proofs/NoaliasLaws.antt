-- A kernel with every pointer noalias has the same pointers, integers, names and accesses.
use Rattle.std.proofs.Common.{◌≡◌, suc, ◌≤◌, ◌++◌, Bool, true, false, cond, List, [], ◌∷◌, length, map, Option, Some, None, refl, sym, ap, subst, ◌∙◌}
use Rattle.std.specs.Prelude.{slice_get, IsTrue}
use Rattle.std.specs.List.{AllByRecursion, IsDistinct, cons_option}
use Rattle.std.specs.Str.{bytes_eq}
use Rattle.vg_base.specs.Offset.{IsAddress}
use Rattle.vg_base.specs.declared.width.Width.{Width}
use Rattle.vg_kernel.specs.declared.parameter.KParam.{KParam}
use Rattle.vg_kernel.specs.declared.parameter.KParamKind.{KParamKind}
use Rattle.vg_kernel.specs.declared.parameter.KParamKind.TheVariants.{Pointer, Integer}
use Rattle.vg_kernel.specs.declared.value_type.ValueType.{ValueType}
use Rattle.vg_kernel.specs.Tree.{Expression, argument, assigned, literal, load, two, shift, resize, compare, select, Statement, assign, store, gives}
use Rattle.vg_kernel.specs.Words.{is_free}
use Rattle.vg_kernel.specs.Names.{is_pointer}
use Rattle.vg_kernel.specs.WellFormed.{pointers, integer_widths, IsExpression, IsStatement, AreStatements}
use Rattle.vg_guard.specs.Noalias.{noalias_kind, noalias_param}
use Rattle.vg_guard.specs.Laws.{NoaliasIsWellFormed}

pointer-kept : (kind : KParamKind) → is_pointer (noalias_kind kind) ≡ is_pointer kind
pointer-kept (Pointer noalias) = refl
pointer-kept (Integer w) = refl

one_longer : (b : Bool) (p q : KParam) (xs ys : List KParam) → length xs ≡ length ys → length (cond b (p ∷ xs) xs) ≡ length (cond b (q ∷ ys) ys)
one_longer true p q xs ys e = ap suc e
one_longer false p q xs ys e = e

pub pointers-kept : (ps : List KParam) → length (pointers (map noalias_param ps)) ≡ length (pointers ps)
pointers-kept [] = refl
pointers-kept (p ∷ ps) =
    ap (λ (b : Bool). length (cond b (noalias_param p ∷ pointers (map noalias_param ps)) (pointers (map noalias_param ps)))) (pointer-kept p.kind)
    ∙ one_longer (is_pointer p.kind) (noalias_param p) p _ _ (pointers-kept ps)

width-kept : (kind : KParamKind) → elim (noalias_kind kind) as (λ k. Option Width) [ Pointer noalias ↦ None | Integer w ↦ Some w ] ≡ elim kind as (λ k. Option Width) [ Pointer noalias ↦ None | Integer w ↦ Some w ]
width-kept (Pointer noalias) = refl
width-kept (Integer w) = refl

pub widths-kept : (ps : List KParam) → integer_widths (map noalias_param ps) ≡ integer_widths ps
widths-kept [] = refl
widths-kept (p ∷ ps) = λ i. cons_option (width-kept p.kind i) (widths-kept ps i)

long-kept : (ps : List KParam) → length (map noalias_param ps) ≡ length ps
long-kept [] = refl
long-kept (p ∷ ps) = ap suc (long-kept ps)

names-kept : (ps : List KParam) → map (λ p. p.name) (map noalias_param ps) ≡ map (λ p. p.name) ps
names-kept [] = refl
names-kept (p ∷ ps) = ap (λ ns. p.name ∷ ns) (names-kept ps)

free-kept : (ps : List KParam) → AllByRecursion (λ p. IsTrue (is_free p.name)) ps → AllByRecursion (λ p. IsTrue (is_free p.name)) (map noalias_param ps)
free-kept [] all = tt
free-kept (p ∷ ps) all = (all.0, free-kept ps all.1)

-- the rules on expressions ask of parameters only how many pointers and which integers there are
record AreAlike (ps qs : List KParam) : Type 0 where
  widths : integer_widths ps ≡ integer_widths qs
  count : length (pointers ps) ≡ length (pointers qs)

address-alike : (ps qs : List KParam) → AreAlike ps qs → (a : _) → IsAddress (length (pointers ps)) a → IsAddress (length (pointers qs)) a
address-alike ps qs are a is = subst (λ n. IsAddress n a) are.count is

expression-alike : (ps qs : List KParam) → AreAlike ps qs → (given : List ValueType) (e : Expression) → IsExpression ps given e → IsExpression qs given e
expression-alike ps qs are given (argument k w) is = subst (λ ws. slice_get ws k ≡ Some w) are.widths is
expression-alike ps qs are given (assigned k t) is = is
expression-alike ps qs are given (literal w n) is = is
expression-alike ps qs are given (load w a) is = address-alike ps qs are a is
expression-alike ps qs are given (two op w x y) (a, b, c, d) = (a, b, expression-alike ps qs are given x c, expression-alike ps qs are given y d)
expression-alike ps qs are given (shift op w k x) (a, b, c) = (a, b, expression-alike ps qs are given x c)
expression-alike ps qs are given (resize op w v x) (a, b, c) = (a, b, expression-alike ps qs are given x c)
expression-alike ps qs are given (compare op w x y) (a, b, c, d) = (a, b, expression-alike ps qs are given x c, expression-alike ps qs are given y d)
expression-alike ps qs are given (select w t x y) (a, b, c, d, e, f) = (a, b, c, expression-alike ps qs are given t d, expression-alike ps qs are given x e, expression-alike ps qs are given y f)

statement-alike : (ps qs : List KParam) → AreAlike ps qs → (given : List ValueType) (s : Statement) → IsStatement ps given s → IsStatement qs given s
statement-alike ps qs are given (assign e) (a, b) = (expression-alike ps qs are given e a, b)
statement-alike ps qs are given (store w to e) (a, b, c, d) = (address-alike ps qs are to a, expression-alike ps qs are given e b, c, d)

statements-alike : (ps qs : List KParam) → AreAlike ps qs → (given : List ValueType) (ss : List Statement) → AreStatements ps given ss → AreStatements qs given ss
statements-alike ps qs are given [] all = tt
statements-alike ps qs are given (s ∷ ss) all = (statement-alike ps qs are given s all.0, statements-alike ps qs are (given ++ gives s) ss all.1)

pub noalias-is-well_formed : NoaliasIsWellFormed
noalias-is-well_formed k is = record {
  name = is.name;
  names = free-kept k.params is.names;
  distinct = subst (IsDistinct bytes_eq) (sym (names-kept k.params)) is.distinct;
  params = subst (λ n. n ≤ 16) (sym (long-kept k.params)) is.params;
  each = statements-alike k.params (map noalias_param k.params) (record { widths = sym (widths-kept k.params); count = sym (pointers-kept k.params) }) [] k.statements is.each;
  statements = is.statements;
  uses = is.uses;
}
