-- The kernel of many turns is well formed, and costs as many times what one costs.
use Rattle.std.proofs.Common.{◌≡◌, ℕ, zero, suc, ◌+◌, ◌-◌, ◌*◌, ◌<◌, ◌≤◌, ◌^◌, max, ℤ, pos, negsuc, List, [], ◌∷◌, ◌++◌, length, map, Some, refl, sym, ap, subst, ◌∙◌, arith, append_assoc, append-nil, length-append, Contains, get_or-append-add, mul-le-mul_right}
use Rattle.std.specs.Prelude.{◌+ℤ◌, ◌≤ℤ◌, slice_get, slice_index, sum_by, true}
use Rattle.std.specs.List.{flat_map}
use Rattle.std.proofs.lemmas.Int.{ints}
use Rattle.std.proofs.lemmas.List.Elements.{Contains-append_left, Contains-append_right}
use Rattle.std.proofs.lemmas.List.Sums.{sum_by-cons, sum_by-append}
use Rattle.vg_base.specs.declared.address.Address.{Address}
use Rattle.vg_base.specs.Offset.{IsOffset, IsAddress}
use Rattle.vg_base.specs.Width.{size_of}
use Rattle.vg_kernel.specs.declared.parameter.KParam.{KParam}
use Rattle.vg_kernel.specs.declared.value_type.ValueType.{ValueType}
use Rattle.vg_kernel.specs.declared.value_type.ValueType.TheVariants as types
use Rattle.vg_kernel.specs.Cost.{expression_cost, uses_of, statement_cost, scalar_cost}
use Rattle.vg_kernel.specs.Layout.{Access, reads_of, statement_accesses, accesses}
use Rattle.vg_kernel.specs.Tree.{Expression, argument, assigned, literal, load, two, shift, resize, compare, select, Statement, assign, store, Tree, type_of, gives}
use Rattle.vg_kernel.specs.WellFormed.{pointers, IsExpression, depth, IsStatement, AreStatements, IsWellFormed}
use Rattle.vg_loop_laws.specs.Loops.{Loop}
use Rattle.vg_loop_laws.specs.Unrolled.{moved, moved_address, moved_statement, names_given, turn_statements, unrolled_from, unrolled}
use Rattle.vg_loop_laws.proofs.KnownOffsets.{offsets-known}
use Rattle.vg_loop_laws.specs.Limits.{KeepsLimits}
use Rattle.vg_loop_laws.specs.Laws.{UnrolledIsWellFormed, UnrolledCosts, OneTurnIsTheKernel}

-- ---- what stays

type-stays : (steps : List ℕ) (u names : ℕ) (e : Expression) → type_of (moved steps u names e) ≡ type_of e
type-stays steps u names (argument k w) = refl
type-stays steps u names (assigned k t) = refl
type-stays steps u names (literal w n) = refl
type-stays steps u names (load w a) = refl
type-stays steps u names (two op w x y) = refl
type-stays steps u names (shift op w k x) = refl
type-stays steps u names (resize op w v x) = refl
type-stays steps u names (compare op w x y) = refl
type-stays steps u names (select w c x y) = refl

depth-stays : (steps : List ℕ) (u names : ℕ) (e : Expression) → depth (moved steps u names e) ≡ depth e
depth-stays steps u names (argument k w) = refl
depth-stays steps u names (assigned k t) = refl
depth-stays steps u names (literal w n) = refl
depth-stays steps u names (load w a) = refl
depth-stays steps u names (two op w x y) = λ i. max (depth-stays steps u names x i) (depth-stays steps u names y i) + 1
depth-stays steps u names (shift op w k x) = λ i. depth-stays steps u names x i + 1
depth-stays steps u names (resize op w v x) = λ i. depth-stays steps u names x i + 1
depth-stays steps u names (compare op w x y) = λ i. max (depth-stays steps u names x i) (depth-stays steps u names y i) + 1
depth-stays steps u names (select w c x y) = λ i. max (depth-stays steps u names c i) (max (depth-stays steps u names x i) (depth-stays steps u names y i)) + 1

cost-stays : (steps : List ℕ) (u names : ℕ) (e : Expression) → expression_cost (moved steps u names e) ≡ expression_cost e
cost-stays steps u names (argument k w) = refl
cost-stays steps u names (assigned k t) = refl
cost-stays steps u names (literal w n) = refl
cost-stays steps u names (load w a) = refl
cost-stays steps u names (two op w x y) = λ i. cost-stays steps u names x i + cost-stays steps u names y i + 1
cost-stays steps u names (shift op w k x) = λ i. cost-stays steps u names x i + 1
cost-stays steps u names (resize op w v x) = λ i. cost-stays steps u names x i + 1
cost-stays steps u names (compare op w x y) = λ i. cost-stays steps u names x i + cost-stays steps u names y i + 1
cost-stays steps u names (select w c x y) = λ i. cost-stays steps u names c i + cost-stays steps u names x i + cost-stays steps u names y i + 1

uses-stay : (steps : List ℕ) (u names : ℕ) (s : Statement) → uses_of (moved_statement steps u names s) ≡ uses_of s
uses-stay steps u names (assign e) = cost-stays steps u names e
uses-stay steps u names (store w a e) = cost-stays steps u names e

statement_cost-stays : (steps : List ℕ) (u names : ℕ) (s : Statement) → statement_cost (moved_statement steps u names s) ≡ statement_cost s
statement_cost-stays steps u names (assign e) = cost-stays steps u names e
statement_cost-stays steps u names (store w a e) = λ i. cost-stays steps u names e i + 1

gives-stay : (steps : List ℕ) (u names : ℕ) (s : Statement) → gives (moved_statement steps u names s) ≡ gives s
gives-stay steps u names (assign e) = ap (λ t. t ∷ []) (type-stays steps u names e)
gives-stay steps u names (store w a e) = refl

all_gives-stay : (steps : List ℕ) (u names : ℕ) (ss : List Statement) → flat_map gives (map (moved_statement steps u names) ss) ≡ flat_map gives ss
all_gives-stay steps u names [] = refl
all_gives-stay steps u names (s ∷ ss) = λ i. gives-stay steps u names s i ++ all_gives-stay steps u names ss i

sum-stays : (f : Statement → ℕ) (steps : List ℕ) (u names : ℕ) → ((s : Statement) → f (moved_statement steps u names s) ≡ f s) → (ss : List Statement) → sum_by f (map (moved_statement steps u names) ss) ≡ sum_by f ss
sum-stays f steps u names same [] = refl
sum-stays f steps u names same (s ∷ ss) =
    sum_by-cons f (moved_statement steps u names s) (map (moved_statement steps u names) ss)
    ∙ (λ i. same s i + sum-stays f steps u names same ss i) ∙ sym (sum_by-cons f s ss)

sum-turns : (f : Statement → ℕ) (steps : List ℕ) → ((u names : ℕ) (s : Statement) → f (moved_statement steps u names s) ≡ f s) → (ss : List Statement) (n u : ℕ) → sum_by f (unrolled_from steps ss n u) ≡ n * sum_by f ss
unfolding unrolled_from
sum-turns f steps same ss zero u = omega arith
sum-turns f steps same ss (suc n) u =
    let joined = sum_by-append f (turn_statements steps ss u) (unrolled_from steps ss n (u + 1)) in
    let first = sum-stays f steps u (u * names_given ss) (same u (u * names_given ss)) ss in
    let more = sum-turns f steps same ss n (u + 1) in
    omega (arith, joined, first, more)

long-map : (steps : List ℕ) (u names : ℕ) (ss : List Statement) → length (map (moved_statement steps u names) ss) ≡ length ss
long-map steps u names [] = refl
long-map steps u names (s ∷ ss) = ap suc (long-map steps u names ss)

long-turns : (steps : List ℕ) (ss : List Statement) (n u : ℕ) → length (unrolled_from steps ss n u) ≡ n * length ss
unfolding unrolled_from
long-turns steps ss zero u = omega arith
long-turns steps ss (suc n) u =
    let joined = length-append (turn_statements steps ss u) (unrolled_from steps ss n (u + 1)) in
    let first = long-map steps u (u * names_given ss) ss in
    let more = long-turns steps ss n (u + 1) in
    omega (arith, joined, first, more)

pub unrolled-costs : UnrolledCosts
unrolled-costs l n = sum-turns statement_cost l.steps (λ u names s. statement_cost-stays l.steps u names s) l.kernel.statements n 0

-- ---- the rules

abbrev pub Stays : List ℕ → ℕ → List Access → Type 0
Stays steps u xs = (x : Access) → Contains xs x → IsOffset (moved_address steps u x.address).offset

pub left_stays : (steps : List ℕ) (u : ℕ) (xs ys : List Access) → Stays steps u (xs ++ ys) → Stays steps u xs
left_stays steps u xs ys h x has = h x (Contains-append_left xs ys x has)

pub right_stays : (steps : List ℕ) (u : ℕ) (xs ys : List Access) → Stays steps u (xs ++ ys) → Stays steps u ys
right_stays steps u xs ys h x has = h x (Contains-append_right xs ys x has)

behind_get : (before given : List ValueType) (k : ℕ) (t : ValueType) → slice_get given k ≡ Some t → slice_get (before ++ given) (length before + k) ≡ Some t
behind_get [] given k t e = ap (slice_get given) (let none : 0 + k ≡ k = omega arith in none) ∙ e
behind_get (b ∷ before) given k t e =
    ap (slice_get (b ∷ (before ++ given))) (let next : suc (length before) + k ≡ suc (length before + k) = omega arith in next) ∙ behind_get before given k t e

address-moved : (n : ℕ) (steps : List ℕ) (u : ℕ) (a : Address) → IsAddress n a → IsOffset (moved_address steps u a).offset → IsAddress n (moved_address steps u a)
address-moved n steps u a is stays = record { pointer = is.pointer; offset = stays }

expression-moved : (ps : List KParam) (steps : List ℕ) (u : ℕ) (before given : List ValueType) (e : Expression) → IsExpression ps given e → Stays steps u (reads_of e) → IsExpression ps (before ++ given) (moved steps u (length before) e)
expression-moved ps steps u before given (argument k w) is stays = is
expression-moved ps steps u before given (assigned k t) is stays = behind_get before given k t is
expression-moved ps steps u before given (literal w n) is stays = is
expression-moved ps steps u before given (load w a) is stays = address-moved (length (pointers ps)) steps u a is (stays _ (0, omega arith, refl))
expression-moved ps steps u before given (two op w x y) (a, b, c, d) stays =
    (type-stays steps u (length before) x ∙ a, type-stays steps u (length before) y ∙ b, expression-moved ps steps u before given x c (left_stays steps u (reads_of x) (reads_of y) stays), expression-moved ps steps u before given y d (right_stays steps u (reads_of x) (reads_of y) stays))
expression-moved ps steps u before given (shift op w k x) (a, b, c) stays = (type-stays steps u (length before) x ∙ a, b, expression-moved ps steps u before given x c stays)
expression-moved ps steps u before given (resize op w v x) (a, b, c) stays = (type-stays steps u (length before) x ∙ a, b, expression-moved ps steps u before given x c stays)
expression-moved ps steps u before given (compare op w x y) (a, b, c, d) stays =
    (type-stays steps u (length before) x ∙ a, type-stays steps u (length before) y ∙ b, expression-moved ps steps u before given x c (left_stays steps u (reads_of x) (reads_of y) stays), expression-moved ps steps u before given y d (right_stays steps u (reads_of x) (reads_of y) stays))
expression-moved ps steps u before given (select w t x y) (a, b, c, d, e, f) stays =
    let rest = right_stays steps u (reads_of t) (reads_of x ++ reads_of y) stays in (
      type-stays steps u (length before) t ∙ a,
      type-stays steps u (length before) x ∙ b,
      type-stays steps u (length before) y ∙ c,
      expression-moved ps steps u before given t d (left_stays steps u (reads_of t) (reads_of x ++ reads_of y) stays),
      expression-moved ps steps u before given x e (left_stays steps u (reads_of x) (reads_of y) rest),
      expression-moved ps steps u before given y f (right_stays steps u (reads_of x) (reads_of y) rest),
    )

statement-moved : (ps : List KParam) (steps : List ℕ) (u : ℕ) (before given : List ValueType) (s : Statement) → IsStatement ps given s → Stays steps u (statement_accesses s) → IsStatement ps (before ++ given) (moved_statement steps u (length before) s)
statement-moved ps steps u before given (assign e) (a, b) stays = (expression-moved ps steps u before given e a stays, subst (λ n. n ≤ 256) (sym (depth-stays steps u (length before) e)) b)
statement-moved ps steps u before given (store w to e) (a, b, c, d) stays = (
  address-moved (length (pointers ps)) steps u to a (right_stays steps u (reads_of e) (record { address = to; size = size_of w; writes = true } ∷ []) stays _ (0, omega arith, refl)),
  expression-moved ps steps u before given e b (left_stays steps u (reads_of e) _ stays),
  subst (λ n. n ≤ 256) (sym (depth-stays steps u (length before) e)) c,
  type-stays steps u (length before) e ∙ d,
)

statements-moved : (ps : List KParam) (steps : List ℕ) (u : ℕ) (before given : List ValueType) (ss : List Statement) → AreStatements ps given ss → Stays steps u (flat_map statement_accesses ss) → AreStatements ps (before ++ given) (map (moved_statement steps u (length before)) ss)
statements-moved ps steps u before given [] all stays = tt
statements-moved ps steps u before given (s ∷ ss) all stays =
    let more = statements-moved ps steps u before (given ++ gives s) ss all.1 (right_stays steps u (statement_accesses s) (flat_map statement_accesses ss) stays) in
    let same : before ++ (given ++ gives s) ≡ (before ++ given) ++ gives (moved_statement steps u (length before) s) = sym (append_assoc before given (gives s)) ∙ ap (λ ts. (before ++ given) ++ ts) (sym (gives-stay steps u (length before) s)) in
    (statement-moved ps steps u before given s all.0 (left_stays steps u (statement_accesses s) (flat_map statement_accesses ss) stays), subst (λ ts. AreStatements ps ts (map (moved_statement steps u (length before)) ss)) same more)

statements-joined : (ps : List KParam) (given : List ValueType) (xs ys : List Statement) → AreStatements ps given xs → AreStatements ps (given ++ flat_map gives xs) ys → AreStatements ps given (xs ++ ys)
statements-joined ps given [] ys all more = subst (λ ts. AreStatements ps ts ys) (append-nil given) more
statements-joined ps given (x ∷ xs) ys all more =
    (all.0, statements-joined ps (given ++ gives x) xs ys all.1 (subst (λ ts. AreStatements ps ts ys) (sym (append_assoc given (gives x) (flat_map gives xs))) more))

turns-moved : (ps : List KParam) (steps : List ℕ) (ss : List Statement) → AreStatements ps [] ss → (n u : ℕ) (before : List ValueType) → length before ≡ u * names_given ss
    → ((t : ℕ) → t < u + n → Stays steps t (flat_map statement_accesses ss)) → AreStatements ps before (unrolled_from steps ss n u)
unfolding unrolled_from
turns-moved ps steps ss all zero u before given stays = tt
turns-moved ps steps ss all (suc n) u before given stays =
    let first = statements-moved ps steps u before [] ss all (stays u (omega arith)) in
    let turn : AreStatements ps before (turn_statements steps ss u) = subst (λ k. AreStatements ps before (map (moved_statement steps u k) ss)) given (subst (λ ts. AreStatements ps ts (map (moved_statement steps u (length before)) ss)) (append-nil before) first) in
    let names : flat_map gives (turn_statements steps ss u) ≡ flat_map gives ss = all_gives-stay steps u (u * names_given ss) ss in
    let long : length (before ++ flat_map gives (turn_statements steps ss u)) ≡ (u + 1) * names_given ss = (let joined = length-append before (flat_map gives ss) in ap (λ ts. length (before ++ ts)) names ∙ omega (arith, joined, given)) in
    statements-joined ps before (turn_statements steps ss u) (unrolled_from steps ss n (u + 1)) turn
    (turns-moved ps steps ss all n (u + 1) (before ++ flat_map gives (turn_statements steps ss u)) long (λ t less. stays t (omega (arith, less))))

-- offsets between two that are in their range
between : (o : ℤ) (low high : ℕ) → IsOffset o → low ≤ high → IsOffset (o +ℤ pos high) → IsOffset (o +ℤ pos low)
between o low high a less b = within (o +ℤ pos low) (o +ℤ pos high) o (omega (arith, ints, less)) (omega (arith, ints)) a b
  where
    within : (z top o : ℤ) → z ≤ℤ top → o ≤ℤ z → IsOffset o → IsOffset top → IsOffset z
    within (pos n) (pos t) o h g a b = omega (arith, ints, h, b)
    within (pos n) (negsuc t) o h g a b = absurd (omega (arith, ints, h))
    within (negsuc n) top (pos k) h g a b = absurd (omega (arith, ints, g))
    within (negsuc n) top (negsuc k) h g a b = omega (arith, ints, g, a)

pub earlier_stays : (l : Loop) (n t : ℕ) → t < n → ((x : Access) → Contains (accesses l.kernel) x → IsOffset x.address.offset) → Stays l.steps (n - 1) (accesses l.kernel) → Stays l.steps t (accesses l.kernel)
earlier_stays l n t less own last x has =
    between x.address.offset (t * slice_index l.steps x.address.pointer) ((n - 1) * slice_index l.steps x.address.pointer) (own x has) (mul-le-mul_right (slice_index l.steps x.address.pointer) (let up : t ≤ n - 1 = omega (arith, less) in up)) (last x has)

pub unrolled-is-well_formed : UnrolledIsWellFormed
unrolled-is-well_formed l n is limits = record {
  name = is.name;
  names = is.names;
  distinct = is.distinct;
  params = is.params;
  each = turns-moved l.kernel.params l.steps l.kernel.statements is.each n 0 [] (omega arith) (λ t less. earlier_stays l n t (omega (arith, less)) (offsets-known l.kernel is) limits.offsets);
  statements = (let long = long-turns l.steps l.kernel.statements n 0 in let few = limits.statements in omega (arith, long, few));
  uses = (let sum = sum-turns uses_of l.steps (λ u names s. uses-stay l.steps u names s) l.kernel.statements n 0 in let few = limits.uses in omega (arith, sum, few));
}

-- ---- one turn

pub address-one : (steps : List ℕ) (a : Address) → moved_address steps 0 a ≡ a
address-one steps a = ap (λ (o : ℤ). record { pointer = a.pointer; offset = o }) (none a.offset (slice_index steps a.pointer))
  where
    none : (o : ℤ) (s : ℕ) → o +ℤ pos (0 * s) ≡ o
    none o s = let nothing : 0 * s ≡ 0 = omega arith in ap (λ (k : ℕ). o +ℤ pos k) nothing ∙ added o
      where
        added : (o : ℤ) → o +ℤ pos 0 ≡ o
        added o = grind (arith, ints)

expression-one : (steps : List ℕ) (e : Expression) → moved steps 0 0 e ≡ e
expression-one steps (argument k w) = refl
expression-one steps (assigned k t) = ap (λ (j : ℕ). assigned j t) (let none : 0 + k ≡ k = omega arith in none)
expression-one steps (literal w n) = refl
expression-one steps (load w a) = ap (load w) (address-one steps a)
expression-one steps (two op w x y) = λ i. two op w (expression-one steps x i) (expression-one steps y i)
expression-one steps (shift op w k x) = ap (shift op w k) (expression-one steps x)
expression-one steps (resize op w v x) = ap (resize op w v) (expression-one steps x)
expression-one steps (compare op w x y) = λ i. compare op w (expression-one steps x i) (expression-one steps y i)
expression-one steps (select w c x y) = λ i. select w (expression-one steps c i) (expression-one steps x i) (expression-one steps y i)

statement-one : (steps : List ℕ) (s : Statement) → moved_statement steps 0 0 s ≡ s
statement-one steps (assign e) = ap assign (expression-one steps e)
statement-one steps (store w a e) = λ i. store w (address-one steps a i) (expression-one steps e i)

statements-one : (steps : List ℕ) (ss : List Statement) → map (moved_statement steps 0 0) ss ≡ ss
statements-one steps [] = refl
statements-one steps (s ∷ ss) = λ i. statement-one steps s i ∷ statements-one steps ss i

turns-one : (steps : List ℕ) (ss : List Statement) → unrolled_from steps ss 1 0 ≡ ss
unfolding unrolled_from
turns-one steps ss =
    append-nil (turn_statements steps ss 0)
    ∙ ap (λ (k : ℕ). map (moved_statement steps 0 k) ss) (let none : 0 * names_given ss ≡ 0 = omega arith in none)
    ∙ statements-one steps ss

pub one-turn-is-the-kernel : OneTurnIsTheKernel
one-turn-is-the-kernel l = ap (λ (ss : List Statement). record { name = l.kernel.name; params = l.kernel.params; statements = ss }) (turns-one l.steps l.kernel.statements)
