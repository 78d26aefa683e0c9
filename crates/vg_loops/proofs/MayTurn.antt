-- What may be moved in the turns of a kernel that keeps the limits.
use Rattle.std.proofs.Common.{◌≡◌, ℕ, zero, suc, ◌+◌, ◌-◌, ◌*◌, ◌<◌, ◌≤◌, ◌^◌, List, [], ◌∷◌, ◌++◌, length, Option, Some, None, refl, sym, ap, ◌∙◌, true, arith, length-append, mul-le-mul_right, mul-le-mul_left}
use Rattle.std.specs.Prelude.{slice_get, sum_by}
use Rattle.std.specs.List.{flat_map}
use Rattle.std.proofs.lemmas.List.Sums.{sum_by-cons}
use Rattle.vg_base.specs.Width.{size_of}
use Rattle.vg_kernel.specs.declared.parameter.KParam.{KParam}
use Rattle.vg_kernel.specs.declared.value_type.ValueType.{ValueType}
use Rattle.vg_kernel.specs.Cost.{uses_of, statement_cost, expression_cost}
use Rattle.vg_kernel.specs.Layout.{reads_of, statement_accesses, accesses}
use Rattle.vg_kernel.specs.Tree.{Expression, argument, assigned, literal, load, two, shift, resize, compare, select, Statement, assign, store, gives}
use Rattle.vg_kernel.specs.WellFormed.{IsExpression, IsStatement, AreStatements, IsWellFormed}
use Rattle.vg_loop_laws.specs.Loops.{Loop}
use Rattle.vg_loop_laws.specs.Unrolled.{names_given, turn_statements, unrolled_from}
use Rattle.vg_loop_laws.specs.Limits.{KeepsLimits}
use Rattle.vg_loop_laws.proofs.Kept.{Stays, left_stays, right_stays, earlier_stays}
use Rattle.vg_loop_laws.proofs.KnownOffsets.{offsets-known}
use Rattle.vg_loops.specs.Counts.{stores_in}
use Rattle.vg_loops.specs.MayMove.{MayMove, StatementMayMove, MayAllMove}

known : (given : List ValueType) (k : ℕ) (t : ValueType) → slice_get given k ≡ Some t → k < length given
known [] k t e = absurd (cc)
known (g ∷ given) zero t e = omega arith
known (g ∷ given) (suc k) t e = let less = known given k t e in omega (arith, less)

expression-may : (ps : List KParam) (steps : List ℕ) (u names : ℕ) (given : List ValueType) (e : Expression)
    → IsExpression ps given e → Stays steps u (reads_of e) → names + length given < 2 ^ 32 → MayMove steps u names e
expression-may ps steps u names given (argument k w) is stays few = tt
expression-may ps steps u names given (assigned k t) is stays few = let less = known given k t is in omega (arith, less, few)
expression-may ps steps u names given (literal w n) is stays few = tt
expression-may ps steps u names given (load w a) is stays few = stays _ (0, omega arith, refl)
expression-may ps steps u names given (two op w x y) (a, b, c, d) stays few = (
  expression-may ps steps u names given x c (left_stays steps u (reads_of x) (reads_of y) stays) few,
  expression-may ps steps u names given y d (right_stays steps u (reads_of x) (reads_of y) stays) few,
)
expression-may ps steps u names given (shift op w k x) (a, b, c) stays few = expression-may ps steps u names given x c stays few
expression-may ps steps u names given (resize op w v x) (a, b, c) stays few = expression-may ps steps u names given x c stays few
expression-may ps steps u names given (compare op w x y) (a, b, c, d) stays few = (
  expression-may ps steps u names given x c (left_stays steps u (reads_of x) (reads_of y) stays) few,
  expression-may ps steps u names given y d (right_stays steps u (reads_of x) (reads_of y) stays) few,
)
expression-may ps steps u names given (select w t x y) (a, b, c, d, e, f) stays few =
    let branches = right_stays steps u (reads_of t) (reads_of x ++ reads_of y) stays in (
      expression-may ps steps u names given t d (left_stays steps u (reads_of t) (reads_of x ++ reads_of y) stays) few,
      expression-may ps steps u names given x e (left_stays steps u (reads_of x) (reads_of y) branches) few,
      expression-may ps steps u names given y f (right_stays steps u (reads_of x) (reads_of y) branches) few,
    )

statement-may : (ps : List KParam) (steps : List ℕ) (u names : ℕ) (given : List ValueType) (s : Statement)
    → IsStatement ps given s → Stays steps u (statement_accesses s) → names + length given < 2 ^ 32 → StatementMayMove steps u names s
statement-may ps steps u names given (assign e) (a, b) stays few = expression-may ps steps u names given e a stays few
statement-may ps steps u names given (store w to e) (a, b, c, d) stays few = (
  right_stays steps u (reads_of e) (record { address = to; size = size_of w; writes = true } ∷ []) stays _ (0, omega arith, refl),
  expression-may ps steps u names given e b (left_stays steps u (reads_of e) _ stays) few,
)

statements-may : (ps : List KParam) (steps : List ℕ) (u names : ℕ) (given : List ValueType) (ss : List Statement)
    → AreStatements ps given ss → Stays steps u (flat_map statement_accesses ss)
    → names + (length given + names_given ss) < 2 ^ 32 → MayAllMove steps u names ss
statements-may ps steps u names given [] all stays few = tt
statements-may ps steps u names given (s ∷ ss) all stays few =
    let split = length-append (gives s) (flat_map gives ss) in
    let more = length-append given (gives s) in (
      statement-may ps steps u names given s all.0 (left_stays steps u (statement_accesses s) (flat_map statement_accesses ss) stays) (omega (arith, few)),
      statements-may ps steps u names (given ++ gives s) ss all.1 (right_stays steps u (statement_accesses s) (flat_map statement_accesses ss) stays) (omega (arith, split, more, few)),
    )

pub few-names : (ss : List Statement) → names_given ss ≤ length ss
few-names [] = omega arith
few-names (assign e ∷ ss) = let more = few-names ss in omega (arith, more)
few-names (store w a e ∷ ss) = let more = few-names ss in omega (arith, more)

-- in each of the turns
pub turn-may : (l : Loop) (n u : ℕ) → IsWellFormed l.kernel → KeepsLimits l n → u < n
    → MayAllMove l.steps u (u * names_given l.kernel.statements) l.kernel.statements
turn-may l n u is limits less =
    let ss = l.kernel.statements in
    let few = few-names ss in
    let long = limits.statements in
    let given : (u + 1) * names_given ss ≤ n * names_given ss = mul-le-mul_right (names_given ss) (let up : u + 1 ≤ n = omega (arith, less) in up) in
    let split : (u + 1) * names_given ss ≡ u * names_given ss + names_given ss = omega arith in
    let turns : names_given ss * n ≤ length ss * n = mul-le-mul_right n few in
    let turned : names_given ss * n ≡ n * names_given ss = omega arith in
    let over : length ss * n ≡ n * length ss = omega arith in
    statements-may l.kernel.params l.steps u (u * names_given ss) [] ss is.each
    (earlier_stays l n u less (offsets-known l.kernel is) limits.offsets)
    (omega (arith, given, split, turns, turned, over, long))

-- the names of the turns before one of them have numbers of 32 bits
pub few-before : (l : Loop) (n u : ℕ) → KeepsLimits l n → u < n → u * names_given l.kernel.statements < 2 ^ 32
few-before l n u limits less =
    let ss = l.kernel.statements in
    let few = few-names ss in
    let long = limits.statements in
    let before : u * names_given ss ≤ n * names_given ss = mul-le-mul_right (names_given ss) (omega (arith, less)) in
    let given : n * names_given ss ≤ n * length ss = mul-le-mul_left n few in
    omega (arith, before, given, long)

turns-next : (steps : List ℕ) (ss : List Statement) (n u : ℕ) → unrolled_from steps ss (suc n) u ≡ turn_statements steps ss u ++ unrolled_from steps ss n (u + 1)
unfolding unrolled_from
turns-next steps ss n u = refl

turns-none : (steps : List ℕ) (ss : List Statement) (u : ℕ) → unrolled_from steps ss 0 u ≡ []
unfolding unrolled_from
turns-none steps ss u = refl

-- so many turns from one are that one, and the others
pub turns-from : (steps : List ℕ) (ss : List Statement) (n u : ℕ) → u < n
    → unrolled_from steps ss (n - u) u ≡ turn_statements steps ss u ++ unrolled_from steps ss (n - (u + 1)) (u + 1)
turns-from steps ss n u less =
    let split : n - u ≡ suc (n - (u + 1)) = omega (arith, less) in
    ap (λ (k : ℕ). unrolled_from steps ss k u) split ∙ turns-next steps ss (n - (u + 1)) u

pub turns-over : (steps : List ℕ) (ss : List Statement) (n u : ℕ) → n ≤ u → unrolled_from steps ss (n - u) u ≡ []
turns-over steps ss n u less =
    ap (λ (k : ℕ). unrolled_from steps ss k u) (let none : n - u ≡ 0 = omega (arith, less) in none) ∙ turns-none steps ss u

-- the cost of statements is what they use, and their stores
pub cost-split : (ss : List Statement) → sum_by statement_cost ss ≡ sum_by uses_of ss + stores_in ss
cost-split [] = refl
cost-split (assign e ∷ ss) =
    let more = cost-split ss in
    let whole = sum_by-cons statement_cost (assign e) ss in
    let used = sum_by-cons uses_of (assign e) ss in
    omega (arith, more, whole, used)
cost-split (store w a e ∷ ss) =
    let more = cost-split ss in
    let whole = sum_by-cons statement_cost (store w a e) ss in
    let used = sum_by-cons uses_of (store w a e) ss in
    omega (arith, more, whole, used)
