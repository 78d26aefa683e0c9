-- The accesses of a well-formed kernel: pointers that there are, offsets in their range, one to eight bytes.
use Rattle.std.proofs.Common.{ℕ, ◌≤◌, true, false, List, [], ◌∷◌, ◌++◌, length, arith, All}
use Rattle.std.specs.List.{flat_map}
use Rattle.std.proofs.lemmas.List.Elements.{All-nil, All-cons, All-append}
use Rattle.vg_base.specs.Offset.{IsAddress}
use Rattle.vg_base.specs.declared.width.Width.{Width}
use Rattle.vg_base.specs.declared.width.Width.TheVariants.{W8, W16, W32, W64}
use Rattle.vg_base.specs.Width.{size_of}
use Rattle.vg_kernel.specs.declared.parameter.KParam.{KParam}
use Rattle.vg_kernel.specs.declared.value_type.ValueType.{ValueType}
use Rattle.vg_kernel.specs.Tree.{Expression, argument, assigned, literal, load, two, shift, resize, compare, select, Statement, assign, store, Tree, gives}
use Rattle.vg_kernel.specs.WellFormed.{pointers, IsExpression, IsStatement, AreStatements, IsWellFormed}
use Rattle.vg_kernel.specs.Layout.{Access, reads_of, statement_accesses, accesses}

pub record IsKnown (n : ℕ) (x : Access) : Type 0 where
  pub address : IsAddress n x.address
  pub some : 1 ≤ x.size
  pub few : x.size ≤ 8

abbrev pub AreKnown : ℕ → List Access → Type 0
AreKnown n xs = All (IsKnown n) xs

some_bytes : (w : Width) → 1 ≤ size_of w
some_bytes W8 = omega arith
some_bytes W16 = omega arith
some_bytes W32 = omega arith
some_bytes W64 = omega arith

few_bytes : (w : Width) → size_of w ≤ 8
few_bytes W8 = omega arith
few_bytes W16 = omega arith
few_bytes W32 = omega arith
few_bytes W64 = omega arith

abbrev count : List KParam → ℕ
count ps = length (pointers ps)

none-known : (n : ℕ) → AreKnown n []
none-known n = All-nil (IsKnown n)

both-known : (n : ℕ) (xs ys : List Access) → AreKnown n xs → AreKnown n ys → AreKnown n (xs ++ ys)
both-known n xs ys = All-append (IsKnown n) xs ys

one-known : (n : ℕ) (x : Access) → IsKnown n x → AreKnown n (x ∷ [])
one-known n x is = All-cons (IsKnown n) x [] is (none-known n)

reads-known : (ps : List KParam) (given : List ValueType) (e : Expression) → IsExpression ps given e → AreKnown (count ps) (reads_of e)
reads-known ps given (argument k w) is = none-known (count ps)
reads-known ps given (assigned k t) is = none-known (count ps)
reads-known ps given (literal w n) is = none-known (count ps)
reads-known ps given (load w a) is = one-known (count ps) (record { address = a; size = size_of w; writes = false }) (record { address = is; some = some_bytes w; few = few_bytes w })
reads-known ps given (two op w x y) (a, b, c, d) = both-known (count ps) (reads_of x) (reads_of y) (reads-known ps given x c) (reads-known ps given y d)
reads-known ps given (shift op w k x) (a, b, c) = reads-known ps given x c
reads-known ps given (resize op w v x) (a, b, c) = reads-known ps given x c
reads-known ps given (compare op w x y) (a, b, c, d) = both-known (count ps) (reads_of x) (reads_of y) (reads-known ps given x c) (reads-known ps given y d)
reads-known ps given (select w t x y) (a, b, c, d, e, f) =
    both-known (count ps) (reads_of t) (reads_of x ++ reads_of y) (reads-known ps given t d) (both-known (count ps) (reads_of x) (reads_of y) (reads-known ps given x e) (reads-known ps given y f))

statement-known : (ps : List KParam) (given : List ValueType) (s : Statement) → IsStatement ps given s → AreKnown (count ps) (statement_accesses s)
statement-known ps given (assign e) (a, b) = reads-known ps given e a
statement-known ps given (store w to e) (a, b, c, d) =
    both-known (count ps) (reads_of e) (record { address = to; size = size_of w; writes = true } ∷ []) (reads-known ps given e b)
    (one-known (count ps) (record { address = to; size = size_of w; writes = true }) (record { address = a; some = some_bytes w; few = few_bytes w }))

statements-known : (ps : List KParam) (given : List ValueType) (ss : List Statement) → AreStatements ps given ss → AreKnown (count ps) (flat_map statement_accesses ss)
statements-known ps given [] all = none-known (count ps)
statements-known ps given (s ∷ ss) all = both-known (count ps) (statement_accesses s) (flat_map statement_accesses ss) (statement-known ps given s all.0) (statements-known ps (given ++ gives s) ss all.1)

pub accesses-known : (k : Tree) → IsWellFormed k → AreKnown (length (pointers k.params)) (accesses k)
accesses-known k is = statements-known k.params [] k.statements is.each
