-- A kernel costs at most its loads and operations, and a store for each statement.
use Rattle.std.proofs.Common.{◌+◌, ◌≤◌, List, [], ◌∷◌, length, arith}
use Rattle.std.specs.Prelude.{sum_by}
use Rattle.std.proofs.lemmas.List.Sums.{sum_by-cons}
use Rattle.vg_kernel.specs.Cost.{uses_of, statement_cost}
use Rattle.vg_kernel.specs.Tree.{Statement, assign, store}

statement-cost : (s : Statement) → statement_cost s ≤ uses_of s + 1
statement-cost (assign e) = omega arith
statement-cost (store w a e) = omega arith

pub cost-most : (ss : List Statement) → sum_by statement_cost ss ≤ sum_by uses_of ss + length ss
cost-most [] = omega arith
cost-most (s ∷ ss) = omega (arith, sum_by-cons statement_cost s ss, sum_by-cons uses_of s ss, statement-cost s, cost-most ss)
