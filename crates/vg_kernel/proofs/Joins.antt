-- Operators after an expression, one step of reading them.
use Rattle.std.proofs.Common.{◌≡◌, ℕ, zero, suc, ◌+◌, ◌-◌, ◌<◌, ◌≤◌, Some, None, Ok, Err, refl, subst, arith}
use Rattle.std.proofs.lemmas.Bool.{le-leb, lt-leb}
use Rattle.vg_base.specs.Bind.{◌>>=◌}
use Rattle.vg_kernel.specs.declared.fault.KernelFault.{KernelFault}
use Rattle.vg_kernel.specs.declared.fault.KernelFault.TheVariants.{NestingTooDeep}
use Rattle.vg_kernel.specs.Expressions.{Inner, Scan, Part, Operator, operator_at, operand_at, join_at, joined_at, level_at}
use Rattle.vg_kernel.specs.Gives.{Fails}
use Rattle.vg_kernel.specs.Names.{Names}
use Rattle.vg_kernel.proofs.Failing.{fails-bind}

-- no operator follows
pub joined-none : (inner : Inner) (level room joins : ℕ) (left : Part) → operator_at (suc level) left.scan.reading ≡ None → joined_at inner level room joins left ≡ Ok left
unfolding joined_at
joined-none inner level room zero left e = rw e refl
joined-none inner level room (suc joins) left e = rw e refl

-- an operator above too many nodes
pub joined-deep : (inner : Inner) (level room joins : ℕ) (left : Part) (o : Operator) → operator_at (suc level) left.scan.reading ≡ Some o → room < left.depth → joined_at inner level room joins left ≡ Err (NestingTooDeep o.place)
unfolding joined_at
joined-deep inner level room zero left o e h = rw e refl
joined-deep inner level room (suc joins) left o e h = rw (e, lt-leb left.depth room h) refl

-- no operator more may follow
pub joined-full : (inner : Inner) (level room : ℕ) (left : Part) (o : Operator) → operator_at (suc level) left.scan.reading ≡ Some o → joined_at inner level room 0 left ≡ Err (NestingTooDeep o.place)
unfolding joined_at
joined-full inner level room left o e = rw e refl

-- one operator more
pub joined-step : (inner : Inner) (level room joins : ℕ) (left : Part) (o : Operator) → operator_at (suc level) left.scan.reading ≡ Some o → left.depth ≤ room → joined_at inner level room (suc joins) left ≡ (join_at inner level left o >>= joined_at inner level room joins)
unfolding joined_at
joined-step inner level room joins left o e h = rw (e, le-leb left.depth room h) refl

at_some : (n : ℕ) → 0 < n → suc (n - 1) ≡ n
at_some n h = omega arith

pub joined-more : (inner : Inner) (level room joins : ℕ) (left x : Part) (o : Operator) → operator_at (suc level) left.scan.reading ≡ Some o → left.depth ≤ room → 0 < joins → join_at inner level left o ≡ Ok x → joined_at inner level room (joins - 1) x ≡ joined_at inner level room joins left
joined-more inner level room joins left x o e h some f =
    subst (λ (n : ℕ). joined_at inner level room (joins - 1) x ≡ joined_at inner level room n left) (at_some joins some) (rw (joined-step inner level room (joins - 1) left o e h, f) refl)

pub joined-fails : (inner : Inner) (level room joins : ℕ) (left : Part) (o : Operator) (fault : KernelFault) → operator_at (suc level) left.scan.reading ≡ Some o → left.depth ≤ room → 0 < joins → Fails fault (join_at inner level left o) → Fails fault (joined_at inner level room joins left)
joined-fails inner level room joins left o fault e h some f =
    subst (λ (n : ℕ). Fails fault (joined_at inner level room n left)) (at_some joins some) (rw (joined-step inner level room (joins - 1) left o e h) (fails-bind fault (join_at inner level left o) (joined_at inner level room (joins - 1)) f))

-- one level more
pub level-more : (names : Names) (inner : Inner) (room level : ℕ) (s : Scan) (left next : Part) → level_at names inner room level s ≡ Ok left → joined_at inner level room room left ≡ Ok next → level_at names inner room (suc level) s ≡ Ok next
unfolding level_at
level-more names inner room level s left next e f = rw (e, f) refl

-- a fault of the operators of one level
pub level-fails : (names : Names) (inner : Inner) (room level : ℕ) (s : Scan) (left : Part) (fault : KernelFault) → level_at names inner room level s ≡ Ok left → Fails fault (joined_at inner level room room left) → Fails fault (level_at names inner room (suc level) s)
unfolding level_at
level-fails names inner room level s left fault e f = rw e f

-- a fault of one level is one of those above
pub levels-fail : (names : Names) (inner : Inner) (room : ℕ) (k level : ℕ) (s : Scan) (fault : KernelFault) → Fails fault (level_at names inner room level s) → Fails fault (level_at names inner room (k + level) s)
unfolding level_at
levels-fail names inner room zero level s fault f = let none : 0 + level ≡ level = omega arith in rw none f
levels-fail names inner room (suc k) level s fault f =
    let more : suc k + level ≡ suc (k + level) = omega arith in
    rw more (fails-bind fault (level_at names inner room (k + level) s) (joined_at inner (k + level) room room) (levels-fail names inner room k level s fault f))

-- a fault of the operand is one of each level
pub operand-fails : (names : Names) (inner : Inner) (room level : ℕ) (s : Scan) (fault : KernelFault) → Fails fault (operand_at names inner s) → Fails fault (level_at names inner room level s)
unfolding level_at
operand-fails names inner room level s fault f =
    let all : level + 0 ≡ level = omega arith in
    rw all at (levels-fail names inner room level 0 s fault f)

-- the tightest level is the operand
pub first_level : (names : Names) (inner : Inner) (room : ℕ) (s : Scan) → level_at names inner room 0 s ≡ operand_at names inner s
unfolding level_at
first_level names inner room s = refl
