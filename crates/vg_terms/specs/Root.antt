-- The root of a term, and what stands below it.
use Rattle.std.specs.Prelude.{ℕ, Bool, true, false, nat_eq}
use Rattle.vg_terms.specs.declared.term.OneOp.{OneOp}
use Rattle.vg_terms.specs.declared.term.TwoOp.{TwoOp}
use Rattle.vg_terms.specs.Term.{Tree, leaf, constant, one, two, sel}
use Rattle.vg_terms.specs.Order.{one_tag}

abbrev pub is_constant : Tree → Bool
is_constant (constant w v) = true
is_constant _ = false

-- the term is a constant, and this number
abbrev pub is_number : ℕ → Tree → Bool
is_number n (constant w v) = nat_eq v n
is_number n _ = false

-- the term is this operation on one term
abbrev pub is_one : OneOp → Tree → Bool
is_one op (one o w k x) = nat_eq (one_tag op) (one_tag o)
is_one op _ = false

-- the operation at the root, if it is on one term, or on two; else the other
abbrev pub one_op_or : OneOp → Tree → OneOp
one_op_or other (one op w k x) = op
one_op_or other _ = other

abbrev pub two_op_or : TwoOp → Tree → TwoOp
two_op_or other (two op w x y) = op
two_op_or other _ = other

-- the amount of a shift, else 0
abbrev pub amount_of : Tree → ℕ
amount_of (one op w k x) = k
amount_of _ = 0

-- the child of an operation on one term, else the term itself
abbrev pub below : Tree → Tree
below (one op w k x) = x
below (leaf w k) = leaf w k
below (constant w v) = constant w v
below (two op w x y) = two op w x y
below (sel w c x y) = sel w c x y

-- the first child of an operation on two terms, else the term itself
abbrev pub first_of : Tree → Tree
first_of (two op w x y) = x
first_of (leaf w k) = leaf w k
first_of (constant w v) = constant w v
first_of (one op w k x) = one op w k x
first_of (sel w c x y) = sel w c x y

-- the second child of an operation on two terms, else a constant of no bits
abbrev pub second_of : Tree → Tree
second_of (two op w x y) = y
second_of _ = constant 0 0

-- the condition of a selection, else the term itself
abbrev pub condition_of : Tree → Tree
condition_of (sel w c x y) = c
condition_of (leaf w k) = leaf w k
condition_of (constant w v) = constant w v
condition_of (one op w k x) = one op w k x
condition_of (two op w x y) = two op w x y

-- the two terms of a selection, else constants of no bits
abbrev pub then_of : Tree → Tree
then_of (sel w c x y) = x
then_of _ = constant 0 0

abbrev pub else_of : Tree → Tree
else_of (sel w c x y) = y
else_of _ = constant 0 0
