-- The order of terms: by shape, then by leaf keys, both compared as lists.
use Rattle.std.specs.Prelude.{ℕ, Bool, List, [], ◌∷◌, ◌++◌}
use Rattle.std.specs.declared.cmp.Ordering.{Ordering}
use Rattle.std.specs.declared.cmp.Ordering.TheVariants.{Equal}
use Rattle.std.specs.Ordering.{is_eq, nat_cmp, int_cmp, ordering_then}
use Rattle.std.specs.Cmp.Lexicographic.{slice_cmp}
use Rattle.vg_terms.specs.declared.term.LeafKey.{LeafKey}
use Rattle.vg_terms.specs.declared.term.OneOp.{OneOp}
use Rattle.vg_terms.specs.declared.term.OneOp.TheVariants.{Zext, Sext, Trunc, Lshr, Ashr}
use Rattle.vg_terms.specs.declared.term.TwoOp.{TwoOp}
use Rattle.vg_terms.specs.declared.term.TwoOp.TheVariants.{Add, Mul, And, Or, Xor, Smin, Smax, Umin, Umax, Eq, Slt, Ult, Cat}
use Rattle.vg_terms.specs.Term.{Tree, leaf, constant, one, two, sel, width_of}

abbrev pub one_tag : OneOp → ℕ
one_tag Zext = 1
one_tag Sext = 2
one_tag Trunc = 3
one_tag Lshr = 4
one_tag Ashr = 5

abbrev pub two_tag : TwoOp → ℕ
two_tag Add = 6
two_tag Mul = 7
two_tag And = 8
two_tag Or = 9
two_tag Xor = 10
two_tag Smin = 11
two_tag Smax = 12
two_tag Umin = 13
two_tag Umax = 14
two_tag Eq = 15
two_tag Slt = 16
two_tag Ult = 17
two_tag Cat = 19

abbrev pub tag_of : Tree → ℕ
tag_of (leaf w k) = 0
tag_of (constant w v) = 20
tag_of (one op w k x) = one_tag op
tag_of (two op w x y) = two_tag op
tag_of (sel w c x y) = 18

-- the amount of a shift, the value of a constant, else 0
abbrev pub extra_of : Tree → ℕ
extra_of (leaf w k) = 0
extra_of (constant w v) = v
extra_of (one op w k x) = k
extra_of (two op w x y) = 0
extra_of (sel w c x y) = 0

-- what the order sees of a node
pub record Node : Type 0 where
  pub tag : ℕ
  pub width : ℕ
  pub extra : ℕ

abbrev pub node_of : Tree → Node
node_of t = record { tag = tag_of t; width = width_of t; extra = extra_of t }

-- the nodes, a parent before its children, left before right
abbrev pub shape : Tree → List Node
shape (leaf w k) = node_of (leaf w k) ∷ []
shape (constant w v) = node_of (constant w v) ∷ []
shape (one op w k x) = node_of (one op w k x) ∷ shape x
shape (two op w x y) = node_of (two op w x y) ∷ (shape x ++ shape y)
shape (sel w c x y) = node_of (sel w c x y) ∷ (shape c ++ (shape x ++ shape y))

-- the keys of the leaves, left before right
abbrev pub keys : Tree → List LeafKey
keys (leaf w k) = k ∷ []
keys (constant w v) = []
keys (one op w k x) = keys x
keys (two op w x y) = keys x ++ keys y
keys (sel w c x y) = keys c ++ (keys x ++ keys y)

abbrev pub node_cmp : Node → Node → Ordering
node_cmp n m = ordering_then (nat_cmp n.tag m.tag) (ordering_then (nat_cmp n.width m.width) (nat_cmp n.extra m.extra))

abbrev pub leaf_cmp : LeafKey → LeafKey → Ordering
leaf_cmp k l =
    ordering_then (nat_cmp k.kind l.kind) (ordering_then (nat_cmp k.first l.first) (ordering_then (int_cmp k.second l.second) (nat_cmp k.third l.third)))

abbrev pub order : Tree → Tree → Ordering
order t u = ordering_then (slice_cmp node_cmp (shape t) (shape u)) (slice_cmp leaf_cmp (keys t) (keys u))

-- the two terms are one and the same
abbrev pub is_same_term : Tree → Tree → Bool
is_same_term t u = is_eq (order t u)

-- two shapes compared node by node, without their lists: what is below two nodes that compare as equal
abbrev pub below_cmp : Tree → Tree → Ordering
below_cmp (one o w k x) (one p v l y) = ordering_then (node_cmp (node_of x) (node_of y)) (below_cmp x y)
below_cmp (two o w x x') (two p v y y') =
    ordering_then (ordering_then (node_cmp (node_of x) (node_of y)) (below_cmp x y)) (ordering_then (node_cmp (node_of x') (node_of y')) (below_cmp x' y'))
below_cmp (sel w c x x') (sel v d y y') =
    ordering_then (ordering_then (node_cmp (node_of c) (node_of d)) (below_cmp c d))
    (ordering_then (ordering_then (node_cmp (node_of x) (node_of y)) (below_cmp x y)) (ordering_then (node_cmp (node_of x') (node_of y')) (below_cmp x' y')))
below_cmp t u = Equal

abbrev pub shapes_cmp : Tree → Tree → Ordering
shapes_cmp t u = ordering_then (node_cmp (node_of t) (node_of u)) (below_cmp t u)

-- the leaf keys of two terms of one shape, compared leaf by leaf
abbrev pub leaves_cmp : Tree → Tree → Ordering
leaves_cmp (leaf w k) (leaf v l) = leaf_cmp k l
leaves_cmp (one o w k x) (one p v l y) = leaves_cmp x y
leaves_cmp (two o w x x') (two p v y y') = ordering_then (leaves_cmp x y) (leaves_cmp x' y')
leaves_cmp (sel w c x x') (sel v d y y') =
    ordering_then (leaves_cmp c d) (ordering_then (leaves_cmp x y) (leaves_cmp x' y'))
leaves_cmp t u = Equal
