-- The order of terms: comparing node by node is comparing lists, the order is total, and equal is the same.
use Rattle.std.proofs.Common.{◌≡◌, ℕ, List, [], ◌∷◌, ◌++◌, refl, sym, ap, ◌∙◌, ◌↔◌, subst, arith, append_assoc, append-nil}
use Rattle.std.specs.declared.cmp.Ordering.{Ordering}
use Rattle.std.specs.declared.cmp.Ordering.TheVariants.{Less, Equal, Greater}
use Rattle.std.specs.Ordering.{is_eq, nat_cmp, int_cmp, ordering_then, ordering_reverse}
use Rattle.std.specs.Cmp.{IsTotalOrder}
use Rattle.std.specs.Cmp.Lexicographic.{slice_cmp}
use Rattle.std.specs.Prelude.{ℤ, true, nat_eq, nat_lt, if◌then◌else◌}
use Rattle.std.proofs.lemmas.Cmp.{ranked, int_ranked, nat_cmp_total, int_cmp_total, then_total, on_total, lists_total}
use Rattle.vg_terms.specs.declared.term.LeafKey.{LeafKey}
use Rattle.vg_terms.specs.declared.term.OneOp.{OneOp}
use Rattle.vg_terms.specs.declared.term.OneOp.TheVariants.{Zext, Sext, Trunc, Lshr, Ashr}
use Rattle.vg_terms.specs.declared.term.TwoOp.{TwoOp}
use Rattle.vg_terms.specs.declared.term.TwoOp.TheVariants.{Add, Mul, And, Or, Xor, Smin, Smax, Umin, Umax, Eq, Slt, Ult, Cat}
use Rattle.vg_terms.specs.Term.{Tree, leaf, constant, one, two, sel, width_of}
use Rattle.vg_terms.specs.Order.{one_tag, two_tag, tag_of, extra_of, Node, node_of, shape, keys, node_cmp, leaf_cmp, order, is_same_term, below_cmp, shapes_cmp, leaves_cmp}

then_assoc : (a b c : Ordering) → ordering_then (ordering_then a b) c ≡ ordering_then a (ordering_then b c)
then_assoc Less b c = refl
then_assoc Equal b c = refl
then_assoc Greater b c = refl

pub then-equal : (a b : Ordering) → ordering_then a b ≡ Equal → (a ≡ Equal) × (b ≡ Equal)
then-equal Less b e = absurd (cc)
then-equal Equal b e = (refl, e)
then-equal Greater b e = absurd (cc)

-- what comes after an answer that is not Equal does not matter
then-apart : (a b c : Ordering) → (a ≡ Equal → ⊥) → ordering_then a b ≡ ordering_then a c
then-apart Less b c h = refl
then-apart Equal b c h = absurd (h refl)
then-apart Greater b c h = refl

pub nat_cmp-equal : (m n : ℕ) → nat_cmp m n ≡ Equal → m ≡ n
nat_cmp-equal m n e = ranked m n Equal (sym e)

pub node_cmp-equal : (n m : Node) → node_cmp n m ≡ Equal → (n.tag ≡ m.tag) × (n.width ≡ m.width) × (n.extra ≡ m.extra)
node_cmp-equal n m e =
    let p = then-equal (nat_cmp n.tag m.tag) _ e in
    let q = then-equal (nat_cmp n.width m.width) _ p.1 in
    (nat_cmp-equal _ _ p.0, nat_cmp-equal _ _ q.0, nat_cmp-equal _ _ q.1)

-- 0 for a leaf, 1 for a constant, 2 and 3 for an operation on one or two terms, 4 for a selection
abbrev kind : Tree → ℕ
kind (leaf w k) = 0
kind (constant w v) = 1
kind (one op w k x) = 2
kind (two op w x y) = 3
kind (sel w c x y) = 4

-- the kind, by the tag
abbrev kind_of_tag : ℕ → ℕ
kind_of_tag n = if nat_eq n 0 then 0 else if nat_eq n 20 then 1 else if nat_eq n 18 then 4 else if nat_lt n 6 then 2 else 3

kind_one : (op : OneOp) → kind_of_tag (one_tag op) ≡ 2
kind_one Zext = refl
kind_one Sext = refl
kind_one Trunc = refl
kind_one Lshr = refl
kind_one Ashr = refl

kind_two : (op : TwoOp) → kind_of_tag (two_tag op) ≡ 3
kind_two Add = refl
kind_two Mul = refl
kind_two And = refl
kind_two Or = refl
kind_two Xor = refl
kind_two Smin = refl
kind_two Smax = refl
kind_two Umin = refl
kind_two Umax = refl
kind_two Eq = refl
kind_two Slt = refl
kind_two Ult = refl
kind_two Cat = refl

kind-tag : (t : Tree) → kind_of_tag (tag_of t) ≡ kind t
kind-tag (leaf w k) = refl
kind-tag (constant w v) = refl
kind-tag (one op w k x) = kind_one op
kind-tag (two op w x y) = kind_two op
kind-tag (sel w c x y) = refl

-- equal nodes are of one kind
same_kind : (t u : Tree) → node_cmp (node_of t) (node_of u) ≡ Equal → kind t ≡ kind u
same_kind t u e = sym (kind-tag t) ∙ ap kind_of_tag (node_cmp-equal (node_of t) (node_of u) e).0 ∙ kind-tag u

-- a shape begins with its node
abbrev tail_of : Tree → List Node
tail_of (leaf w k) = []
tail_of (constant w v) = []
tail_of (one op w k x) = shape x
tail_of (two op w x y) = shape x ++ shape y
tail_of (sel w c x y) = shape c ++ (shape x ++ shape y)

shape-front : (t : Tree) → shape t ≡ node_of t ∷ tail_of t
shape-front (leaf w k) = refl
shape-front (constant w v) = refl
shape-front (one op w k x) = refl
shape-front (two op w x y) = refl
shape-front (sel w c x y) = refl

-- two terms of different kinds differ at their first nodes
apart : (t u : Tree) (a b : List Node) → (kind t ≡ kind u → ⊥) → slice_cmp node_cmp (shape t ++ a) (shape u ++ b) ≡ ordering_then (ordering_then (node_cmp (node_of t) (node_of u)) Equal) (slice_cmp node_cmp a b)
apart t u a b h =
    let front = node_cmp (node_of t) (node_of u) in
    rw (shape-front t, shape-front u) (then-apart front _ _ (λ e. h (same_kind t u e)) ∙ sym (then_assoc front Equal (slice_cmp node_cmp a b)))

-- two lists decide by an answer, and by what stands after them where it is Equal
abbrev Decide : {X : Type 0} → (X → X → Ordering) → List X → List X → Ordering → Type 0
Decide {X} cmp xs ys o = (a b : List X) → slice_cmp cmp (xs ++ a) (ys ++ b) ≡ ordering_then o (slice_cmp cmp a b)

parts : {X : Type 0} (cmp : X → X → Ordering) (x x' y y' : List X) (o o' : Ordering) → Decide cmp x y o → Decide cmp x' y' o' → Decide cmp (x ++ x') (y ++ y') (ordering_then o o')
parts cmp x x' y y' o o' h h' a b =
    rw (append_assoc x x' a, append_assoc y y' b) (h (x' ++ a) (y' ++ b) ∙ ap (ordering_then o) (h' a b) ∙ sym (then_assoc o o' (slice_cmp cmp a b)))

-- no shape is a proper prefix of another: what stands after two shapes counts only where they are equal
pub shapes-cmp : (t u : Tree) → Decide node_cmp (shape t) (shape u) (shapes_cmp t u)
shapes-cmp (leaf w k) (leaf v l) a b = sym (then_assoc (node_cmp (node_of (leaf w k)) (node_of (leaf v l))) Equal _)
shapes-cmp (constant w k) (constant v l) a b = sym (then_assoc (node_cmp (node_of (constant w k)) (node_of (constant v l))) Equal _)
shapes-cmp (one o w k x) (one p v l y) a b =
    let front = node_cmp (node_of (one o w k x)) (node_of (one p v l y)) in
    ap (ordering_then front) (shapes-cmp x y a b) ∙ sym (then_assoc front (shapes_cmp x y) (slice_cmp node_cmp a b))
shapes-cmp (two o w x x') (two p v y y') a b =
    let front = node_cmp (node_of (two o w x x')) (node_of (two p v y y')) in
    let below = parts node_cmp (shape x) (shape x') (shape y) (shape y') (shapes_cmp x y) (shapes_cmp x' y') (shapes-cmp x y) (shapes-cmp x' y') in
    ap (ordering_then front) (below a b) ∙ sym (then_assoc front (ordering_then (shapes_cmp x y) (shapes_cmp x' y')) (slice_cmp node_cmp a b))
shapes-cmp (sel w c x x') (sel v d y y') a b =
    let front = node_cmp (node_of (sel w c x x')) (node_of (sel v d y y')) in
    let last = parts node_cmp (shape x) (shape x') (shape y) (shape y') (shapes_cmp x y) (shapes_cmp x' y') (shapes-cmp x y) (shapes-cmp x' y') in
    let below = parts node_cmp (shape c) (shape x ++ shape x') (shape d) (shape y ++ shape y') (shapes_cmp c d) (ordering_then (shapes_cmp x y) (shapes_cmp x' y')) (shapes-cmp c d) last in
    ap (ordering_then front) (below a b) ∙ sym (then_assoc front (ordering_then (shapes_cmp c d) (ordering_then (shapes_cmp x y) (shapes_cmp x' y'))) (slice_cmp node_cmp a b))
shapes-cmp t u a b = apart t u a b (λ e. omega (arith, e))

-- equal shapes are of one kind, and so are what is below them
pub equal_below : (t u : Tree) → shapes_cmp t u ≡ Equal → (kind t ≡ kind u) × (below_cmp t u ≡ Equal)
equal_below t u e =
    let q = then-equal (node_cmp (node_of t) (node_of u)) (below_cmp t u) e in
    (same_kind t u q.0, q.1)

equal_nodes : (t u : Tree) → shapes_cmp t u ≡ Equal → (tag_of t ≡ tag_of u) × (width_of t ≡ width_of u) × (extra_of t ≡ extra_of u)
equal_nodes t u e = node_cmp-equal (node_of t) (node_of u) (then-equal (node_cmp (node_of t) (node_of u)) (below_cmp t u) e).0

-- of terms of one shape, what stands after two lists of keys counts only where they are equal
pub leaves-cmp : (t u : Tree) → shapes_cmp t u ≡ Equal → Decide leaf_cmp (keys t) (keys u) (leaves_cmp t u)
leaves-cmp (leaf w k) (leaf v l) e a b = refl
leaves-cmp (constant w k) (constant v l) e a b = refl
leaves-cmp (one o w k x) (one p v l y) e a b = leaves-cmp x y (equal_below (one o w k x) (one p v l y) e).1 a b
leaves-cmp (two o w x x') (two p v y y') e a b =
    let q = then-equal (shapes_cmp x y) (shapes_cmp x' y') (equal_below (two o w x x') (two p v y y') e).1 in
    parts leaf_cmp (keys x) (keys x') (keys y) (keys y') (leaves_cmp x y) (leaves_cmp x' y') (leaves-cmp x y q.0) (leaves-cmp x' y' q.1) a b
leaves-cmp (sel w c x x') (sel v d y y') e a b =
    let q = then-equal (shapes_cmp c d) (ordering_then (shapes_cmp x y) (shapes_cmp x' y')) (equal_below (sel w c x x') (sel v d y y') e).1 in
    let r = then-equal (shapes_cmp x y) (shapes_cmp x' y') q.1 in
    let last = parts leaf_cmp (keys x) (keys x') (keys y) (keys y') (leaves_cmp x y) (leaves_cmp x' y') (leaves-cmp x y r.0) (leaves-cmp x' y' r.1) in
    parts leaf_cmp (keys c) (keys x ++ keys x') (keys d) (keys y ++ keys y') (leaves_cmp c d) (ordering_then (leaves_cmp x y) (leaves_cmp x' y')) (leaves-cmp c d q.0) last a b
leaves-cmp t u e a b = absurd (let h = (equal_below t u e).0 in omega (arith, h))

then_Equal : (o : Ordering) → ordering_then o Equal ≡ o
then_Equal Less = refl
then_Equal Equal = refl
then_Equal Greater = refl

-- the lists' answers are those of the walks
whole : {X : Type 0} (cmp : X → X → Ordering) (xs ys : List X) (o : Ordering) → Decide cmp xs ys o → slice_cmp cmp xs ys ≡ o
whole cmp xs ys o h = (rw (append-nil xs, append-nil ys) at (h [] [])) ∙ then_Equal o

pub order-shapes : (t u : Tree) → slice_cmp node_cmp (shape t) (shape u) ≡ shapes_cmp t u
order-shapes t u = whole node_cmp (shape t) (shape u) (shapes_cmp t u) (shapes-cmp t u)

pub order-leaves : (t u : Tree) → shapes_cmp t u ≡ Equal → order t u ≡ leaves_cmp t u
order-leaves t u e =
    ap (λ o. ordering_then o (slice_cmp leaf_cmp (keys t) (keys u))) (order-shapes t u ∙ e)
    ∙ whole leaf_cmp (keys t) (keys u) (leaves_cmp t u) (leaves-cmp t u e)

pub order-apart : (t u : Tree) → (shapes_cmp t u ≡ Equal → ⊥) → order t u ≡ shapes_cmp t u
order-apart t u h =
    ap (λ o. ordering_then o (slice_cmp leaf_cmp (keys t) (keys u))) (order-shapes t u)
    ∙ then-apart (shapes_cmp t u) (slice_cmp leaf_cmp (keys t) (keys u)) Equal h ∙ then_Equal (shapes_cmp t u)

-- the order is total
node_total : IsTotalOrder node_cmp
node_total = then_total (on_total (λ n. n.tag) nat_cmp_total) (then_total (on_total (λ n. n.width) nat_cmp_total) (on_total (λ n. n.extra) nat_cmp_total))

leaf_total : IsTotalOrder leaf_cmp
leaf_total =
    then_total (on_total (λ k. k.kind) nat_cmp_total) (then_total (on_total (λ k. k.first) nat_cmp_total) (then_total (on_total (λ k. k.second) int_cmp_total) (on_total (λ k. k.third) nat_cmp_total)))

pub order_total : IsTotalOrder order
order_total = then_total (on_total shape (lists_total node_total)) (on_total keys (lists_total leaf_total))

-- an operation by its tag
abbrev one_of : ℕ → OneOp
one_of n = if nat_eq n 1 then Zext else if nat_eq n 2 then Sext else if nat_eq n 3 then Trunc else if nat_eq n 4 then Lshr else Ashr

one_of-tag : (op : OneOp) → one_of (one_tag op) ≡ op
one_of-tag Zext = refl
one_of-tag Sext = refl
one_of-tag Trunc = refl
one_of-tag Lshr = refl
one_of-tag Ashr = refl

pub one_tag-same : (o p : OneOp) → one_tag o ≡ one_tag p → o ≡ p
one_tag-same o p e = sym (one_of-tag o) ∙ ap one_of e ∙ one_of-tag p

abbrev two_of : ℕ → TwoOp
two_of n =
    if nat_eq n 6 then Add else if nat_eq n 7 then Mul else if nat_eq n 8 then And else if nat_eq n 9 then Or else if nat_eq n 10 then Xor
    else if nat_eq n 11 then Smin else if nat_eq n 12 then Smax else if nat_eq n 13 then Umin else if nat_eq n 14 then Umax
    else if nat_eq n 15 then Eq else if nat_eq n 16 then Slt else if nat_eq n 17 then Ult else Cat

two_of-tag : (op : TwoOp) → two_of (two_tag op) ≡ op
two_of-tag Add = refl
two_of-tag Mul = refl
two_of-tag And = refl
two_of-tag Or = refl
two_of-tag Xor = refl
two_of-tag Smin = refl
two_of-tag Smax = refl
two_of-tag Umin = refl
two_of-tag Umax = refl
two_of-tag Eq = refl
two_of-tag Slt = refl
two_of-tag Ult = refl
two_of-tag Cat = refl

pub two_tag-same : (o p : TwoOp) → two_tag o ≡ two_tag p → o ≡ p
two_tag-same o p e = sym (two_of-tag o) ∙ ap two_of e ∙ two_of-tag p

abbrev key : ℕ → ℕ → ℤ → ℕ → LeafKey
key a b c d = record { kind = a; first = b; second = c; third = d }

leaf_cmp-equal : (k l : LeafKey) → leaf_cmp k l ≡ Equal → k ≡ l
leaf_cmp-equal k l e =
    let p = then-equal (nat_cmp k.kind l.kind) _ e in
    let q = then-equal (nat_cmp k.first l.first) _ p.1 in
    let r = then-equal (int_cmp k.second l.second) _ q.1 in
    let kinds = nat_cmp-equal k.kind l.kind p.0 in
    let firsts = nat_cmp-equal k.first l.first q.0 in
    let seconds : k.second ≡ l.second = int_ranked k.second l.second Equal (sym r.0) in
    let thirds = nat_cmp-equal k.third l.third r.1 in
    ap (λ n. key n k.first k.second k.third) kinds ∙ ap (λ n. key l.kind n k.second k.third) firsts
    ∙ ap (λ n. key l.kind l.first n k.third) seconds ∙ ap (λ n. key l.kind l.first l.second n) thirds

-- two terms of one shape and with equal leaf keys are one term
pub same_from_walks : (t u : Tree) → shapes_cmp t u ≡ Equal → leaves_cmp t u ≡ Equal → t ≡ u
same_from_walks (leaf w k) (leaf v l) e f =
    let n = equal_nodes (leaf w k) (leaf v l) e in
    let h = leaf_cmp-equal k l f in
    cc (n.1)
same_from_walks (constant w k) (constant v l) e f =
    let n = equal_nodes (constant w k) (constant v l) e in
    cc (n.1, n.2)
same_from_walks (one o w k x) (one p v l y) e f =
    let n = equal_nodes (one o w k x) (one p v l y) e in
    let h = same_from_walks x y (equal_below (one o w k x) (one p v l y) e).1 f in
    cc (n.1, n.2, one_tag-same o p n.0, h)
same_from_walks (two o w x x') (two p v y y') e f =
    let n = equal_nodes (two o w x x') (two p v y y') e in
    let q = then-equal (shapes_cmp x y) (shapes_cmp x' y') (equal_below (two o w x x') (two p v y y') e).1 in
    let r = then-equal (leaves_cmp x y) (leaves_cmp x' y') f in
    cc (n.1, two_tag-same o p n.0, same_from_walks x y q.0 r.0, same_from_walks x' y' q.1 r.1)
same_from_walks (sel w c x x') (sel v d y y') e f =
    let n = equal_nodes (sel w c x x') (sel v d y y') e in
    let q = then-equal (shapes_cmp c d) (ordering_then (shapes_cmp x y) (shapes_cmp x' y')) (equal_below (sel w c x x') (sel v d y y') e).1 in
    let q' = then-equal (shapes_cmp x y) (shapes_cmp x' y') q.1 in
    let r = then-equal (leaves_cmp c d) (ordering_then (leaves_cmp x y) (leaves_cmp x' y')) f in
    let r' = then-equal (leaves_cmp x y) (leaves_cmp x' y') r.1 in
    cc (n.1, same_from_walks c d q.0 r.0, same_from_walks x y q'.0 r'.0, same_from_walks x' y' q'.1 r'.1)
same_from_walks t u e f = absurd (let h = (equal_below t u e).0 in omega (arith, h))

-- terms that compare as equal are equal
pub order-equal : (t u : Tree) → order t u ≡ Equal → t ≡ u
order-equal t u e =
    let p = then-equal (slice_cmp node_cmp (shape t) (shape u)) (slice_cmp leaf_cmp (keys t) (keys u)) e in
    let s = sym (order-shapes t u) ∙ p.0 in
    same_from_walks t u s (sym (order-leaves t u s) ∙ e)

tied : (o : Ordering) → is_eq o ≡ true → o ≡ Equal
tied Less h = absurd (cc)
tied Equal h = refl
tied Greater h = absurd (cc)

pub same_term : (t u : Tree) → is_same_term t u ≡ true → t ≡ u
same_term t u h = order-equal t u (tied (order t u) h)

own_reverse : (o : Ordering) → o ≡ ordering_reverse o → o ≡ Equal
own_reverse Less e = absurd (cc)
own_reverse Equal e = refl
own_reverse Greater e = absurd (cc)

pub same_term-means : (t u : Tree) → (is_same_term t u ≡ true) ↔ (t ≡ u)
same_term-means t u =
    (same_term t u, λ e. subst (λ v. is_same_term t v ≡ true) e (ap is_eq (own_reverse (order t t) (order_total.antisymm t t))))
