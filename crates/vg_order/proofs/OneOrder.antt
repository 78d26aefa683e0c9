-- There is one order in which nodes are put.
use Rattle.std.proofs.Common.{◌≡◌, ℕ, List, [], ◌∷◌, ◌++◌, length, Option, Some, None, refl, sym, ap, subst, ◌∙◌, arith}
use Rattle.std.specs.Option.{option_map_or}
use Rattle.std.proofs.lemmas.List.Sorted.{length_permutation}
use Rattle.vg_shapes.specs.declared.match_table.Match.{Match}
use Rattle.vg_shapes.specs.declared.order.Node.{Node}
use Rattle.vg_shapes.specs.declared.pack.Pack.{Pack}
use Rattle.vg_shapes.specs.declared.ssa.Ssa.{Ssa}
use Rattle.vg_shapes.specs.Nodes.{nodes}
use Rattle.vg_shapes.specs.Order.{numbers_from}
use Rattle.vg_shapes.specs.Units.{arguments}
use Rattle.vg_order.specs.Laws.{OneOrderIsScheduled}
use Rattle.vg_order.specs.Scheduled.{EachIsNext, first_open, IsNextFrom, LeadsDown, node_of}

some-one : {A : Type 0} (d x y : A) → Some x ≡ Some y → x ≡ y
some-one d x y e = ap (λ o. option_map_or (λ z. z) o d) e

leads-one : (deps : List (ℕ × ℕ)) (ssa : Ssa) (matches : List Match) (packs : List Pack) (before : List Node) (n one other : Node) (xs ys : List ℕ)
    → LeadsDown deps ssa matches packs before n xs one → LeadsDown deps ssa matches packs before n ys other → one ≡ other
leads-one deps ssa matches packs before n one other [] [] p q = sym p.0 ∙ q.0
leads-one deps ssa matches packs before n one other [] (y ∷ ys) p q = absurd (let e : None ≡ Some y = sym p.1 ∙ q.0 in cc)
leads-one deps ssa matches packs before n one other (x ∷ xs) [] p q = absurd (let e : None ≡ Some x = sym q.1 ∙ p.0 in cc)
leads-one deps ssa matches packs before n one other (x ∷ xs) (y ∷ ys) p q =
    let same : y ≡ x = some-one x y x (sym q.0 ∙ p.0) in
    leads-one deps ssa matches packs before (node_of packs x) one other xs ys p.1
    (subst (λ z. LeadsDown deps ssa matches packs before (node_of packs z) ys other) same q.1)

next-one : (deps : List (ℕ × ℕ)) (ssa : Ssa) (matches : List Match) (packs : List Pack) (before : List Node) (one other : Node) (o : Option ℕ)
    → IsNextFrom deps ssa matches packs before one o → IsNextFrom deps ssa matches packs before other o → one ≡ other
next-one deps ssa matches packs before one other None p q = some-one one one other (sym p ∙ q)
next-one deps ssa matches packs before one other (Some x) p q = leads-one deps ssa matches packs before (node_of packs x) one other p.0 q.0 p.1 q.1

each-one : (deps : List (ℕ × ℕ)) (ssa : Ssa) (matches : List Match) (packs : List Pack) (before ns ms : List Node) → length ns ≡ length ms
    → EachIsNext deps ssa matches packs before ns → EachIsNext deps ssa matches packs before ms → ns ≡ ms
each-one deps ssa matches packs before [] [] l p q = refl
each-one deps ssa matches packs before [] (m ∷ ms) l p q = absurd (omega arith)
each-one deps ssa matches packs before (n ∷ ns) [] l p q = absurd (omega arith)
each-one deps ssa matches packs before (n ∷ ns) (m ∷ ms) l p q =
    let same : n ≡ m = next-one deps ssa matches packs before n m (first_open packs before (numbers_from (arguments ssa) (length ssa.units))) p.0 q.0 in
    let rest : ns ≡ ms = each-one deps ssa matches packs (before ++ n ∷ []) ns ms (omega arith) p.1
    (subst (λ k. EachIsNext deps ssa matches packs (before ++ k ∷ []) ms) (sym same) q.1) in
    λ i. same i ∷ rest i

pub one-order : OneOrderIsScheduled
one-order deps ssa matches packs one other p q =
    each-one deps ssa matches packs [] one other
    (length_permutation (nodes ssa packs) one p.once ∙ sym (length_permutation (nodes ssa packs) other q.once)) p.next q.next
