use Rattle.std.proofs.Common.{◌≡◌, ℕ, ◌≤◌, rules, length, Bool, true, false, Some, None, sym, ap, ◌∙◌, inl, inr, arith, List}
use Rattle.std.specs.Prelude.{slice_get}
use Rattle.std.specs.Option.{option_map}
use Rattle.std.proofs.lemmas.Bool.{cond-true, cond-false}
use Rattle.std.proofs.lemmas.List.Sorted.{IsPartitionPoint-from_clause}
use Rattle.std.proofs.lemmas.Option.{slice_get_cases, slice_get-get_or}
use Rattle.std.specs.declared.cmp.Ordering.{Ordering}
use Rattle.std.specs.declared.cmp.Ordering.TheVariants.{Less, Equal, Greater}
use Rattle.std.specs.Ordering.{is_eq, ordering_reverse}
use Rattle.vg_terms.specs.Order.{is_same_term, order}
use Rattle.vg_terms.specs.Term.{Tree, tree}
use Rattle.vg_terms.proofs.Orders.{order_total}
use Rattle.vg_match.specs.declared.least.ValueTerm.{ValueTerm}
use Rattle.vg_match.specs.Least.{has_term, is_before}
use Rattle.vg_match.proofs.Sorted.{first-at, front-before, if_it}
use Rattle.vg_match.proofs.least.first_with.Goals as goal

-- either way round
turned : (t u : Tree) (b : Bool) → is_same_term t u ≡ b → is_same_term u t ≡ b
turned t u b h = both (order t u) (order u t) (order_total.antisymm t u) b h
  where
    both : (x y : Ordering) → x ≡ ordering_reverse y → (b : Bool) → is_eq x ≡ b → is_eq y ≡ b
    both x Less e b h = sym (ap is_eq e) ∙ h
    both x Equal e b h = sym (ap is_eq e) ∙ h
    both x Greater e b h = sym (ap is_eq e) ∙ h

past : (xs : List ValueTerm) (k : ℕ) → length xs ≤ k → slice_get xs k ≡ None
past xs k h = elim (slice_get_cases xs k).1 [ inl e ↦ absurd (let l = e.1 in omega arith) | inr e ↦ e.1 ]

pub returns-then-is_same : goal.returns-then-is_same
returns-then-is_same c =
    let e : ValueTerm = record { term = c.args.t; value = 0 } in
    let xs = c.args.sorted.now in
    let point = c.partition_point-place in
    let split = IsPartitionPoint-from_clause (λ (x : ValueTerm). is_before x e) xs point.result point.ensures.partitioned (front-before e xs c.requires) (λ a r f called. search rules) in
    let h = c.in-Some.ensures.lookup in
    let x = c.in-Some.found.now in
    let there : slice_get xs point.result ≡ Some x = slice_get-get_or xs point.result x h.3.0 ∙ ap Some (sym (h.3.1 x)) in
    ap (option_map (λ (y : ValueTerm). y.value))
    (sym (cond-true (has_term (tree c.args.t.now) x) (Some x) None (turned (tree x.term.now) (tree c.args.t.now) true (sym c.is_same.ensures.is ∙ c.if-is_same.true)))
    ∙ sym (ap (if_it (has_term (tree c.args.t.now))) there) ∙ first-at e xs point.result c.requires split.0 split.1)

pub returns-else-is_same : goal.returns-else-is_same
returns-else-is_same c =
    let e : ValueTerm = record { term = c.args.t; value = 0 } in
    let xs = c.args.sorted.now in
    let point = c.partition_point-place in
    let split = IsPartitionPoint-from_clause (λ (x : ValueTerm). is_before x e) xs point.result point.ensures.partitioned (front-before e xs c.requires) (λ a r f called. search rules) in
    let h = c.in-Some.ensures.lookup in
    let x = c.in-Some.found.now in
    let there : slice_get xs point.result ≡ Some x = slice_get-get_or xs point.result x h.3.0 ∙ ap Some (sym (h.3.1 x)) in
    ap (option_map (λ (y : ValueTerm). y.value))
    (sym (cond-false (has_term (tree c.args.t.now) x) (Some x) None (turned (tree x.term.now) (tree c.args.t.now) false (sym c.is_same.ensures.is ∙ c.if-is_same.false)))
    ∙ sym (ap (if_it (has_term (tree c.args.t.now))) there) ∙ first-at e xs point.result c.requires split.0 split.1)

pub returns-in-None : goal.returns-in-None
returns-in-None c =
    let e : ValueTerm = record { term = c.args.t; value = 0 } in
    let xs = c.args.sorted.now in
    let point = c.partition_point-place in
    let split = IsPartitionPoint-from_clause (λ (x : ValueTerm). is_before x e) xs point.result point.ensures.partitioned (front-before e xs c.requires) (λ a r f called. search rules) in
    ap (option_map (λ (y : ValueTerm). y.value))
    (sym (ap (if_it (has_term (tree c.args.t.now))) (past xs point.result c.in-None.ensures.lookup.3)) ∙ first-at e xs point.result c.requires split.0 split.1)
