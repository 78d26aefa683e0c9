-- Each unit stands in a legal order.
use Rattle.std.proofs.Common.{◌≡◌, ℕ, ◌+◌, ◌-◌, Bool, true, List, [], ◌∷◌, ◌++◌, sym, ap, ◌∙◌, arith, inl, inr}
use Rattle.std.specs.Prelude.{filter, not, ◌==◌}
use Rattle.std.proofs.lemmas.Bool.{cases_Bool, cond-true, cond-false, eqb-true}
use Rattle.vg_shapes.specs.declared.match_table.Match.{Match}
use Rattle.vg_shapes.specs.declared.order.Node.{Node}
use Rattle.vg_shapes.specs.declared.pack.Pack.{Pack}
use Rattle.vg_shapes.specs.declared.ssa.Ssa.{Ssa}
use Rattle.vg_shapes.specs.Nodes.{ArePacks, is_packed, IsOrder, nodes, packed, units_at}
use Rattle.vg_shapes.specs.Order.{all_units, count_of, one_if, Stands}
use Rattle.vg_order_laws.specs.Laws.{AreUnits}
use Rattle.vg_order_laws.specs.Steps.{unit_numbers}
use Rattle.vg_order_laws.proofs.Plans.{count_of-permuted, found-stands, node-units, nodes-have_units}
use Rattle.vg_order_laws.proofs.Sequences.{count_of-append}

-- what stands there and passes is kept
pub kept-stands : (test : ℕ → Bool) (x : ℕ) (ys : List ℕ) → test x ≡ true → Stands x ys → Stands x (filter test ys)
kept-stands test x [] t h = h
kept-stands test x (y ∷ ys) t h =
    let Goal : List ℕ → Type 0 = λ l. Stands x l in
    let kept = filter test ys in
    elim (cases_Bool (x == y)) [
      | inl same ↦ Rattle.std.proofs.Common.subst Goal (sym (cond-true (test y) (y ∷ kept) kept (ap test (sym (eqb-true x y same)) ∙ t))) (let one : one_if (x == y) ≡ 1 = ap one_if same in omega arith)
      | inr other ↦
          let none : one_if (x == y) ≡ 0 = ap one_if other in
          let rest = kept-stands test x ys t (omega arith) in
          elim (cases_Bool (test y)) [
            | inl u ↦ Rattle.std.proofs.Common.subst Goal (sym (cond-true (test y) (y ∷ kept) kept u)) (omega arith)
            | inr f ↦ Rattle.std.proofs.Common.subst Goal (sym (cond-false (test y) (y ∷ kept) kept f)) rest
          ]
    ]

pub stands-in-order : (ssa : Ssa) (matches : List Match) (packs : List Pack) (order : List Node) (x : ℕ) → IsOrder ssa matches packs order → Stands x (unit_numbers ssa) → Stands x (all_units (units_at packs) order)
stands-in-order ssa matches packs order x legal there =
    let outside = filter (λ v. not (is_packed packs v)) (unit_numbers ssa) in
    let all : count_of x (all_units (units_at packs) order) ≡ count_of x (packed packs) + count_of x outside =
    count_of-permuted (units_at packs) x (nodes ssa packs) order legal.once ∙ ap (count_of x) (node-units ssa packs) ∙ count_of-append x (packed packs) outside in
    elim (cases_Bool (is_packed packs x)) [
      | inl t ↦ (let some = found-stands x (packed packs) t in omega arith)
      | inr f ↦ (let kept = kept-stands (λ v. not (is_packed packs v)) x (unit_numbers ssa) (ap not f) there in omega arith)
    ]

-- ---- and it stands there once

pub orders-have_units : (ssa : Ssa) (matches : List Match) (packs : List Pack) (order : List Node) → ArePacks ssa packs → IsOrder ssa matches packs order → AreUnits ssa (all_units (units_at packs) order)
orders-have_units ssa matches packs order good legal = nodes-have_units ssa packs order good legal.once

-- the units in packs and those outside are all units, each once
pub packed-outside : (ssa : Ssa) (matches : List Match) (packs : List Pack) (order : List Node) → ArePacks ssa packs → IsOrder ssa matches packs order → (x : ℕ) → count_of x (packed packs ++ filter (λ v. not (is_packed packs v)) (unit_numbers ssa)) ≡ count_of x (unit_numbers ssa)
packed-outside ssa matches packs order good legal x =
    ap (count_of x) (sym (node-units ssa packs)) ∙ sym (count_of-permuted (units_at packs) x (nodes ssa packs) order legal.once) ∙ orders-have_units ssa matches packs order good legal x
