use Rattle.std.proofs.Common.{◌≡◌, false, ◌∙◌, ap, arith, IfOk, rules, subst, sym}
use Rattle.std.specs.Prelude.{◌||◌}
use Rattle.vg_terms.specs.Order.{is_same_term}
use Rattle.vg_terms.specs.Term.{tree}
use Rattle.vg_sums.specs.Same.{have_same_sum}
use Rattle.vg_canon.specs.Canonical.{canonical}
use Rattle.vg_pool.specs.Pool.{tree_at}
use Rattle.vg_forms.proofs.WholeNodes.{both-small, not-small, other-nodes, same-nodes}
use Rattle.vg_forms.proofs.wholes.are_equal_nodes.Goals as goal

pub returns-then-x-y-clause-is : goal.returns-then-x-y-clause-is
returns-then-x-y-clause-is c = same-nodes (tree_at c.args.pool.now c.args.x) (tree_at c.args.pool.now c.args.y)
    (ap (tree_at c.args.pool.now) (omega arith))

pub returns-then-not-are_small-clause-is : goal.returns-then-not-are_small-clause-is
returns-then-not-are_small-clause-is c =
    let apart = other-nodes c.args.pool.now c.args.x c.args.y c.pool_is_shared.ensures c.requires.x c.requires.y
    (λ e. search rules) in
    not-small (tree_at c.args.pool.now c.args.x) (tree_at c.args.pool.now c.args.y) c.are_small.result apart
    c.are_small.ensures (search rules)

pub returns-clause-is : goal.returns-clause-is
returns-clause-is c =
    let p = c.args.pool.now in
    let x = tree_at p c.args.x in
    let y = tree_at p c.args.y in
    let apart = other-nodes p c.args.x c.args.y c.pool_is_shared.ensures c.requires.x c.requires.y (λ e. search rules)
    in
    let forms = both-small x y c.are_small.result apart c.are_small.ensures (search rules) in
    subst (λ b. IfOk c.have_one_form.result (λ same. same ≡ b)) forms
    (subst (λ u. IfOk c.have_one_form.result
    (λ same. same ≡ (is_same_term (canonical x) (canonical u) || have_same_sum x u))) c.in_ok-u.ensures.is
    (subst (λ t. IfOk c.have_one_form.result
    (λ same. same ≡ (is_same_term (canonical t) (canonical (tree c.in_ok-u.u)) || have_same_sum t
    (tree c.in_ok-u.u)))) c.in_ok-t.ensures.is c.have_one_form.ensures.is))
