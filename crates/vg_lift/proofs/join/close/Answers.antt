use Rattle.std.proofs.Common.{◌++◌, ◌∙◌, sym, ap, subst}
use Rattle.vg_lift.specs.Views.{OpenFits, BitsFit, bits_of, open_of, node_bits}
use Rattle.vg_lift.specs.Join.{closed}
use Rattle.vg_pool.specs.Pool.{tree_at}
use Rattle.vg_lift.proofs.Nodes.{closed_bits, closed_fit, onok}
use Rattle.vg_lift.proofs.join.close.Goals as goal

pub returns-in_ok-node-in-Differ-clause-bits : goal.returns-in_ok-node-in-Differ-clause-bits
returns-in_ok-node-in-Differ-clause-bits c =
    let d = c.in-Differ in
    let range = subst (OpenFits c.args.pool.now) d.is c.requires.range in
    let n = c.count-count.ensures in
    onok c.push_bits.result (λ e. ap (bits_of c.select_runs.new.pool) (e ∙ ap (λ k. c.args.done.now.items ++ node_bits c.in_ok-node-in-Differ.node k 0 k) n)
    ∙ closed_bits c.args.pool.now c.select_runs.new.pool d.first d.second c.args.c c.in_ok-node-in-Differ.node c.args.done.now.items c.select_runs.ensures.keeps range c.requires.done c.in_ok-node-in-Differ.ensures.node
    ∙ ap (λ o. bits_of c.args.pool.now c.args.done.now.items ++ closed (tree_at c.args.pool.now c.args.c) (open_of c.args.pool.now o)) (sym d.is)) c.push_bits.ensures

pub returns-in_ok-node-in-Differ-clause-fit : goal.returns-in_ok-node-in-Differ-clause-fit
returns-in_ok-node-in-Differ-clause-fit c =
    let d = c.in-Differ in
    let range = subst (OpenFits c.args.pool.now) d.is c.requires.range in
    let n = c.count-count.ensures in
    onok c.push_bits.result (λ e. subst (BitsFit c.select_runs.new.pool) (sym (e ∙ ap (λ k. c.args.done.now.items ++ node_bits c.in_ok-node-in-Differ.node k 0 k) n))
    (closed_fit c.args.pool.now c.select_runs.new.pool d.first d.second c.args.c c.in_ok-node-in-Differ.node c.args.done.now.items c.select_runs.ensures.keeps range c.requires.done c.in_ok-node-in-Differ.ensures.node)) c.push_bits.ensures
