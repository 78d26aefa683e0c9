use Rattle.std.proofs.Common.{◌≡◌, ℕ, List, map, refl, sym, ap, subst, ◌∙◌}
use Rattle.vg_kernel.specs.Tree.{Tree, tree_of, statement_of}
use Rattle.vg_kernel.specs.WellFormed.{IsWellFormed}
use Rattle.vg_loop_laws.specs.Unrolled.{unrolled}
use Rattle.vg_loop_laws.proofs.Kept.{unrolled-is-well_formed}
use Rattle.vg_loops.specs.View.{loop_of}
use Rattle.vg_loops.proofs.unrolling.unroll.Goals as goal

pub returns-clause-well_formed : goal.returns-clause-well_formed
returns-clause-well_formed c =
    let l = loop_of c.args.source.now in
    let name = c.in_ok-name.ensures in
    let params = c.from_vec.ensures ∙ c.in_ok-params.ensures ∙ c.as_slice.ensures in
    let statements = ap (map statement_of) c.from_vec-2.ensures ∙ c.in_ok-statements.ensures in
    let same : unrolled l c.args.turns ≡ record { name = c.in_ok-name.name; params = c.from_vec.result; statements = map statement_of c.from_vec-2.result } =
    (λ i. record { name = sym name i; params = sym params i; statements = sym statements i }) in
    subst IsWellFormed same (unrolled-is-well_formed l c.args.turns c.requires.well_formed c.requires.limits)
