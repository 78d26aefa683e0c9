use Rattle.std.proofs.Common.{◌+◌, length, ap, subst, sym, ◌∙◌}
use Rattle.vg_shapes.specs.DepList.{pairs_from}
use Rattle.vg_shapes.specs.Depends.{depended}
use Rattle.vg_shapes.specs.Units.{arguments}
use Rattle.vg_deps.specs.Independent.{ListsDependences}
use Rattle.vg_deps.proofs.Pairs.{lists-dependences, pairs-of_rows}
use Rattle.vg_deps.proofs.dependences.depends.Goals as goal

pub returns-clause-exact : goal.returns-clause-exact
returns-clause-exact c =
    c.from_rows.ensures ∙ ap (pairs_from 0) c.in_ok-rows.ensures
    ∙ pairs-of_rows (depended c.args.ssa.now) 0 (arguments c.args.ssa.now + length c.args.ssa.now.units)

pub returns-clause-pairs : goal.returns-clause-pairs
returns-clause-pairs c =
    subst (λ deps. ListsDependences deps c.args.ssa.now)
    (sym (c.from_rows.ensures ∙ ap (pairs_from 0) c.in_ok-rows.ensures
    ∙ pairs-of_rows (depended c.args.ssa.now) 0 (arguments c.args.ssa.now + length c.args.ssa.now.units)))
    (lists-dependences c.args.ssa.now)
