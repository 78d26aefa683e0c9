use Rattle.std.proofs.Common.{None, map, ap, ◌∙◌}
use Rattle.vg_kernel.specs.Tree.{statement_of, tree_of}
use Rattle.vg_guard.specs.Reaching.{reach_with_all}
use Rattle.vg_guard.proofs.Reaches.{reach_of_is}
use Rattle.vg_guard.proofs.reaching.reach_of.Goals as goal

pub statements-init : goal.statements-init
statements-init c =
    ap (λ ss. reach_with_all c.args.pointer None (map statement_of ss)) c.as_slice-rest.ensures
    ∙ reach_of_is c.args.pointer (tree_of c.args.kernel.now)
