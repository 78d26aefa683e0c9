use Rattle.std.proofs.Common.{sym, subst, ◌∙◌, map}
use Rattle.std.specs.List.{AllByRecursion}
use Rattle.vg_shapes.specs.Bindings.{BindsInOrder}
use Rattle.vg_shapes.specs.Description.{description_of}
use Rattle.vg_shapes.specs.MatchTable.{IsTable}
use Rattle.vg_shapes.specs.Matches.{AreMatches}
use Rattle.vg_match.proofs.InOrder.{all-in-order}
use Rattle.vg_match.proofs.Tables.{are-matches, is-table}
use Rattle.vg_match.proofs.matching.build.Goals as goal

pub from_vec-requires : goal.from_vec-requires
from_vec-requires c = subst IsTable (sym c.in_ok-matches.ensures) (is-table c.args.descriptions.now c.args.ssa.now)

pub returns-clause-matches : goal.returns-clause-matches
returns-clause-matches c =
    subst (AreMatches (map description_of c.args.descriptions.now) c.args.ssa.now)
    (sym (c.from_vec.ensures ∙ c.in_ok-matches.ensures)) (are-matches c.args.descriptions.now c.args.ssa.now)

pub returns-clause-bindings : goal.returns-clause-bindings
returns-clause-bindings c =
    subst (AllByRecursion (BindsInOrder (map description_of c.args.descriptions.now)))
    (sym (c.from_vec.ensures ∙ c.in_ok-matches.ensures)) (all-in-order c.args.descriptions.now c.args.ssa.now)
