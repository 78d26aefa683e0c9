use Rattle.std.proofs.Common.{sym, subst}
use Rattle.vg_loop_laws.specs.Limits.{KeepsLimits}
use Rattle.vg_loop_laws.proofs.Most.{turns-are-most}
use Rattle.vg_loops.specs.View.{loop_of}
use Rattle.vg_loops.proofs.limits.turns_of.Goals as goal

pub returns-clause-limits : goal.returns-clause-limits
returns-clause-limits c =
    let l = loop_of c.args.source.now in
    subst (KeepsLimits l) (sym c.turns_that_fit.ensures) (turns-are-most l c.requires).keep
