use Rattle.std.proofs.Common.{◌∙◌}
use Rattle.vg_catalog.specs.Catalogs.{entries_in}
use Rattle.vg_known.specs.WiderDifference.{equality}
use Rattle.vg_verify.proofs.Heads.{head_same}
use Rattle.vg_verify.proofs.Verdicts.{means_same, scalar_same}
use Rattle.vg_verify.proofs.comparison.verify.Goals as goal

pub returns-clause-same : goal.returns-clause-same
returns-clause-same c =
    means_same c.same_means_units.ensures c.catalogs_are_told.ensures c.args.more c.args.catalog.now c.args.ssa.now
    c.args.program.now c.verdict_for.result
    c.requires.sound (c.verdict_for.ensures ∙ c.in_ok-found.ensures)

pub returns-clause-scalar : goal.returns-clause-scalar
returns-clause-scalar c =
    scalar_same c.scalar_programs_are_same.ensures c.same_is_same_with_more.ensures c.args.more
    (entries_in c.args.catalog.now) c.args.ssa.now c.args.program.now
    c.verdict_for.result c.requires.sound (c.verdict_for.ensures ∙ c.in_ok-found.ensures)

pub returns-clause-head : goal.returns-clause-head
returns-clause-head c =
    head_same (equality c.args.more) (entries_in c.args.catalog.now) c.args.ssa.now c.args.program.now
    c.verdict_for.result
    (c.verdict_for.ensures ∙ c.in_ok-found.ensures)
