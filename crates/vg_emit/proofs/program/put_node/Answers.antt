use Rattle.std.proofs.Common.{sym, subst}
use Rattle.vg_emit.specs.Views.{TakesNarrow}
use Rattle.vg_emit.proofs.Narrow.{units-narrow}
use Rattle.vg_emit.proofs.program.put_node.Goals as goal

pub put_unit-requires : goal.put_unit-requires
put_unit-requires c =
    subst TakesNarrow (sym c.unit_at.ensures) (units-narrow c.args.job.now.ssa.now c.in-UnitAt.unit c.requires.sound)
