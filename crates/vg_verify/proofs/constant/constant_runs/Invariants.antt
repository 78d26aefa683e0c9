use Rattle.vg_verify.specs.Noting.{Pieced}
use Rattle.vg_verify.proofs.constant.constant_runs.Given as goal

abbrev pub invariant-pieces : goal.invariant-pieces
invariant-pieces l = Pieced l.bytes l.all.items l.number
