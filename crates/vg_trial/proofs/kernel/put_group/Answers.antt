use Rattle.std.proofs.Common.{refl}
use Rattle.std.proofs.lemmas.List.{append-nil}
use Rattle.vg_trial.proofs.Trials.{grown, no_statements, more_statements}
use Rattle.vg_trial.proofs.kernel.put_group.Goals as goal

pub statements-init : goal.statements-init
statements-init c = rw (no_statements c.of-shape.result c.args.k, append-nil c.args.text.now.items) refl

pub statements-preserved : goal.statements-preserved
statements-preserved c = grown c.args.text.now.items _ _ _ _ _ c.in_ok-put_statement.ensures c.statements.invariant (more_statements c.of-shape.result c.args.k c.statements.i)
