use Rattle.vg_trial.proofs.Layouts.{memory-length, memory-bytes, trial-ends, trial-respects}
use Rattle.vg_trial.proofs.memory.trial_memory.Goals as goal

pub returns-clause-size : goal.returns-clause-size
returns-clause-size c = memory-length c.args.number

pub returns-clause-bytes_of : goal.returns-clause-bytes_of
returns-clause-bytes_of c = memory-bytes c.args.number

pub returns-clause-ends : goal.returns-clause-ends
returns-clause-ends c = trial-ends c.args.number

pub returns-clause-layout : goal.returns-clause-layout
returns-clause-layout c = trial-respects c.args.number
