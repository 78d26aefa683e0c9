use Rattle.vg_events.proofs.Runs.{runs-are-events}
use Rattle.vg_events.proofs.law.runs_are_events.Goals as goal

pub returns : goal.returns
returns c = runs-are-events
