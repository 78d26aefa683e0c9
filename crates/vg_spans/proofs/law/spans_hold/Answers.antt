use Rattle.vg_spans.proofs.Runs.{spans-are_readable, spans-hold}
use Rattle.vg_spans.proofs.law.spans_hold.Goals as goal

pub returns-clause-readable : goal.returns-clause-readable
returns-clause-readable c = spans-are_readable

pub returns-clause-hold : goal.returns-clause-hold
returns-clause-hold c = spans-hold
