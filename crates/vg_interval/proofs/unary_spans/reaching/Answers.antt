use Rattle.std.proofs.Common.{rules}
use Rattle.vg_interval.proofs.Fitting.{zero_kept}
use Rattle.vg_interval.proofs.unary_spans.reaching.Goals as goal

pub returns-in_err-greatest : goal.returns-in_err-greatest
returns-in_err-greatest c = search (rules, zero_kept)

pub returns : goal.returns
returns c = search (rules, zero_kept)
