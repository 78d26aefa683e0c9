use Rattle.std.proofs.Common.{rules}
use Rattle.vg_interval.proofs.Fitting.{complements}
use Rattle.vg_interval.proofs.unary_spans.complemented.Goals as goal

pub returns : goal.returns
returns c = search (rules, complements c.args.least c.args.greatest c.ranges.least c.ranges.greatest)
