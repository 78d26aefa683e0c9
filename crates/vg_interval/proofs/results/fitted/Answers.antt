use Rattle.std.proofs.Common.{rules}
use Rattle.vg_interval.proofs.Fitting.{fitted_is}
use Rattle.vg_interval.proofs.results.fitted.Goals as goal

pub returns : goal.returns
returns c = search (rules, fitted_is c.args.x c.ranges.x)
