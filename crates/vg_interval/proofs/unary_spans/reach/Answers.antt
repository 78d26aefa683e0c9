use Rattle.std.proofs.Common.{rules}
use Rattle.vg_interval.proofs.Fitting.{reach_is, reach_none}
use Rattle.vg_interval.proofs.unary_spans.reach.Goals as goal

pub returns-in-Some : goal.returns-in-Some
returns-in-Some c =
    search (rules, reach_is c.args.least c.args.greatest c.in-Some.least c.ranges.greatest)

pub returns-in-None : goal.returns-in-None
returns-in-None c = search (rules, reach_none c.args.least c.args.greatest c.ranges.least c.ranges.greatest)
