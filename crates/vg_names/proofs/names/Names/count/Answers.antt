use Rattle.std.proofs.Common.{subst}
use Rattle.vg_names.specs.Distinct.{AreDistinct}
use Rattle.vg_names.proofs.names.Names.count.Goals as goal

pub returns-clause-distinct : goal.returns-clause-distinct
returns-clause-distinct c = subst AreDistinct c.self.view_is c.self.invariant
