use Rattle.vg_plans.proofs.Disjoint.{one-pack}
use Rattle.vg_plans.proofs.law.packs_are_apart.Goals as goal

pub returns : goal.returns
returns c w is plan m p q v a b t u = one-pack w is plan m p q v a b t u
