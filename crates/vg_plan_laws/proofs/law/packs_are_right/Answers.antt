use Rattle.vg_plan_laws.proofs.Planned.{packs-are-right}
use Rattle.vg_plan_laws.proofs.law.packs_are_right.Goals as goal

pub returns : goal.returns
returns c = packs-are-right
