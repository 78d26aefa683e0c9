use Rattle.vg_plan_relations.proofs.Held.{holds-told}
use Rattle.vg_plan_relations.proofs.law.holds_is_told.Goals as goal

pub returns : goal.returns
returns c = holds-told
