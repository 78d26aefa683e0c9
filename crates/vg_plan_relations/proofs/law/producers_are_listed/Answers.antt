use Rattle.vg_plan_relations.proofs.Producing.{producers-listed}
use Rattle.vg_plan_relations.proofs.law.producers_are_listed.Goals as goal

pub returns : goal.returns
returns c = producers-listed
