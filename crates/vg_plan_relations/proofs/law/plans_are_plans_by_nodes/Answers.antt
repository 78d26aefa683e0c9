use Rattle.vg_plan_relations.proofs.Planning.{plans-by-nodes}
use Rattle.vg_plan_relations.proofs.law.plans_are_plans_by_nodes.Goals as goal

pub returns : goal.returns
returns c = plans-by-nodes
