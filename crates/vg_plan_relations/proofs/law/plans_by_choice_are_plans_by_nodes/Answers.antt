use Rattle.vg_plan_relations.proofs.Planning.{plans-by-nodes-by}
use Rattle.vg_plan_relations.proofs.law.plans_by_choice_are_plans_by_nodes.Goals as goal

pub returns : goal.returns
returns c = plans-by-nodes-by
