use Rattle.vg_plan_relations.proofs.Planning.{may-be-fed-by-nodes}
use Rattle.vg_plan_relations.proofs.law.plans_by_nodes_may_be_fed.Goals as goal

pub returns : goal.returns
returns c = may-be-fed-by-nodes
