use Rattle.vg_plan_laws.proofs.Chosen.{chosen-fed-programs}
use Rattle.vg_plan_laws.proofs.law.chosen_fed_programs_are_right.Goals as goal

pub returns : goal.returns
returns c = chosen-fed-programs
