use Rattle.vg_emission.proofs.Rules.{emitted-keeps-rules}
use Rattle.vg_emission.proofs.law.emitted_programs_keep_the_rules.Goals as goal

pub returns : goal.returns
returns c = emitted-keeps-rules
