use Rattle.vg_reading_laws.proofs.Texts.{guarded-loops-are-a-language}
use Rattle.vg_reading_laws.proofs.law.guarded_loops_are_a_language.Goals as goal

pub returns : goal.returns
returns c = guarded-loops-are-a-language
