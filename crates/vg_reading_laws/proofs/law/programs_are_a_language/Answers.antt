use Rattle.vg_reading_laws.proofs.Texts.{programs-are-a-language}
use Rattle.vg_reading_laws.proofs.law.programs_are_a_language.Goals as goal

pub returns : goal.returns
returns c = programs-are-a-language
