use Rattle.vg_reading_laws.proofs.Texts.{instruction-files-are-a-language}
use Rattle.vg_reading_laws.proofs.law.instruction_files_are_a_language.Goals as goal

pub returns : goal.returns
returns c = instruction-files-are-a-language
