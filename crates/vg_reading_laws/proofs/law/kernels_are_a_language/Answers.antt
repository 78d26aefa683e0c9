use Rattle.vg_reading_laws.proofs.Texts.{kernels-are-a-language}
use Rattle.vg_reading_laws.proofs.law.kernels_are_a_language.Goals as goal

pub returns : goal.returns
returns c = kernels-are-a-language
