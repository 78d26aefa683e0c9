use Rattle.vg_reading_laws.proofs.Texts.{guarded-texts-are-a-language}
use Rattle.vg_reading_laws.proofs.law.guarded_texts_are_a_language.Goals as goal

pub returns : goal.returns
returns c = guarded-texts-are-a-language
