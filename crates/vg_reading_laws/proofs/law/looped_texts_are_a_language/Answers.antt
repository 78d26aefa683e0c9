use Rattle.vg_reading_laws.proofs.Texts.{looped-texts-are-a-language}
use Rattle.vg_reading_laws.proofs.law.looped_texts_are_a_language.Goals as goal

pub returns : goal.returns
returns c = looped-texts-are-a-language
