use Rattle.std.proofs.Common.{refl}
use Rattle.vg_emission.proofs.law.two_words_are_two_lines.Goals as goal

pub returns : goal.returns
returns c = refl
