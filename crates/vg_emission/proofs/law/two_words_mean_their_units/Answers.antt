use Rattle.vg_emission.proofs.TwoWords.{two-words-mean}
use Rattle.vg_emission.proofs.law.two_words_mean_their_units.Goals as goal

pub returns : goal.returns
returns c = two-words-mean
