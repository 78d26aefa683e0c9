use Rattle.vg_known.proofs.OneWord.{bytes-mean-the-word}
use Rattle.vg_known.proofs.law.bytes_mean_the_word.Goals as goal

pub returns : goal.returns
returns c = bytes-mean-the-word
