use Rattle.vg_text.specs.Lexing.{reading, spelled_of}
use Rattle.vg_pseudo.proofs.Taking.{word-fewer}
use Rattle.vg_pseudo.proofs.reading.next.Goals as goal

pub returns-in-Ok-clause-fewer : goal.returns-in-Ok-clause-fewer
returns-in-Ok-clause-fewer c = word-fewer (reading c.args.lexer.now) (spelled_of c.in-Ok.word, reading c.in-Ok.behind) c.in-Ok.ensures.word
