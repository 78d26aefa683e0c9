use Rattle.vg_text.specs.Lexing.{reading}
use Rattle.vg_kernel.proofs.Heads.{head-well_formed}
use Rattle.vg_kernel.proofs.parser.parse_head.Goals as goal

pub returns-clause-well_formed : goal.returns-clause-well_formed
returns-clause-well_formed c = head-well_formed (reading c.args.lexer.now) (c.in_ok-head.head, reading c.in_ok-head.behind) c.in_ok-head.ensures.read
