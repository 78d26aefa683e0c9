use Rattle.vg_text.specs.Lexing.{reading}
use Rattle.vg_kernel.specs.Tree.{tree_of}
use Rattle.vg_kernel.proofs.Heads.{block-well_formed}
use Rattle.vg_kernel.proofs.parser.parse_statements.Goals as goal

pub returns-clause-well_formed : goal.returns-clause-well_formed
returns-clause-well_formed c = block-well_formed c.args.head (reading c.args.lexer.now) ((tree_of c.in_ok-kernel.kernel, c.in_ok-kernel.brace), reading c.in_ok-kernel.behind) c.requires c.in_ok-kernel.ensures.read
