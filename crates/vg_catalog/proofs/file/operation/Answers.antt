use Rattle.std.proofs.Common.{◌∙◌}
use Rattle.vg_text.specs.Lexing.{reading}
use Rattle.vg_pseudo.specs.Tree.{operation_of}
use Rattle.vg_catalog.proofs.FileSteps.{text_kept}
use Rattle.vg_catalog.proofs.file.operation.Goals as goal

pub invariant_of-reader : goal.invariant_of-reader
invariant_of-reader c =
    let reader = c.args.reader.now in
    record {
      same = text_kept c.what_is_read_is_in_the_grammar.ensures (reading reader.lexer) (reading c.parse_operation.new.lexer) (operation_of c.in_ok-operation.operation) c.in_ok-operation.ensures.exact ∙ reader.same;
    }
