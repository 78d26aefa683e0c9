-- What the code holds while it reads, as what reading speaks of.
use Rattle.vg_pseudo.specs.declared.parts.Part as code_part
use Rattle.vg_pseudo.specs.declared.parts.Linked as code_linked
use Rattle.vg_pseudo.specs.declared.blocks.Block as code_block
use Rattle.vg_pseudo.specs.declared.operations.Defined as code_defined
use Rattle.vg_pseudo.specs.Tree.{expression_of, arguments_of, statements_of, define_of}
use Rattle.vg_pseudo.specs.Expressions.{Part, Linked}
use Rattle.vg_pseudo.specs.Statements.{Block}
use Rattle.vg_pseudo.specs.Operations.{Defined}

abbrev pub part_of : code_part.Part → Part
part_of p = record { expression = expression_of p.expression; depth = p.depth; calls = p.calls }

abbrev pub linked_of : code_linked.Linked → Linked
linked_of l = record { arguments = arguments_of l.arguments; depth = l.depth; calls = l.calls }

abbrev pub block_of : code_block.Block → Block
block_of b = record { statements = statements_of b.statements; calls = b.calls }

abbrev pub defined_of : code_defined.Defined → Defined
defined_of d = record { define = define_of d.define; depth = d.depth }
