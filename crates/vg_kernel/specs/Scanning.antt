-- What the code holds while it reads, as what reading speaks of.
use Rattle.vg_text.specs.Lexing.{reading}
use Rattle.vg_kernel.specs.declared.scan.Scan as code_scan
use Rattle.vg_kernel.specs.declared.scan.Part as code_part
use Rattle.vg_kernel.specs.declared.expressions.Operator as code_operator
use Rattle.vg_kernel.specs.declared.statement.KStmt.{KStmt}
use Rattle.vg_kernel.specs.Tree.{expression_of, statement_of}
use Rattle.vg_kernel.specs.Names.{Names}
use Rattle.vg_kernel.specs.Statements.{Step}
use Rattle.vg_kernel.specs.Expressions.{Scan, Part, Operator}

abbrev pub scan_of : code_scan.Scan → Scan
scan_of s = record { reading = reading s.lexer; used = s.used }

abbrev pub part_of : code_part.Part → Part
part_of p =
    record { expression = expression_of p.expression; depth = p.depth; scan = scan_of p.scan }

abbrev pub operator_view : code_operator.Operator → Operator
operator_view o = record { op = o.op; place = o.place; behind = reading o.lexer }

-- a statement that was read, beside the names that are given then
abbrev pub step_of : Names → KStmt × code_scan.Scan → Step
step_of names x = record { statement = statement_of x.0; names = names; scan = scan_of x.1 }
