-- what is left, read after those that are done, is what the whole was
use Rattle.std.proofs.Common.{◌≡◌, ◌≤◌, ◌-◌, vec_len}
use Rattle.vg_text.specs.Lexing.{reading}
use Rattle.vg_kernel.specs.Statements.{parameters_behind}
use Rattle.vg_kernel.proofs.parser.parameters_behind.Given as goal

abbrev pub invariant-parameters : goal.invariant-parameters
invariant-parameters l = record {
  room : vec_len l.done ≤ 16;
  read : parameters_behind (16 - vec_len l.done) l.done.items (reading l.lexer) ≡ parameters_behind 15 l.fn.first.items (reading l.initial.lexer);
}

abbrev pub decreases-parameters : goal.decreases-parameters
decreases-parameters l = 16 - vec_len l.done
