-- what is read from here on is what was to be read
use Rattle.std.proofs.Common.{◌≡◌, true, map}
use Rattle.vg_text.specs.Lexing.{reading}
use Rattle.vg_pseudo.specs.Reader.{unread}
use Rattle.vg_pseudo.specs.Tree.{define_of}
use Rattle.vg_pseudo.specs.Operations.{defines_at}
use Rattle.vg_pseudo.proofs.DefineLists.{GoesOn}
use Rattle.vg_pseudo.proofs.operations.defines.Given as goal

abbrev pub invariant-defines : goal.invariant-defines
invariant-defines l = record {
  goes : GoesOn (defines_at (reading l.initial.lexer)) (record { defines = map define_of l.done.items; known = l.definitions.known }) (reading l.lexer);
  inside : l.definitions.inside ≡ true;
}

abbrev pub decreases-defines : goal.decreases-defines
decreases-defines l = unread (reading l.lexer)
