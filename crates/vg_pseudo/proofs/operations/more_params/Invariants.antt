-- what is read from here on is what was to be read
use Rattle.std.proofs.Common.{◌≡◌, ◌≤◌, [], ◌∷◌}
use Rattle.std.specs.Prelude.{codes}
use Rattle.vg_text.specs.Lexing.{reading}
use Rattle.vg_pseudo.specs.Reader.{accept_at, items_behind, unread}
use Rattle.vg_pseudo.specs.Operations.{param_at}
use Rattle.vg_pseudo.proofs.ItemLists.{Goes}
use Rattle.vg_pseudo.proofs.operations.more_params.Given as goal

abbrev pub invariant-params : goal.invariant-params
invariant-params l = record {
  goes : Goes (accept_at (codes ",")) param_at
      (items_behind (accept_at (codes ",")) param_at l.initial.done.items (reading l.initial.lexer))
      l.done.items (reading l.lexer);
  start : l.initial.done.items ≡ l.fn.first ∷ [];
  fewer : unread (reading l.lexer) ≤ unread (reading l.initial.lexer);
}

abbrev pub decreases-params : goal.decreases-params
decreases-params l = unread (reading l.lexer)
