use Rattle.std.proofs.Common.{◌≡◌, length, map}
use Rattle.vg_pseudo.specs.Resolved.{stop}
use Rattle.vg_names.specs.Pieces.{behind, code_behind}
use Rattle.vg_names.specs.Views.{code_view}
use Rattle.vg_names.proofs.piece.linked.Given as goal

abbrev pub invariant-statements : goal.invariant-statements
invariant-statements l = code_behind (map behind l.done.items) (code_view l.code) ≡ code_behind (map behind l.initial.done.items) stop

abbrev pub decreases-statements : goal.decreases-statements
decreases-statements l = length l.done.items
