use Rattle.std.proofs.Common.{◌≡◌, length, map}
use Rattle.vg_pseudo.specs.Resolved.{end}
use Rattle.vg_names.specs.Naming.{list_behind}
use Rattle.vg_names.specs.Views.{expr_of, list_of}
use Rattle.vg_names.proofs.expressions.linked.Given as goal

abbrev pub invariant-arguments : goal.invariant-arguments
invariant-arguments l = list_behind (map expr_of l.done.items) (list_of l.list) ≡ list_behind (map expr_of l.initial.done.items) end

abbrev pub decreases-arguments : goal.decreases-arguments
decreases-arguments l = length l.done.items
