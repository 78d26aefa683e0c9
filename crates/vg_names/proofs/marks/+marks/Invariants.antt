use Rattle.std.proofs.Common.{◌≡◌, ◌≤◌, map}
use Rattle.vg_pseudo.specs.Tree.{arguments_of}
use Rattle.vg_pseudo.specs.declared.expression.Arguments.{size-Arguments}
use Rattle.vg_names.specs.Marks.{all_marked}
use Rattle.vg_names.proofs.marks.+marks.Given as goal

abbrev pub invariant-mark_all-arguments : goal.invariant-mark_all-arguments
invariant-mark_all-arguments l = record {
  same : all_marked (map (λ t. t.now) l.turns) (arguments_of l.left) l.names ≡ all_marked (map (λ t. t.now) l.turns) (arguments_of l.fn.arguments) l.initial.names;
  inside : size-Arguments l.left ≤ size-Arguments l.fn.arguments;
}
