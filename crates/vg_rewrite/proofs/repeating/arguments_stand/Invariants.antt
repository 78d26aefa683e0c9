use Rattle.std.proofs.Common.{◌≡◌, ◌-◌, ◌≤◌, ◌++◌, map}
use Rattle.vg_shapes.specs.declared.wanted.Wanted.TheVariants.{Value}
use Rattle.vg_shapes.specs.Order.{numbers_from}
use Rattle.vg_rewrite.proofs.repeating.arguments_stand.Given as goal

-- those so far and those that are left are all
abbrev pub invariant-arguments : goal.invariant-arguments
invariant-arguments l = record {
  inside : l.left ≤ l.count;
  all : l.all.items ++ map Value (numbers_from (l.count - l.left) l.left) ≡ map Value (numbers_from 0 l.count);
}

abbrev pub decreases-arguments : goal.decreases-arguments
decreases-arguments l = l.left
