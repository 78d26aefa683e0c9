use Rattle.std.proofs.Common.{◌≡◌, map}
use Rattle.vg_shapes.specs.Depends.{depended}
use Rattle.vg_shapes.specs.Order.{numbers_from}
use Rattle.vg_deps.proofs.dependences.rows.Given as goal

abbrev pub invariant-values : goal.invariant-values
invariant-values l = l.rows.items ≡ map (depended l.ssa) (numbers_from 0 l.value)
