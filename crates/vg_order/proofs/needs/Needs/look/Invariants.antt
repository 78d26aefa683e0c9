use Rattle.vg_order.specs.Needs.{left_from, Passes, rows_of}
use Rattle.vg_order.proofs.needs.Needs.look.Given as goal

abbrev pub invariant-rows : goal.invariant-rows
invariant-rows l = Passes l.homes l.placed (left_from (rows_of l.deps l.self) l.fn.from) (left_from (rows_of l.deps l.self) (record { row = l.row; index = l.index }))
