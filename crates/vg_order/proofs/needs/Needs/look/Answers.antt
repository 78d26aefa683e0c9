use Rattle.std.proofs.Common.{refl}
use Rattle.vg_order.specs.Needs.{rows_of}
use Rattle.vg_order.proofs.Looks.{looks-more, looks-stop}
use Rattle.vg_order.proofs.needs.Needs.look.Goals as goal

pub returns-then-open-units : goal.returns-then-open-units
returns-then-open-units c =
    looks-stop c.args.homes.now c.args.placed.now (rows_of c.args.deps.now c.args.self.now) c.args.from c.rows.row c.rows.index
    c.row_at-units.result.now c.first_open-open.result _ c.row_at-units.ensures (c.first_open-open.ensures.low c.if-open-units.true) c.if-open-units.true
    c.first_open-open.ensures.known (c.first_open-open.ensures.open c.if-open-units.true) c.rows.invariant refl

pub rows-preserved : goal.rows-preserved
rows-preserved c =
    looks-more c.args.homes.now c.args.placed.now (rows_of c.args.deps.now c.args.self.now) c.args.from c.rows.row c.rows.index
    c.row_at-units.result.now c.first_open-open.result c.row_at-units.ensures c.if-open-units.false
    c.first_open-open.ensures.known c.rows.invariant
