use Rattle.std.proofs.Common.{refl}
use Rattle.std.specs.Vec.{with_item}
use Rattle.vg_lift.proofs.Puts.{give_leaves}
use Rattle.vg_lift.proofs.putting.give.Goals as goal

pub returns-in-Some : goal.returns-in-Some
returns-in-Some c =
    let s = c.args.state.now in
    give_leaves c.args.pool.now s (record { registers = s.registers; variables = with_item s.variables c.args.variable c.args.node })
    c.args.variable c.args.node c.requires.fits c.requires.node refl refl
