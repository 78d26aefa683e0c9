use Rattle.vg_lift.proofs.Nodes.{longer_at}
use Rattle.vg_lift.proofs.run.longer_run.Goals as goal

pub returns-in-Terms-clause-fits : goal.returns-in-Terms-clause-fits
returns-in-Terms-clause-fits c =
    let d = c.in-Terms in
    longer_at c.args._pool.now c.args.run c.args._bit d.node d.width d.low d.count d.is c.requires.run c.requires.bit c.requires.next
