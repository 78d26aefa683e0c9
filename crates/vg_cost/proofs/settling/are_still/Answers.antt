use Rattle.vg_cost.proofs.Still.{eight_still}
use Rattle.vg_cost.proofs.settling.are_still.Goals as goal

pub returns : goal.returns
returns c = eight_still c.args.changed.now c.args.end
