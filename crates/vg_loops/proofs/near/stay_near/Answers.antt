use Rattle.std.proofs.Common.{sym, ◌∙◌}
use Rattle.vg_loops.proofs.Nearness.{near-told, as-many}
use Rattle.vg_loops.proofs.near.stay_near.Goals as goal

pub returns-clause-near : goal.returns-clause-near
returns-clause-near c e = near-told c.args.steps.now c.args.turns c.args.places.now (sym c.stays.ensures ∙ e)

pub returns-clause-long : goal.returns-clause-long
returns-clause-long c e = as-many c.args.steps.now c.args.turns c.args.places.now (sym c.stays.ensures ∙ e)
