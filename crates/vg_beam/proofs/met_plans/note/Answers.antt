use Rattle.std.proofs.Common.{◌∙◌, ap}
use Rattle.vg_beam.specs.Key.{has_key}
use Rattle.vg_beam.proofs.Keys.{inserted}
use Rattle.vg_beam.proofs.met_plans.note.Goals as goal

pub returns-in-Ok : goal.returns-in-Ok
returns-in-Ok c = λ q. ap (λ ks. has_key (λ k. k.items) ks q) c.in-Ok.ensures.keys ∙ inserted (λ k. k.items) c.args.keys.now.keys c.args.key q
