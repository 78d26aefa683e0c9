use Rattle.std.proofs.Common.{refl}
use Rattle.std.proofs.lemmas.List.{append-nil}
use Rattle.vg_trial.proofs.Trials.{grown, no_groups, more_groups}
use Rattle.vg_trial.proofs.kernel.put_groups.Goals as goal

pub groups-init : goal.groups-init
groups-init c = rw (no_groups c.args.number, append-nil c.args.text.now.items) refl

pub groups-preserved : goal.groups-preserved
groups-preserved c = grown c.args.text.now.items _ _ _ _ _ c.in_ok-put_group.ensures c.groups.invariant (more_groups c.args.number c.groups.k)
