use Rattle.std.proofs.Common.{Some}
use Rattle.vg_kernel_plans.specs.Packing.{used_by}
use Rattle.vg_cost.proofs.Moving.{counted_turn_under}
use Rattle.vg_cost.proofs.settling.count_change.Goals as goal

pub returns : goal.returns
returns c =
    counted_turn_under c.args.number c.args.was c.args.is (used_by (Some c.args.unit.now)) _ _ _ _ c.if-was-is.false
    c.in_ok-count_used.ensures
