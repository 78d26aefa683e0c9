use Rattle.std.proofs.Common.{map, subst, sym}
use Rattle.vg_lanes.specs.Described.{AreLanes}
use Rattle.vg_range.specs.Checks.{header_in, operation_in}
use Rattle.vg_shapes.specs.Lane.{lane_of}
use Rattle.vg_entry_lanes.proofs.Lanes.{are_lanes}
use Rattle.vg_lift_text.proofs.entries.list_lanes.Goals as goal

pub list_instance-requires : goal.list_instance-requires
list_instance-requires c =
    subst (λ h. AreLanes h (map lane_of c.in_ok-lanes.lanes.items)) (sym c.header.ensures.header)
    (are_lanes (header_in c.args.entry.now) (operation_in c.args.entry.now) c.args.imm c.in_ok-lanes.lanes.items c.in_ok-lanes.ensures.means c.in_ok-lanes.ensures.fill)
