use Rattle.std.proofs.Common.{◌*◌, ◌∙◌, ap, map, subst, sym}
use Rattle.std.proofs.lemmas.List.{length-map}
use Rattle.std.proofs.lemmas.Result.{on_ok_weaker}
use Rattle.vg_catalog.specs.Entries.{entry_of}
use Rattle.vg_lanes.specs.Described.{AreLanes}
use Rattle.vg_entry_lanes.proofs.Lanes.{are_lanes}
use Rattle.vg_range.specs.Checks.{header_in, operation_in}
use Rattle.vg_shapes.specs.Lane.{lane_of}
use Rattle.vg_descriptions.proofs.Adding.{added, stays}
use Rattle.vg_descriptions.proofs.descriptions.add_instance.Goals as goal

pub describe-requires : goal.describe-requires
describe-requires c =
    subst (λ h. AreLanes h (map lane_of c.in_ok-lanes.lanes.items)) (sym c.header.ensures.header)
    (are_lanes (header_in c.args.entry.now) (operation_in c.args.entry.now) c.args.imm c.in_ok-lanes.lanes.items c.in_ok-lanes.ensures.means c.in_ok-lanes.ensures.fill)

pub returns-in-Packable-clause-is : goal.returns-in-Packable-clause-is
returns-in-Packable-clause-is c =
    on_ok_weaker c.push.result
    (λ e. added c.args.to.now.descriptions.items c.push.new.self.descriptions.items c.in-Packable.found c.in_ok-found.field-0 c.header.result.now (header_in c.args.entry.now) (operation_in c.args.entry.now) c.args.imm
    (map lane_of c.in_ok-lanes.lanes.items) e c.in-Packable.is c.header.ensures.header c.in_ok-found.ensures.is c.in_ok-lanes.ensures.is)
    c.push.ensures

pub returns-in-Packable-clause-stay : goal.returns-in-Packable-clause-stay
returns-in-Packable-clause-stay c =
    on_ok_weaker c.push.result
    (λ e. stays c.args.to.now.descriptions.items c.push.new.self.descriptions.items c.in-Packable.found c.in_ok-found.field-0 c.header.result.now (entry_of c.args.entry.now) c.args.imm
    (map lane_of c.in_ok-lanes.lanes.items) e c.in-Packable.is c.header.ensures.header c.in_ok-found.ensures.is c.in_ok-found.ensures.kept
    c.requires.proper c.requires.range c.requires.number c.in_ok-lanes.ensures.means
    (ap (λ n. n * (header_in c.args.entry.now).lane_width) (length-map c.in_ok-lanes.lanes.items lane_of) ∙ c.in_ok-lanes.ensures.fill))
    c.push.ensures
