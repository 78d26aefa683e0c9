use Rattle.std.proofs.Common.{map, arith}
use Rattle.vg_catalog.specs.Entries.{entry_of}
use Rattle.vg_range.specs.Checks.{header_in, operation_in}
use Rattle.vg_shapes.specs.Description.{description_of}
use Rattle.vg_entry_lanes.proofs.Ranges.{lines-more}
use Rattle.vg_descriptions.specs.Descriptions.{instance_description}
use Rattle.vg_descriptions.proofs.Entries.{stay-on}
use Rattle.vg_descriptions.proofs.descriptions.add_range.Goals as goal

pub immediates-preserved : goal.immediates-preserved
immediates-preserved c =
    let before = map description_of c.args.to.now.descriptions.items in
    let now = map description_of c.immediates.to.descriptions.items in
    let next = map description_of c.add_instance.new.to.descriptions.items in
    record {
      is = lines-more (instance_description (header_in c.args.entry.now) (operation_in c.args.entry.now)) before now next c.args.first c.immediates.imm
          c.immediates.auto.imm c.immediates.invariant.is c.in_ok-add_instance.ensures.is;
      stay = stay-on (entry_of c.args.entry.now) before now next c.immediates.invariant.stay c.in_ok-add_instance.ensures.stay;
      within = omega (arith, c.immediates-test.true);
    }
