use Rattle.std.proofs.Common.{◌∙◌, map}
use Rattle.vg_shapes.specs.Description.{description_of}
use Rattle.vg_kernel_plans.specs.SameAs.{same_operand}
use Rattle.vg_kernel_plans.specs.Taken.{operands_of}
use Rattle.vg_kernel_plans.proofs.Onto.{onto-end, onto-step}
use Rattle.vg_kernel_plans.proofs.plan_operands.plan_operands.Goals as goal

pub packs-preserved : goal.packs-preserved
packs-preserved c =
    onto-step same_operand (operands_of (map description_of c.args.descriptions.now) c.args.table.now c.args.ssa.now)
    c.args.packs.now c.packs.pack-index c.pack-item.result c.packs.found.items c.add_new.new.operands.items c.in_ok-taken.taken.items
    c.packs-test.true c.pack-item.is c.in_ok-taken.ensures c.in_ok-add_new.ensures
    ∙ c.packs.invariant

pub returns : goal.returns
returns c =
    onto-end same_operand (operands_of (map description_of c.args.descriptions.now) c.args.table.now c.args.ssa.now)
    c.args.packs.now c.packs.pack-index c.packs.found.items c.packs-test.false c.packs.invariant
