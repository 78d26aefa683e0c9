use Rattle.std.proofs.Common.{◌∙◌}
use Rattle.vg_kernel_plans.proofs.GroupNumbers.{number-off, number-on, there-has}
use Rattle.vg_kernel_plans.proofs.register_groups.push_number.Goals as goal

pub returns-else-there : goal.returns-else-there
returns-else-there c =
    number-off c.args.groups.now c.args.unit c.args.index c.args.numbers.now.items
    (there-has c.args.groups.now c.args.unit c.args.index _ c.has_unit-there.result c.requires.inside c.index-groups-index.is c.has_unit-there.ensures ∙ c.if-there.false)

pub returns-in_ok-push : goal.returns-in_ok-push
returns-in_ok-push c =
    number-on c.args.groups.now c.args.unit c.args.index c.args.numbers.now.items c.push.new.self.items
    (there-has c.args.groups.now c.args.unit c.args.index _ c.has_unit-there.result c.requires.inside c.index-groups-index.is c.has_unit-there.ensures ∙ c.if-there.true)
    c.in_ok-push.ensures.items
