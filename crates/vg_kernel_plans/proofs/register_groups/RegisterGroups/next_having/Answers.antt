use Rattle.std.proofs.Common.{arith, get_or, subst, sym, take}
use Rattle.std.proofs.lemmas.List.{take_all, take_more}
use Rattle.vg_kernel_plans.specs.LoadTable.{IsLeast, is_wanted_from}
use Rattle.vg_kernel_plans.proofs.GroupNumbers.{next-more, next-none}
use Rattle.vg_kernel_plans.proofs.register_groups.RegisterGroups.next_having.Goals as goal

pub units-init : goal.units-init
units-init c = next-none c.args.self.now.groups.items c.args.from

pub units-preserved : goal.units-preserved
units-preserved c =
    let u = get_or c.args.units.now c.units.unit-index 0 in
    subst (λ us. IsLeast (is_wanted_from c.args.self.now.groups.items us c.args.from) c.least_onto-least.result)
    (sym (take_more c.args.units.now c.units.unit-index 0 c.units-test.true))
    (next-more c.args.self.now.groups.items c.args.self.now.numbers.items c.requires.table (take c.units.unit-index c.args.units.now) u c.args.from
    c.units.least c.least_onto-least.result c.numbers.result.now c.numbers.ensures c.least_onto-least.ensures c.units.invariant)

pub returns : goal.returns
returns c =
    subst (λ us. IsLeast (is_wanted_from c.args.self.now.groups.items us c.args.from) c.units.least)
    (take_all c.units.unit-index c.args.units.now (omega (arith, c.units-test.false))) c.units.invariant
