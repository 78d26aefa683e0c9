use Rattle.std.proofs.Common.{◌+◌, ◌-◌, ◌<◌, ◌∙◌, arith, length, subst}
use Rattle.vg_kernel_plans.specs.LoadTable.{IsLeast, is_wanted_from}
use Rattle.vg_kernel_plans.proofs.GroupNumbers.{having-end, having-more, next-inside}
use Rattle.vg_kernel_plans.proofs.register_groups.RegisterGroups.having.Goals as goal

pub group-requires : goal.group-requires
group-requires c =
    (next-inside c.args.self.now.groups.items c.args.units.now c.groups.from c.in-Some.number c.groups.next c.in-Some.is c.groups.invariant.next).1

pub overflow_add-from : goal.overflow_add-from
overflow_add-from c =
    let i = next-inside c.args.self.now.groups.items c.args.units.now c.groups.from c.in-Some.number c.groups.next c.in-Some.is c.groups.invariant.next in
    omega (arith, i.1, c.requires.few)

pub groups-smaller : goal.groups-smaller
groups-smaller c =
    let i = next-inside c.args.self.now.groups.items c.args.units.now c.groups.from c.in-Some.number c.groups.next c.in-Some.is c.groups.invariant.next in
    let all = length c.args.self.now.groups.items in
    let less : all - (c.in-Some.number + 1) < all - c.groups.from = omega (arith, i.0, i.1) in
    less

pub groups-preserved : goal.groups-preserved
groups-preserved c =
    let i = next-inside c.args.self.now.groups.items c.args.units.now c.groups.from c.in-Some.number c.groups.next c.in-Some.is c.groups.invariant.next in
    let next = subst (IsLeast (is_wanted_from c.args.self.now.groups.items c.args.units.now c.groups.from)) c.in-Some.is c.groups.invariant.next in
    record {
      inside = omega (arith, i.1);
      packs =
          having-more c.args.self.now.groups.items c.args.units.now c.groups.from c.in-Some.number c.groups.packs.items c.push.new.self.items c.in_ok-copy.copy
          c.groups.invariant.packs next (c.in_ok-copy.ensures ∙ c.group.ensures) c.in_ok-push.ensures.items;
      next = c.next_having-next-in-Some.ensures;
    }

pub returns : goal.returns
returns c =
    having-end c.args.self.now.groups.items c.args.units.now c.groups.from c.groups.packs.items c.groups.invariant.inside c.groups.invariant.packs
    (subst (IsLeast (is_wanted_from c.args.self.now.groups.items c.args.units.now c.groups.from)) c.in_default.is c.groups.invariant.next)
