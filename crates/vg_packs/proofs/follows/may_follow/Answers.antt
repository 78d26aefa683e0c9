use Rattle.std.proofs.Common.{map}
use Rattle.vg_shapes.specs.Description.{description_of}
use Rattle.vg_packs.proofs.Following.{has-member, if-member, if-tried, not-tried}
use Rattle.vg_packs.proofs.follows.may_follow.Goals as goal

pub returns-then-not-is_among : goal.returns-then-not-is_among
returns-then-not-is_among c =
    let none =
    not-tried (map description_of c.args.descriptions.now) c.args.table.now c.args.ssa.now c.args.deps.now c.args.plan.now c.as_slice.result.now
    c.in_ok-packs.packs.items c.args.pack.now c.is_among.result c.as_slice.ensures.value c.in_ok-packs.ensures
    c.is_among.ensures c.if-not-is_among.true
    in
    record {
      same = none;
      member = has-member (map description_of c.args.descriptions.now) c.args.table.now c.args.ssa.now c.args.deps.now c.args.plan.now c.args.pack.now _ none;
    }

pub returns : goal.returns
returns c =
    let same =
    if-tried (map description_of c.args.descriptions.now) c.args.table.now c.args.ssa.now c.args.deps.now c.stays_plan.result c.args.plan.now c.as_slice.result.now
    c.in_ok-packs.packs.items c.args.pack.now c.is_among.result c.as_slice.ensures.value c.in_ok-packs.ensures
    c.is_among.ensures c.if-not-is_among.false c.stays_plan.ensures
    in
    record {
      same = same;
      member = if-member (map description_of c.args.descriptions.now) c.args.table.now c.args.ssa.now c.args.deps.now c.stays_plan.result c.args.plan.now c.args.pack.now same;
    }
