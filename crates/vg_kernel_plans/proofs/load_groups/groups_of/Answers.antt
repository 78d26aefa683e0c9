use Rattle.std.proofs.Common.{◌≡◌, subst}
use Rattle.std.specs.Prelude.{IfOk}
use Rattle.vg_kernel_plans.proofs.Tables.{made-below, made-groups}
use Rattle.vg_kernel_plans.proofs.load_groups.groups_of.Goals as goal

pub new-requires : goal.new-requires
new-requires c = record {
  below =
      made-below c.args.ssa.now c.args.register c.in_ok-units.units c.args.loads.now c.args.begins.now c.in_ok-units.ensures c.requires.loads
      c.requires.begins;
}

pub returns-clause-groups : goal.returns-clause-groups
returns-clause-groups c =
    subst (λ gs. IfOk c.new.result (λ g. g.groups.items ≡ gs))
    (made-groups c.args.ssa.now c.args.register c.args.loads.now c.args.begins.now c.requires.loads c.requires.begins)
    c.new.ensures.groups
