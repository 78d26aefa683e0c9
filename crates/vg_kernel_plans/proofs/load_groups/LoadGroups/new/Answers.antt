use Rattle.std.proofs.Common.{◌≡◌, ◌∙◌, ap, false}
use Rattle.vg_kernel_plans.specs.LoadGroups.{load_groups}
use Rattle.vg_kernel_plans.proofs.Tables.{tried-none}
use Rattle.vg_kernel_plans.proofs.load_groups.LoadGroups.new.Goals as goal

pub returns-clause-groups : goal.returns-clause-groups
returns-clause-groups c =
    let off : c.no_groups.result.choice.fed ≡ false = ap (λ q. q.fed) c.no_groups.ensures.choice ∙ c.if-fed.false in
    record {
      tables = c.no_groups.ensures.tables;
      groups = λ register. c.no_groups.ensures.none register ∙ tried-none c.no_groups.result.choice.fed off (load_groups c.args.ssa.now register);
    }
