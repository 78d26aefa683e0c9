use Rattle.std.proofs.Common.{[], ◌∙◌, ap, subst, sym}
use Rattle.std.specs.List.{AllByRecursion}
use Rattle.vg_plans.specs.World.{operands}
use Rattle.vg_kernel_plans.specs.Packing.{packing}
use Rattle.vg_cost.specs.LongerPlan.{all_packs, described}
use Rattle.vg_cost.specs.Running.{taken_by}
use Rattle.vg_cost.specs.Taken.{add_all, taken_for}
use Rattle.vg_cost.specs.Touch.{IsKnownBy}
use Rattle.vg_cost.proofs.Growing.{known-by, taken-longer}
use Rattle.vg_cost.proofs.running.Running.taken_with.Goals as goal

pub keep_all-requires : goal.keep_all-requires
keep_all-requires c =
    let g = c.args.plan.now in
    let ds = described g in
    let ssa = g.ssa.now in
    record {
      plan = c.requires.plan;
      known = subst (AllByRecursion (IsKnownBy ds ssa (all_packs g) g.own.now))
          (sym (c.as_slice-old.ensures.value ∙ c.requires.stands.taken ∙ ap (taken_by ds c.args.table.now ssa) (sym c.requires.packs)))
          (known-by ds ssa g.packs.now g.last.now g.own.now (operands (packing ds c.args.table.now ssa []) g.packs.now) c.requires.plan.own);
    }

pub returns : goal.returns
returns c =
    let g = c.args.plan.now in
    let ds = described g in
    let matches = c.args.table.now in
    let ssa = g.ssa.now in
    c.in_ok-add_all.ensures
    ∙ ap (λ l. add_all (taken_for ds ssa (all_packs g)) l c.args.operands.now) c.in_ok-taken.ensures
    ∙ taken-longer ds matches ssa g.packs.now g.last.now c.as_slice-old.result.now c.args.operands.now
    (c.as_slice-old.ensures.value ∙ c.requires.stands.taken ∙ ap (taken_by ds matches ssa) (sym c.requires.packs))
    c.requires.operands
