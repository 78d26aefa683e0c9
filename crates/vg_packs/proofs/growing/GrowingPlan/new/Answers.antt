use Rattle.vg_packs.proofs.Floors.{grown-empty}
use Rattle.vg_packs.proofs.growing.GrowingPlan.new.Goals as goal

pub returns-clause-grown : goal.returns-clause-grown
returns-clause-grown c =
    grown-empty c.args.table.now c.args.ssa.now c.args.deps.now c.requires.earlier.earlier _ c.in_ok-end.end c.in_ok-end.ensures
    c.new-packs.ensures.items c.in_ok-packed.ensures c.in_ok-spanned.ensures
