use Rattle.vg_kernel_plans.proofs.LoadPacks.{load-group}
use Rattle.vg_kernel_plans.proofs.law.load_groups_are_packs.Goals as goal

pub returns : goal.returns
returns c ssa register p h =
    let g = load-group ssa register p h in
    (g.units, g.pack, g.loads, g.short)
