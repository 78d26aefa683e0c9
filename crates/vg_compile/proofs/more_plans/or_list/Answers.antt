use Rattle.vg_compile.proofs.more_plans.or_list.Goals as goal

pub returns : goal.returns
returns c = (c.in_ok-list.list.values, c.in_ok-list.list.plain, c.in_ok-list.ensures, c.cheaper.ensures)
