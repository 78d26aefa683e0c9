use Rattle.std.proofs.Common.{sym}
use Rattle.vg_cost_cases.proofs.Grown.{free-none, plan-none}
use Rattle.vg_cost_cases.proofs.running.costs_of.Goals as goal

pub grown-requires-clause-free : goal.grown-requires-clause-free
grown-requires-clause-free c =
    free-none c.from_vec-table.result c.args.ssa.now c.no_deps-deps.result c.in_ok-empty.empty.packs.items c.no_deps-deps.ensures
    (sym c.in_ok-empty.ensures.packs)

pub grown-requires-clause-plan : goal.grown-requires-clause-plan
grown-requires-clause-plan c =
    plan-none c.from_vec-table.result c.args.ssa.now c.no_deps-deps.result c.in_ok-empty.empty.packs.items (sym c.in_ok-empty.ensures.packs)
