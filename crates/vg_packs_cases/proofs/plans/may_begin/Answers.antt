use Rattle.std.proofs.Common.{◌∙◌, List, subst, sym}
use Rattle.vg_shapes.specs.declared.pack.Pack.{Pack}
use Rattle.vg_packs.specs.Walk.{IsFree}
use Rattle.vg_packs.proofs.Free.{free-first, kernel-earlier}
use Rattle.vg_packs_cases.proofs.plans.may_begin.Goals as goal

pub compatible-requires-clause-free : goal.compatible-requires-clause-free
compatible-requires-clause-free c =
    subst (λ (ps : List Pack). IsFree c.from_vec-table.result c.in_ok-ssa.ssa c.in_ok-deps.deps ps) (sym (c.from_vec-plan.ensures ∙ c.new-2.ensures.items))
    (free-first c.from_vec-table.result c.in_ok-ssa.ssa c.in_ok-deps.deps
    (kernel-earlier c.in_ok-ssa.ssa c.in_ok-deps.deps c.in_ok-deps.ensures.pairs).earlier)
