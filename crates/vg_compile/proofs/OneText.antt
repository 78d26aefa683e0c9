-- What is told of the plan of a kernel is one text.
use Rattle.std.proofs.Common.{◌≡◌, ◌∙◌, ℕ, List, ◌++◌, map, sym, ap}
use Rattle.vg_kernel.specs.Tree.{Tree}
use Rattle.vg_program.specs.declared.param.Param.{Param}
use Rattle.vg_shapes.specs.declared.match_table.Match.{Match}
use Rattle.vg_shapes.specs.declared.pack.Pack.{Pack}
use Rattle.vg_shapes.specs.declared.ssa.Ssa.{Ssa}
use Rattle.vg_shapes.specs.Description.{Description}
use Rattle.vg_plan_text.specs.declared.costs.Costs.{Costs}
use Rattle.vg_plan_text.specs.PlanText.{plan_text}
use Rattle.vg_match.specs.Laws.{HaveSameValues}
use Rattle.vg_match.proofs.OneTable.{one-table}
use Rattle.vg_descriptions.specs.Descriptions.{descriptions}
use Rattle.vg_compile.specs.Chosen.{cost_of, plain_of_units}
use Rattle.vg_compile.specs.Means.{param_of}
use Rattle.vg_compile.specs.OnePlan.{OneTextIsExplained}
use Rattle.vg_compile.specs.Planned.{costs_told, PlainCosts, rewriting_line}
use Rattle.vg_compile.proofs.OnePlan.{in-order, whole-values}
use Rattle.vg_compile.proofs.OneList.{one-list, seen_as}

plain-same : (ds : List Description) (a b : Ssa) (matches : List Match) → HaveSameValues a b
    → cost_of ds matches a (plain_of_units ds matches a) ≡ cost_of ds matches b (plain_of_units ds matches b)
plain-same ds a b matches same =
    λ i. cost_of ds matches (seen_as a a.name (same.params i) (same.units i)) (plain_of_units ds matches (seen_as a a.name (same.params i) (same.units i)))

-- what the plain plan costs
plain-one : (ds : List Description) (k : Tree) (one other : ℕ) → PlainCosts ds k one → PlainCosts ds k other
    → one ≡ other
plain-one ds k one other x y =
    let same = whole-values k x.ssa y.ssa x.values y.values in
    let matches = one-table ds x.ssa y.ssa x.matches y.matches same (in-order ds x.ssa x.matches x.table) (in-order ds y.ssa y.matches y.table) in
    x.is
    ∙ plain-same ds x.ssa y.ssa x.matches same
    ∙ ap (λ (ms : List Match). cost_of ds ms y.ssa (plain_of_units ds ms y.ssa)) matches
    ∙ sym y.is

lines-same : (params : List Param) (ds : List Description) (a b : Ssa) (packs : List Pack) (costs : Costs)
    → HaveSameValues a b
    → plan_text params ds a packs costs ≡ plan_text params ds b packs costs
lines-same params ds a b packs costs same = λ i. plan_text params ds (seen_as a a.name (same.params i) (same.units i)) packs costs

pub one-text : OneTextIsExplained
one-text entries set k width more one other x y =
    let ds = descriptions set entries in
    let list = one-list ds k width more x.rewriting y.rewriting x.plan y.plan x.planned.chosen y.planned.chosen in
    let source = list.source in
    let cost : x.cost ≡ y.cost = x.planned.costs ∙ source.plan.price ∙ sym y.planned.costs in
    let plain : x.plain ≡ y.plain = plain-one ds k x.plain y.plain x.planned.plain_costs y.planned.plain_costs in
    x.lines
    ∙ (λ i. rewriting_line (list.same i) ++ plan_text (map param_of k.params) ds x.plan.ssa (source.plan.packs i) (costs_told k (cost i) (plain i)))
    ∙ ap (λ ts. rewriting_line y.rewriting ++ ts) (lines-same (map param_of k.params) ds x.plan.ssa y.plan.ssa y.plan.packs (costs_told k y.cost y.plain) source.values)
    ∙ sym y.lines
