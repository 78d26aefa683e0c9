-- There is one program that is compiled.
use Rattle.std.proofs.Common.{◌≡◌, ◌∙◌, ℕ, ◌≤◌, Bool, true, false, List, [], sym, ap, subst, arith}
use Rattle.std.specs.List.Sorted.{IsPermutation}
use Rattle.vg_catalog.specs.Entries.{Entry}
use Rattle.vg_kernel.specs.Cost.{scalar_cost}
use Rattle.vg_kernel.specs.Tree.{Tree}
use Rattle.vg_program.specs.declared.program.Program.{Program}
use Rattle.vg_program.specs.Cost as programs
use Rattle.vg_shapes.specs.declared.match_table.Match.{Match}
use Rattle.vg_shapes.specs.declared.order.Node.{Node}
use Rattle.vg_shapes.specs.declared.pack.Pack.{Pack}
use Rattle.vg_shapes.specs.declared.ssa.Ssa.{Ssa}
use Rattle.vg_shapes.specs.Depends.{dependences}
use Rattle.vg_shapes.specs.Description.{Description}
use Rattle.vg_shapes.specs.Nodes.{nodes}
use Rattle.vg_order.specs.Scheduled.{EachIsNext, IsScheduled}
use Rattle.vg_order.proofs.OneOrder.{one-order}
use Rattle.vg_gather.specs.Recipes.{planned_program}
use Rattle.vg_match.specs.Laws.{HaveSameValues}
use Rattle.vg_descriptions.specs.Descriptions.{descriptions}
use Rattle.vg_compile.specs.Chosen.{AreWhole, cheaper, IsChosenMore, KernelPlan, price_of}
use Rattle.vg_compile.specs.Compiled.{IsCompiled}
use Rattle.vg_compile.specs.Emitted.{IsEmitted, with_scalar}
use Rattle.vg_compile.specs.OnePlan.{CompileMoreCostsNoMore, OneProgramIsCompiled}
use Rattle.vg_compile.proofs.More.{cheaper-below, more-below}
use Rattle.vg_compile.proofs.OneList.{AreOneSource, one-list, seen_as}
use Rattle.vg_compile.proofs.OnePlan.{one-over, whole-values}

-- ---- the name, the parameters and the units of values are all that an order and a program see

once-same : (a b : Ssa) (packs : List Pack) (order : List Node) → HaveSameValues a b
    → IsPermutation (nodes a packs) order → IsPermutation (nodes b packs) order
once-same a b packs order same once =
    subst (λ us. IsPermutation (nodes (seen_as a a.name b.params us) packs) order) same.units
    (subst (λ ps. IsPermutation (nodes (seen_as a a.name ps a.units) packs) order) same.params once)

next-same : (a b : Ssa) (matches : List Match) (packs : List Pack) (order : List Node) → HaveSameValues a b
    → EachIsNext (dependences a) a matches packs [] order → EachIsNext (dependences b) b matches packs [] order
next-same a b matches packs order same next =
    subst (λ us. EachIsNext (dependences (seen_as a a.name b.params us)) (seen_as a a.name b.params us) matches packs [] order) same.units
    (subst (λ ps. EachIsNext (dependences (seen_as a a.name ps a.units)) (seen_as a a.name ps a.units) matches packs [] order) same.params next)

scheduled-same : (a b : Ssa) (matches : List Match) (packs : List Pack) (order : List Node) → HaveSameValues a b
    → IsScheduled (dependences a) a matches packs order → IsScheduled (dependences b) b matches packs order
scheduled-same a b matches packs order same is =
    record { once = once-same a b packs order same is.once; next = next-same a b matches packs order same is.next }

program-same : (ds : List Description) (a b : Ssa) (matches : List Match) (packs : List Pack) (order : List Node)
    → a.name ≡ b.name → HaveSameValues a b
    → planned_program ds matches a packs order ≡ planned_program ds matches b packs order
program-same ds a b matches packs order name same =
    λ i. planned_program ds matches (seen_as a (name i) (same.params i) (same.units i)) packs order

-- ---- one program

emitted-one : (ds : List Description) (a b : KernelPlan) (p q : Program) → AreOneSource ds a b
    → IsEmitted ds a.matches a.ssa a.packs p → IsEmitted ds b.matches b.ssa b.packs q → p ≡ q
emitted-one ds a b p q one (order, legal, put, e) (other, legal_too, put_too, f) =
    let packed : IsScheduled (dependences a.ssa) a.ssa b.matches b.packs order =
    subst (λ ps. IsScheduled (dependences a.ssa) a.ssa b.matches ps order) one.plan.packs (subst (λ ms. IsScheduled (dependences a.ssa) a.ssa ms a.packs order) one.plan.matches put) in
    let there : IsScheduled (dependences b.ssa) b.ssa b.matches b.packs order = scheduled-same a.ssa b.ssa b.matches b.packs order one.values packed in
    let same : order ≡ other = one-order (dependences b.ssa) b.ssa b.matches b.packs order other there put_too in
    e
    ∙ (λ i. planned_program ds (one.plan.matches i) a.ssa (one.plan.packs i) (same i))
    ∙ program-same ds a.ssa b.ssa b.matches b.packs other one.name one.values
    ∙ sym f

pub one-program : OneProgramIsCompiled
one-program entries set k width more p q x y =
    let ds = descriptions set entries in
    let source = (one-list ds k width more x.rewriting y.rewriting x.plan y.plan x.chosen y.chosen).source in
    x.program.is
    ∙ ap (with_scalar (scalar_cost k)) (emitted-one ds x.plan y.plan x.program.program y.program.program source x.program.emitted y.program.emitted)
    ∙ sym y.program.is

-- ---- what is compiled costs

pub compile-more-costs-no-more : CompileMoreCostsNoMore
compile-more-costs-no-more = record { same = same; no_more = no_more }
  where
    same : (entries : List Entry) (set : ℕ) (k : Tree) (width : ℕ) (more : Bool) (p q : Program)
        → IsCompiled entries set k width more p → IsCompiled entries set k width more q
        → programs.cost_of p ≡ programs.cost_of q
    same entries set k width more p q x y = ap programs.cost_of (one-program entries set k width more p q x y)

    no_more : (entries : List Entry) (set : ℕ) (k : Tree) (width : ℕ) (p q : Program)
        → IsCompiled entries set k width true p → IsCompiled entries set k width false q
        → programs.cost_of p ≤ programs.cost_of q
    no_more entries set k width p q x y =
        let ds = descriptions set entries in
        let more : IsChosenMore ds k width x.rewriting x.plan = x.chosen in
        let own = more.own_chosen in
        let plan = one-over AreWhole ds k width own.whole y.plan (whole-values k) own.whole_chosen y.chosen.1 in
        let two = (cheaper-below ds own.whole own.wide).0 in
        let three = (cheaper-below ds (cheaper ds own.whole own.wide) own.fed).0 in
        let first = more-below ds k width x.rewriting x.plan more in
        let is = ap (price_of ds) own.is in
        omega (arith, x.program.cost, first, is, three, two, plan.price, y.program.cost)
