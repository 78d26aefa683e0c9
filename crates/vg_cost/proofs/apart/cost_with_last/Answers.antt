use Rattle.std.proofs.Common.{◌∙◌, ◌+◌, ◌++◌, ◌∷◌, [], ap, length, map, subst, sym}
use Rattle.std.specs.List.{sum_by}
use Rattle.std.specs.Prelude.{false}
use Rattle.std.proofs.lemmas.List.{length-replicate}
use Rattle.vg_plans.specs.World.{operands, plan_cost}
use Rattle.vg_shapes.specs.Description.{description_of}
use Rattle.vg_shapes.specs.Pack.{units_of}
use Rattle.vg_shapes.specs.Units.{arguments}
use Rattle.vg_kernel_plans.specs.Packing.{packing, price_of}
use Rattle.vg_cost.specs.Lines.{Costs}
use Rattle.vg_cost.specs.Marks.{Has}
use Rattle.vg_cost.specs.PriceScratch.{IsScratchFor}
use Rattle.vg_cost.specs.Touch.{MarkUnits}
use Rattle.vg_cost.proofs.Counted.{costs-apart}
use Rattle.vg_cost.proofs.MarkTests.{marked_longer, own_count}
use Rattle.vg_cost.proofs.apart.cost_with_last.Goals as goal

pub operands_cost-requires : goal.operands_cost-requires
operands_cost-requires c =
    let ssa = c.args.ssa.now in
    let p = c.args.last.now in
    let packs = c.args.packs.now in
    let scratch : IsScratchFor ssa packs c.as_slice-before.result.now =
    subst (λ m. IsScratchFor ssa packs m) (sym (c.as_slice-before.ensures.value ∙ c.scratch.view_is)) c.in_ok-scratch.ensures
    in
    record {
      shuffles = c.requires.shuffles;
      marks = subst (MarkUnits (packs ++ p ∷ [])) (sym c.as_slice-marks.ensures.value)
          (own_count _ _ _ (marked_longer (arguments ssa + length ssa.units) packs p _ _ scratch c.enter.ensures.longer));
      own = subst (λ l. Has (length l) (units_of p) l) (sym c.as_slice-own.ensures.value) (own_count _ _ _ c.enter.ensures.own);
    }

pub whole_cost-requires : goal.whole_cost-requires
whole_cost-requires c =
    let ssa = c.args.ssa.now in
    let packs = c.args.packs.now in
    let scratch : IsScratchFor ssa packs c.as_slice-before.result.now =
    subst (λ m. IsScratchFor ssa packs m) (sym (c.as_slice-before.ensures.value ∙ c.scratch.view_is)) c.in_ok-scratch.ensures
    in
    let long = ap length c.as_slice-marks.ensures.value ∙ c.enter.ensures.longer.long ∙ scratch.long in
    record {
      marks = long;
      needed = c.in_ok-recipes.ensures.marks.long ∙ ap length (c.as_mut_slice-needed.ensures.value ∙ c.in_ok-needed.ensures)
          ∙ length-replicate (length c.as_slice-marks.result.now) false ∙ long;
    }

pub returns : goal.returns
returns c =
    let ds = map description_of c.args.descriptions.now in
    let matches = c.args.table.now in
    let ssa = c.args.ssa.now in
    let p = c.args.last.now in
    let packs = c.args.packs.now in
    let scratch : IsScratchFor ssa packs c.as_slice-before.result.now =
    subst (λ m. IsScratchFor ssa packs m) (sym (c.as_slice-before.ensures.value ∙ c.scratch.view_is)) c.in_ok-scratch.ensures
    in
    λ deps.
    costs-apart ds matches ssa deps (packs ++ p ∷ []) c.enter.new.self.longer.items c.as_mut_slice-needed.result.now
    c.operands_cost.new.needed c.in_ok-price.price c.in_ok-recipes.recipes c.in_ok-cost.cost (length c.as_slice-marks.result.now)
    c.as_slice-operands.result.now
    (ap length c.as_slice-marks.ensures.value ∙ c.enter.ensures.longer.long ∙ scratch.long)
    (marked_longer (arguments ssa + length ssa.units) packs p _ _ scratch c.enter.ensures.longer)
    (c.as_mut_slice-needed.ensures.value ∙ c.in_ok-needed.ensures)
    (c.as_slice-operands.ensures.value ∙ c.in_ok-operands.ensures ∙ ap (operands (packing ds matches ssa [])) c.requires.whole)
    c.in_ok-recipes.ensures.marks
    (c.in_ok-price.ensures ∙ ap (sum_by (price_of ds)) c.requires.whole)
    c.in_ok-recipes.ensures.cost
    (subst (λ l. Costs ssa l c.operands_cost.new.needed c.in_ok-price.price c.in_ok-recipes.recipes c.in_ok-cost.cost)
    c.as_slice-marks.ensures.value c.in_ok-cost.ensures)
    ∙ ap (plan_cost (packing ds matches ssa deps)) (sym c.requires.whole)
