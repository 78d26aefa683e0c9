use Rattle.std.proofs.Common.{◌∙◌, ◌++◌, ◌∷◌, [], ap, length, map, subst, sym}
use Rattle.std.specs.List.{flat_map}
use Rattle.vg_shapes.specs.Description.{description_of}
use Rattle.vg_shapes.specs.Pack.{units_of}
use Rattle.vg_cost.specs.Marks.{Has}
use Rattle.vg_cost.specs.Needs.{AreNeedsFor}
use Rattle.vg_cost.specs.PriceScratch.{IsScratchFor}
use Rattle.vg_cost.specs.Running.{taken_by}
use Rattle.vg_cost.specs.Taken.{inserted_for}
use Rattle.vg_cost.specs.Touch.{MarkUnits}
use Rattle.vg_cost.specs.TriedMarks.{AreMarksFor}
use Rattle.vg_cost.proofs.Growing.{stands-longer}
use Rattle.vg_cost.proofs.MarkTests.{own_count}
use Rattle.vg_cost.proofs.running.Running.with.Goals as goal

pub cost_tried-requires : goal.cost_tried-requires
cost_tried-requires c =
    let ssa = c.args.ssa.now in
    let plan = c.args.self.now.packs.items in
    let scratch : IsScratchFor ssa plan c.as_slice-before.result.now =
    subst (λ m. IsScratchFor ssa plan m) (sym (c.as_slice-before.ensures.value ∙ c.scratch.view_is))
    (subst (λ l. IsScratchFor ssa l c.in_ok-scratch.scratch) c.as_slice-plan.ensures.value c.in_ok-scratch.ensures)
    in
    record {
      near = c.requires.near;
      short = c.requires.short;
      marks = scratch;
      tried = subst (λ n. AreMarksFor n c.scratch.inside.tried) (ap length (sym c.as_slice-before.ensures.value) ∙ scratch.long) c.scratch.invariant;
      stands = c.requires.stands;
      operands = c.as_slice-operands.ensures.value ∙ c.in_ok-operands.ensures;
      plan = c.requires.plan;
    }

pub taken_with-requires : goal.taken_with-requires
taken_with-requires c =
    let p = c.args.pack.now in
    let plan = c.args.self.now.packs.items in
    record {
      operands = c.as_slice-operands.ensures.value ∙ c.in_ok-operands.ensures;
      stands = c.requires.stands;
      packs = c.as_slice-plan.ensures.value;
      plan = record {
        shuffles = c.requires.stands.shuffles;
        marks = subst (λ q. MarkUnits (q ++ p ∷ []) c.as_slice-marks.result.now) (sym c.as_slice-plan.ensures.value)
            (subst (MarkUnits (plan ++ p ∷ [])) (sym c.as_slice-marks.ensures.value) (own_count _ _ _ c.in_ok-found.ensures.longer));
        own = subst (λ l. Has (length l) (units_of p) l) (sym c.as_slice-own.ensures.value) c.in_ok-found.ensures.own;
      };
    }

pub returns-clause-stands : goal.returns-clause-stands
returns-clause-stands c =
    let ds = map description_of c.args.descriptions.now in
    let matches = c.args.table.now in
    let ssa = c.args.ssa.now in
    let p = c.args.pack.now in
    let plan = c.args.self.now.packs.items in
    let come = flat_map inserted_for (taken_by ds matches ssa (plan ++ p ∷ [])) in
    stands-longer ds matches ssa c.args.self.now p
    record {
      packs = c.in_ok-longer.field-0;
      taken = c.in_ok-taken.taken;
      shuffles = c.in_ok-copy.field-0;
      needs = record { counts = c.in_ok-counts.counts; lines = c.in_ok-found.found.lines };
      price = c.in_ok-found.found.price;
      cost = c.in_ok-found.found.cost;
    }
    c.requires.stands c.requires.short c.in_ok-copy.ensures.numbers c.in_ok-copy.ensures.tight
    (c.in_ok-longer.ensures ∙ ap (λ l. l ++ p ∷ []) c.as_slice-plan.ensures.value)
    (c.in_ok-taken.ensures ∙ ap (λ q. taken_by ds matches ssa (q ++ p ∷ [])) c.as_slice-plan.ensures.value)
    c.in_ok-found.ensures.price c.in_ok-found.ensures.cost
    (subst (λ l. AreNeedsFor ssa (plan ++ p ∷ []) come l c.in_ok-found.found.lines)
    (sym (c.in_ok-counts.ensures ∙ c.as_slice.ensures.value)) c.in_ok-found.ensures.needs)
