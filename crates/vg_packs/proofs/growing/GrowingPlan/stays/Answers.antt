use Rattle.std.proofs.Common.{◌≡◌, ◌+◌, ◌<◌, ◌⊎◌, ◌∙◌, Bool, List, [], ap, arith, false, get_or, length, subst, sym}
use Rattle.vg_kernel_plans.specs.Packing.{packing}
use Rattle.vg_plans.specs.World.{is_in, stays_plan}
use Rattle.vg_shapes.specs.Pack.{units_of}
use Rattle.vg_shapes.specs.Units.{arguments}
use Rattle.vg_packs.specs.Floor.{IsFloor}
use Rattle.vg_packs.specs.Marks.{AreMarks}
use Rattle.vg_packs.specs.Walk.{IsFree, is_in_plan, node_needs}
use Rattle.vg_packs.proofs.Cycles.{stays-same}
use Rattle.vg_packs.proofs.Floors.{spans-floor, spans-inside}
use Rattle.vg_packs.proofs.Marking.{packed-any}
use Rattle.vg_packs.proofs.growing.GrowingPlan.stays.Goals as goal

pub reaches_itself-requires-clause-floor : goal.reaches_itself-requires-clause-floor
reaches_itself-requires-clause-floor c =
    let f = c.in_ok-floor.floor in
    let there =
    subst (λ (l : List Bool). (f ≡ 0) ⊎ ((f < length l) × (get_or l f false ≡ false))) c.as_slice.ensures.value c.in_ok-floor.ensures.there
    in
    subst (λ l. IsFloor (node_needs c.args.table.now c.args.ssa.now c.args.deps.now l) (λ v. is_in v (units_of c.args.pack.now)) f)
    (sym c.as_slice-packs.ensures.value)
    (spans-floor c.args.table.now c.args.ssa.now c.args.deps.now c.requires.earlier.earlier c.args.self.now.packs.items c.args.self.now.spanned.items
    f c.args.pack.now c.requires.grown.spans c.in_ok-floor.ensures.lowest there)

pub reaches_itself-requires-clause-inside : goal.reaches_itself-requires-clause-inside
reaches_itself-requires-clause-inside c =
    let f = c.in_ok-floor.floor in
    let there =
    subst (λ (l : List Bool). (f ≡ 0) ⊎ ((f < length l) × (get_or l f false ≡ false))) c.as_slice.ensures.value c.in_ok-floor.ensures.there
    in
    let few =
    spans-inside c.args.table.now c.args.ssa.now c.args.deps.now c.args.self.now.spanned.items f c.requires.grown.long
    there
    in
    omega (arith, few, c.requires.grown.packed.long, ap length c.as_slice-packed.ensures.value)

pub returns : goal.returns
returns c =
    let end = arguments c.args.ssa.now + length c.args.ssa.now.units in
    let plan = c.as_slice-packs.result.now in
    let same = c.as_slice-packs.ensures.value in
    let set =
    subst (λ l. AreMarks end (is_in_plan l) c.as_slice-packed.result.now) (sym same)
    (subst (AreMarks end (is_in_plan c.args.self.now.packs.items)) (sym c.as_slice-packed.ensures.value) c.requires.grown.packed)
    in
    stays-same c.args.table.now c.args.ssa.now c.args.deps.now c.requires.earlier.units plan c.args.pack.now c.overlaps-overlap.result c.in_ok-reached.reached
    (subst (IsFree c.args.table.now c.args.ssa.now c.args.deps.now) (sym same) c.requires.grown.free)
    (c.overlaps-overlap.ensures ∙ packed-any end plan c.as_slice-packed.result.now set (units_of c.args.pack.now))
    c.if-overlap.false c.in_ok-reached.ensures.way c.in_ok-reached.ensures.apart
    ∙ ap (λ l. stays_plan (packing [] c.args.table.now c.args.ssa.now c.args.deps.now) l c.args.pack.now) same
