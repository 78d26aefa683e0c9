use Rattle.std.proofs.Common.{◌≡◌, ◌+◌, ◌∙◌, ap, arith, length, refl, sym}
use Rattle.vg_plans.specs.Levels.{distinct_onto}
use Rattle.vg_kernel_plans.specs.LoadGroups.{placed_load, same_place}
use Rattle.vg_kernel_plans.proofs.FirstLoads.{loads-more, loads-whole, loads_among}
use Rattle.vg_kernel_plans.proofs.first_loads.first_loads.Goals as goal

pub units-preserved : goal.units-preserved
units-preserved c =
    let number = c.arguments-first.result + c.units.index in
    loads-more c.args.ssa.now c.arguments-first.result c.units.index number c.units.loads.items c.push_load.new.loads.items
    refl c.units.invariant
    (c.in_ok-push_load.ensures ∙ ap (λ u. distinct_onto same_place c.units.loads.items (placed_load number u)) c.unit_at.ensures)

pub returns : goal.returns
returns c =
    let e : c.units.index ≡ length c.as_slice-count.result.now = omega (arith, c.units-test.false, c.units.auto.index-end) in
    loads-whole c.args.ssa.now c.units.index c.units.loads.items (sym (e ∙ ap length c.as_slice-count.ensures))
    (c.units.invariant ∙ ap (λ f. loads_among c.args.ssa.now f c.units.index) c.arguments-first.ensures)
