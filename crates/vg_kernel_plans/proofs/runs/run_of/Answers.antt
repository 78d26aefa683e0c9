use Rattle.std.specs.Int.{w64}
use Rattle.std.specs.Prelude.{pos, ◌+ℤ◌}
use Rattle.std.proofs.Common.{◌≡◌, of_z, rules, to_z}
use Rattle.vg_base.specs.Width.{size_of}
use Rattle.vg_kernel_plans.specs.LoadGroups.{run_of as whole_run}
use Rattle.vg_kernel_plans.proofs.Parts.{run-goes}
use Rattle.vg_kernel_plans.proofs.runs.run_of.Goals as goal

pub places-preserved : goal.places-preserved
places-preserved c =
    let next = to_z w64 (of_z w64 (to_z w64 (of_z w64 c.from.result) +ℤ to_z w64 (of_z w64 c.from-step.result))) in
    let behind : next ≡ c.in-Some.load.address.offset +ℤ pos (size_of c.args.first.now.width) = search rules in
    run-goes c.args.loads.now c.args.first.now.address.pointer (to_z w64 c.places.offset-bits) next c.args.first.now.width c.places.left c.in-Some.load c.find_load.result
    c.places.units.items c.push.new.self.items (whole_run c.args.loads.now c.args.first.now) c.places-test.true c.find_load.ensures c.in-Some.is
    c.in_ok-push-in-Some.ensures.items behind c.places.invariant
