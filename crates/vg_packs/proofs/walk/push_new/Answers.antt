use Rattle.std.proofs.Common.{◌<◌, ◌∙◌, ap, arith, length, get_or}
use Rattle.vg_packs.proofs.Pushes.{pushed-new, pushed-old}
use Rattle.vg_packs.proofs.walk.push_new.Goals as goal
use Rattle.vg_packs.proofs.walk.push_new.Goals.{then-not-marked+in_ok-push, else-not-marked}

pub units-preserved : goal.units-preserved
units-preserved c =
    let h = c.requires c.units.x-index 0 c.units-test.true in
    let inside : get_or c.args.list.now c.units.x-index 0 < length c.units.marks =
    omega (arith, h, c.units.invariant.long)
    in
    elim c.if-not-marked.branch [
      | then-not-marked+in_ok-push w ↦
          pushed-new c.args.list.now c.units.x-index _ _ c.units.marks _ c.units.stack.items _ c.units.invariant
          c.units-test.true inside w.if-not-marked.true w.marks-is (ap (λ v. v.items) w.stack-is ∙ w.in_ok-push.ensures.items)
      | else-not-marked w ↦
          pushed-old c.args.list.now c.units.x-index _ _ c.units.marks _ c.units.stack.items _ c.units.invariant
          c.units-test.true w.if-not-marked.false w.marks-is (ap (λ v. v.items) w.stack-is)
    ]
