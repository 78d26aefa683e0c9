use Rattle.std.proofs.Common.{◌≡◌, inl, inr, ℕ, get_or, sym, ap, ◌∙◌, arith, subst}
use Rattle.std.proofs.lemmas.Bool.{cases_lt}
use Rattle.vg_script.specs.Views.{whole_of}
use Rattle.vg_pmean.specs.Applied.{IsReady}
use Rattle.vg_pmean.proofs.Entering.{ready_first, ready_second}
use Rattle.vg_pmean.proofs.Ready.{found, within}
use Rattle.vg_pmean.proofs.apply.room_of.Goals as goal

pub instances-preserved : goal.instances-preserved
instances-preserved c = λ k i below is.
    let here = c.instance-item.result in
    let old = c.instances.room in
    subst (λ r. IsReady r (whole_of i)) (sym c.either-room.ensures)
    (elim (cases_lt k c.instances.instance-index) [
      | inl before ↦ ready_first old here.room (whole_of i) (c.instances.invariant k i before is)
      | inr last ↦
          let at : k ≡ c.instances.instance-index = omega arith in
          let same : i ≡ here.whole =
          found c.args.instances.now k here i (omega (arith, c.instances-test.true)) is
          ∙ ap (λ (n : ℕ). (get_or c.args.instances.now n here).whole) at
          ∙ ap (λ j. j.whole) (sym c.instance-item.is) in
          ready_second old here.room (whole_of i) (subst (λ w. IsReady here.room (whole_of w)) (sym same) here.ready)
    ])

pub returns : goal.returns
returns c = λ k i is.
    c.instances.invariant k i (omega (arith, c.instances-test.false, within c.args.instances.now k i is)) is
