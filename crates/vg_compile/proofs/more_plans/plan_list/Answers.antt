use Rattle.std.proofs.Common.{◌∙◌, ap, map, refl, subst, sym}
use Rattle.vg_shapes.specs.Description.{description_of}
use Rattle.vg_shapes.specs.Depends.{dependences}
use Rattle.vg_shapes.specs.Sound.{IsSound}
use Rattle.vg_compile.specs.Chosen.{IsTableOf}
use Rattle.vg_compile.specs.Listed.{AreUncut}
use Rattle.vg_compile.proofs.More.{list-is, valued}
use Rattle.vg_compile.proofs.more_plans.plan_list.Goals as goal

pub plan_fed-requires-clause-sound : goal.plan_fed-requires-clause-sound
plan_fed-requires-clause-sound c = subst IsSound (sym c.in_ok-wide.ensures.ssa) c.requires.sound

pub plan_fed-requires-clause-table : goal.plan_fed-requires-clause-table
plan_fed-requires-clause-table c =
    let ds = map description_of c.args.descriptions.now in
    subst (λ s. IsTableOf ds s c.in_ok-wide.wide.planned.chosen.table) (sym c.in_ok-wide.ensures.ssa) c.in_ok-wide.ensures.planned.chosen.table

pub plan_fed-requires-clause-deps : goal.plan_fed-requires-clause-deps
plan_fed-requires-clause-deps c = c.in_ok-wide.ensures.deps ∙ ap dependences (sym c.in_ok-wide.ensures.ssa)

pub returns : goal.returns
returns c =
    let ds = map description_of c.args.descriptions.now in
    let uncut = c.in_ok-whole_values.ensures in
    list-is ds c.args.width c.args.values c.in_ok-whole.whole c.in_ok-wide.wide c.in_ok-fed.fed
    (subst (AreUncut c.args.values) (sym c.in_ok-whole.ensures.ssa) uncut.uncut) c.in_ok-wide.ensures.ssa
    (valued ds c.args.width c.in_ok-whole_values.whole_values c.in_ok-whole.whole uncut.sound
    c.in_ok-whole.ensures.ssa c.in_ok-whole.ensures.planned c.in_ok-whole.ensures.deps)
    (valued ds c.args.width c.args.values c.in_ok-wide.wide c.requires.sound
    c.in_ok-wide.ensures.ssa c.in_ok-wide.ensures.planned c.in_ok-wide.ensures.deps)
    (record { chosen = c.in_ok-fed.ensures.chosen; cost = c.in_ok-fed.ensures.cost })
    c.cheapest-values.result c.cheapest-values.ensures
