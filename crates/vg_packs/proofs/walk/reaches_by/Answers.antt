use Rattle.std.proofs.Common.{ℕ, Bool, ◌+◌, ◌<◌, ◌∙◌, length, refl, subst, sym}
use Rattle.vg_kernel_plans.specs.Packing.{needs_of}
use Rattle.vg_plans.specs.World.{is_in}
use Rattle.vg_shapes.specs.Pack.{units_of}
use Rattle.vg_shapes.specs.Units.{arguments}
use Rattle.vg_packs.specs.Marks.{AreMarks}
use Rattle.vg_packs.specs.Walk.{is_in_plan, node_needs}
use Rattle.vg_packs.proofs.Cycles.{unit-inside}
use Rattle.vg_packs.proofs.Floors.{settled-by}
use Rattle.vg_packs.proofs.Marking.{leads-own, marks-set, ways-own}
use Rattle.vg_packs.proofs.walk.reaches_by.Goals as goal

pub needs_reach-requires-clause-packed : goal.needs_reach-requires-clause-packed
needs_reach-requires-clause-packed c =
    subst (λ n. AreMarks n (is_in_plan c.args.plan.now) c.args.packed.now)
    (sym c.requires.long) c.requires.packed

pub needs_reach-requires-clause-units_inside : goal.needs_reach-requires-clause-units_inside
needs_reach-requires-clause-units_inside c = λ v u.
    subst (λ m. v < m) (sym c.requires.long) (unit-inside c.args.ssa.now v u)

pub needs_reach-requires-clause-settled : goal.needs_reach-requires-clause-settled
needs_reach-requires-clause-settled c =
    let n = arguments c.args.ssa.now + length c.args.ssa.now.units in
    let own : ℕ → Bool = λ v. is_in v (units_of c.args.pack.now) in
    settled-by (node_needs c.args.table.now c.args.ssa.now c.args.deps.now c.args.plan.now) own n c.mark_pack.new.marks c.args.marks.now
    (marks-set n own c.args.own.now c.mark_pack.new.marks c.requires.own c.mark_pack.ensures) c.requires.long c.requires.settled

pub returns-clause-way : goal.returns-clause-way
returns-clause-way c =
    let n = arguments c.args.ssa.now + length c.args.ssa.now.units in
    let own : ℕ → Bool = λ v. is_in v (units_of c.args.pack.now) in
    let needs = needs_of c.args.table.now c.args.ssa.now c.args.deps.now c.args.pack.now in
    ways-own (node_needs c.args.table.now c.args.ssa.now c.args.deps.now c.args.plan.now) own n c.mark_pack.new.marks
    (marks-set n own c.args.own.now c.mark_pack.new.marks c.requires.own c.mark_pack.ensures)
    c.needs_reach.result needs needs refl c.needs_reach.ensures.way

pub returns-clause-apart : goal.returns-clause-apart
returns-clause-apart c =
    let n = arguments c.args.ssa.now + length c.args.ssa.now.units in
    let own : ℕ → Bool = λ v. is_in v (units_of c.args.pack.now) in
    let needs = needs_of c.args.table.now c.args.ssa.now c.args.deps.now c.args.pack.now in
    leads-own (node_needs c.args.table.now c.args.ssa.now c.args.deps.now c.args.plan.now) own n c.mark_pack.new.marks
    (marks-set n own c.args.own.now c.mark_pack.new.marks c.requires.own c.mark_pack.ensures)
    c.needs_reach.result needs needs c.needs_reach.new.marks refl
    (c.needs_reach.auto.marks ∙ c.requires.long) c.needs_reach.ensures.apart
