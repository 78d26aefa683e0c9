use Rattle.std.proofs.Common.{ℕ, Bool, ◌<◌, All, ◌∙◌, false, get_or, sym, subst, ap, length, refl}
use Rattle.std.specs.List.{list_any}
use Rattle.vg_packs.specs.Walk.{Pushed, node_needs}
use Rattle.vg_packs.proofs.Cycles.{all-from}
use Rattle.vg_packs.proofs.NodeUnits.{node-is, node-units}
use Rattle.vg_packs.proofs.Pushes.{Searches, begins, finds, finds-need, goes-on, inside-here}
use Rattle.vg_packs.proofs.walk.walk_down.Goals as goal

pub units-init : goal.units-init
units-init c =
    let p = subst (λ s. Pushed c.args.starts.now c.args.marks.now s c.push_new.new.marks c.push_new.new.stack.items) c.new-stack.ensures.items c.in_ok-push_new.ensures in
    begins (node_needs c.args.table.now c.args.ssa.now c.args.deps.now c.args.plan.now) (λ v. get_or c.args.own.now v false)
    (length c.args.marks.now) c.args.starts.now c.args.marks.now c.push_new.new.marks c.push_new.new.stack.items
    refl c.requires.settled c.requires.starts_inside p

pub units-preserved : goal.units-preserved
units-preserved c =
    let ns = node_needs c.args.table.now c.args.ssa.now c.args.deps.now c.args.plan.now in
    let own : ℕ → Bool = λ x. get_or c.args.own.now x false in
    let n = length c.args.marks.now in
    let v = c.in-Some.v in
    let s = subst (Searches ns own n c.args.marks.now c.args.starts.now c.units.marks) c.in-Some.ensures.items c.units.invariant in
    let there = c.is_marked-there.ensures ∙ c.requires.packed.at v (inside-here ns own n c.args.marks.now c.args.starts.now c.units.marks c.pop.new.self.items v s) in
    let needs = node-is c.args.table.now c.args.ssa.now c.args.deps.now c.args.plan.now v c.is_marked-there.result
    c.as_slice.result.now c.node_needs-needs.result.now there
    (c.as_slice.ensures.value ∙ c.in_ok-of_packs.ensures) c.node_needs-needs.ensures
    in
    let p = subst (λ l. Pushed l c.units.marks c.pop.new.self.items c.push_new-in-Some.new.marks c.push_new-in-Some.new.stack.items)
    needs c.in_ok-push_new-2.ensures
    in
    goes-on ns own n c.args.marks.now c.args.starts.now c.units.marks c.push_new-in-Some.new.marks
    c.pop.new.self.items c.push_new-in-Some.new.stack.items v s (sym c.is_marked-found.ensures ∙ c.if-found.false)
    (all-from n (ns v) (λ x h. c.requires.units_inside x (node-units c.args.table.now c.args.ssa.now c.args.deps.now c.requires.names c.args.plan.now v x h)))
    p

pub returns-then-found-clause-way : goal.returns-then-found-clause-way
returns-then-found-clause-way c = λ t.
    let ns = node_needs c.args.table.now c.args.ssa.now c.args.deps.now c.args.plan.now in
    let n = length c.args.marks.now in
    let s = subst (Searches ns (λ v. get_or c.args.own.now v false) n c.args.marks.now c.args.starts.now c.units.marks) c.in-Some.ensures.items c.units.invariant in
    finds ns (λ v. get_or c.args.own.now v false) n c.args.marks.now c.args.starts.now c.units.marks c.pop.new.self.items c.in-Some.v s
    (sym c.is_marked-found.ensures ∙ c.if-found.true)

pub returns-then-met-clause-way : goal.returns-then-met-clause-way
returns-then-met-clause-way c = λ t.
    let ns = node_needs c.args.table.now c.args.ssa.now c.args.deps.now c.args.plan.now in
    let own : ℕ → Bool = λ x. get_or c.args.own.now x false in
    let n = length c.args.marks.now in
    let v = c.in-Some.v in
    let s = subst (Searches ns own n c.args.marks.now c.args.starts.now c.units.marks) c.in-Some.ensures.items c.units.invariant in
    let there = c.is_marked-there.ensures ∙ c.requires.packed.at v (inside-here ns own n c.args.marks.now c.args.starts.now c.units.marks c.pop.new.self.items v s) in
    let needs = node-is c.args.table.now c.args.ssa.now c.args.deps.now c.args.plan.now v c.is_marked-there.result
    c.as_slice.result.now c.node_needs-needs.result.now there
    (c.as_slice.ensures.value ∙ c.in_ok-of_packs.ensures) c.node_needs-needs.ensures
    in
    finds-need ns own n c.args.marks.now c.args.starts.now c.units.marks c.pop.new.self.items v s
    (ap (list_any own) (sym needs) ∙ sym c.some_marked-met.ensures ∙ c.if-met.true)

pub push_new-requires-in-Some : goal.push_new-requires-in-Some
push_new-requires-in-Some c =
    let ns = node_needs c.args.table.now c.args.ssa.now c.args.deps.now c.args.plan.now in
    let own : ℕ → Bool = λ x. get_or c.args.own.now x false in
    let n = length c.args.marks.now in
    let v = c.in-Some.v in
    let s = subst (Searches ns own n c.args.marks.now c.args.starts.now c.units.marks) c.in-Some.ensures.items c.units.invariant in
    let there = c.is_marked-there.ensures ∙ c.requires.packed.at v (inside-here ns own n c.args.marks.now c.args.starts.now c.units.marks c.pop.new.self.items v s) in
    let needs = node-is c.args.table.now c.args.ssa.now c.args.deps.now c.args.plan.now v c.is_marked-there.result
    c.as_slice.result.now c.node_needs-needs.result.now there
    (c.as_slice.ensures.value ∙ c.in_ok-of_packs.ensures) c.node_needs-needs.ensures
    in
    subst (λ l. All (λ x. x < length c.units.marks) l) (sym needs)
    (all-from (length c.units.marks) (ns v) (λ x h.
    subst (λ m. x < m) (sym c.units.invariant.long)
    (c.requires.units_inside x (node-units c.args.table.now c.args.ssa.now c.args.deps.now c.requires.names c.args.plan.now v x h))))
