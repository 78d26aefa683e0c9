use Rattle.std.proofs.Common.{◌≡◌, ◌++◌, ◌∷◌, [], ℕ, List, Option, ap, subst, sym, ◌∙◌}
use Rattle.std.specs.Prelude.{slice_index}
use Rattle.vg_order.specs.Needs.{flag_at}
use Rattle.vg_order.specs.Paths.{home_at, IsReady, Visits}
use Rattle.vg_order.proofs.NextNumbers.{unit-next}
use Rattle.vg_order.proofs.scheduling.place.Goals as goal

pub returns-in-None-clause-next : goal.returns-in-None-clause-next
returns-in-None-clause-next c =
    let deps = c.args.deps.now in
    let g = c.args.graph.now in
    let before = c.args.progress.now in
    let placed = before.placed.items in
    let node : c.home_of-node.result ≡ home_at g c.args.unit = c.home_of-node.ensures ∙ ap (λ (l : List ℕ). slice_index l c.args.unit) c.as_slice.ensures in
    let visits = subst (λ (o : Option ℕ). Visits deps g before c.visit.new.progress c.home_of-node.result o) c.in-None.is c.in_ok-visit.ensures.visits in
    unit-next deps g before c.args.unit c.visit.new.progress.order.items c.requires.valid c.requires.unit c.requires.below
    (sym (c.flag_at.ensures ∙ ap (λ l. flag_at l c.home_of-node.result) c.as_slice-2.ensures.value ∙ ap (flag_at placed) node) ∙ c.if-flag_at.false)
    (subst (IsReady deps g placed) node visits.2) c.requires.next
    (visits.0 ∙ ap (λ n. before.order.items ++ n ∷ []) node)
