use Rattle.std.proofs.Common.{◌≡◌, ◌++◌, ◌∷◌, [], ℕ, List, true, false, length, Option, ap, subst, sym, ◌∙◌}
use Rattle.std.specs.Prelude.{slice_index, slice_set}
use Rattle.std.specs.List.{AllByRecursion}
use Rattle.vg_shapes.specs.Order.{Stands}
use Rattle.vg_order.specs.Needs.{ComesFirst, flag_at}
use Rattle.vg_order.specs.Paths.{home_at, IsClosing, IsInside, IsReady, needs_at, Visits}
use Rattle.vg_order.proofs.NextNumbers.{path-next}
use Rattle.vg_order.proofs.Walks.{all-drop, closes-once, closes-path, steps-back, steps-up, top-waits}
use Rattle.vg_order.proofs.paths.step.Goals as goal

pub visit-requires-clause-waits : goal.visit-requires-clause-waits
visit-requires-clause-waits c =
    let g = c.args.graph.now in
    let placed = c.args.progress.now.placed.items in
    ap (flag_at placed) (c.home_of-node.ensures ∙ ap (λ (l : List ℕ). slice_index l c.args.top) c.as_slice-homes.ensures)
    ∙ top-waits (needs_at c.args.deps.now g) g.homes (length g.needs) placed c.args.path.now.units.items c.args.path.now.on.items c.args.top c.requires.on_path.0

pub returns-in-None-clause-steps : goal.returns-in-None-clause-steps
returns-in-None-clause-steps c =
    let deps = c.args.deps.now in
    let g = c.args.graph.now in
    let before = c.args.progress.now in
    let was = c.args.path.now in
    let node : c.home_of-node.result ≡ home_at g c.args.top = c.home_of-node.ensures ∙ ap (λ (l : List ℕ). slice_index l c.args.top) c.as_slice-homes.ensures in
    let visits = subst (λ (o : Option ℕ). Visits deps g before c.visit.new.progress c.home_of-node.result o) c.in-None.is c.in_ok-next.ensures.visits in
    steps-back deps g before c.visit.new.progress was c.go_back.new.self c.args.top c.go_back.result c.requires.on_path c.requires.valid.0.long
    (visits.1 ∙ ap (λ n. slice_set before.placed.items n true) node)
    (c.go_back.ensures.on ∙ ap (λ n. slice_set was.on.items n false) node) c.go_back.ensures.units

pub returns-then-flag_at-clause-cycle : goal.returns-then-flag_at-clause-cycle
returns-then-flag_at-clause-cycle c =
    let deps = c.args.deps.now in
    let g = c.args.graph.now in
    let before = c.args.progress.now in
    let was = c.args.path.now in
    let next = c.in-Some.next in
    let above = c.home_of-above.result in
    let node : c.home_of-node.result ≡ home_at g c.args.top = c.home_of-node.ensures ∙ ap (λ (l : List ℕ). slice_index l c.args.top) c.as_slice-homes.ensures in
    let visits = subst (λ (o : Option ℕ). Visits deps g before c.visit.new.progress c.home_of-node.result o) c.in-Some.is c.in_ok-next.ensures.visits in (
      closes-path (needs_at deps g) g.homes (length g.needs) before.placed.items was.units.items was.on.items c.args.top next above c.in_ok-units.units.items c.requires.on_path.0
          (subst (λ n. Stands next (needs_at deps g n)) node visits.2)
          (sym (c.home_of-above.ensures ∙ ap (λ (l : List ℕ). slice_index l next) c.as_slice-homes.ensures))
          (sym (c.flag_at.ensures ∙ ap (λ l. flag_at l above) c.as_slice.ensures.value) ∙ c.if-flag_at.true)
          (subst (λ (l : List ℕ). IsClosing l was.units.items c.args.top above c.in_ok-units.units.items) c.as_slice-homes.ensures c.in_ok-units.ensures),
      (let closing = c.in_ok-units.ensures in
          subst (AllByRecursion (IsInside g)) (sym closing.1) (all-drop (IsInside g) closing.0 (was.units.items ++ c.args.top ∷ []) c.requires.on_path.1)),
      closes-once (needs_at deps g) g.homes (length g.needs) before.placed.items was.units.items was.on.items c.args.top above c.in_ok-units.units.items c.requires.on_path.0
          (subst (λ (l : List ℕ). IsClosing l was.units.items c.args.top above c.in_ok-units.units.items) c.as_slice-homes.ensures c.in_ok-units.ensures),
    )

pub returns-clause-steps : goal.returns-clause-steps
returns-clause-steps c =
    let deps = c.args.deps.now in
    let g = c.args.graph.now in
    let before = c.args.progress.now in
    let was = c.args.path.now in
    let next = c.in-Some.next in
    let above = c.home_of-above.result in
    let node : c.home_of-node.result ≡ home_at g c.args.top = c.home_of-node.ensures ∙ ap (λ (l : List ℕ). slice_index l c.args.top) c.as_slice-homes.ensures in
    let up : above ≡ home_at g next = c.home_of-above.ensures ∙ ap (λ (l : List ℕ). slice_index l next) c.as_slice-homes.ensures in
    let visits = subst (λ (o : Option ℕ). Visits deps g before c.visit.new.progress c.home_of-node.result o) c.in-Some.is c.in_ok-next.ensures.visits in
    let stands : Stands next (needs_at deps g (home_at g c.args.top)) = subst (λ n. Stands next (needs_at deps g n)) node visits.2 in
    let inside = c.requires.graph.units (home_at g c.args.top) next stands in
    let off : flag_at was.on.items above ≡ false = sym (c.flag_at.ensures ∙ ap (λ l. flag_at l above) c.as_slice.ensures.value) ∙ c.if-flag_at.false in
    steps-up deps g before c.visit.new.progress was c.go_up.new.self c.args.top next c.requires.on_path
    (c.requires.graph.homes next inside) stands (ap (flag_at was.on.items) (sym up) ∙ off) visits.3
    (subst (λ n. ComesFirst g.homes before.placed.items (needs_at deps g n) next) node visits.4) visits.1
    c.in_ok-go_up.ensures.units (c.in_ok-go_up.ensures.on ∙ ap (λ n. slice_set was.on.items n true) up) inside

pub returns-in-None-clause-next : goal.returns-in-None-clause-next
returns-in-None-clause-next c =
    let deps = c.args.deps.now in
    let g = c.args.graph.now in
    let before = c.args.progress.now in
    let node : c.home_of-node.result ≡ home_at g c.args.top = c.home_of-node.ensures ∙ ap (λ (l : List ℕ). slice_index l c.args.top) c.as_slice-homes.ensures in
    let visits = subst (λ (o : Option ℕ). Visits deps g before c.visit.new.progress c.home_of-node.result o) c.in-None.is c.in_ok-next.ensures.visits in
    path-next deps g before c.args.path.now c.args.top c.visit.new.progress.order.items c.requires.valid c.requires.on_path c.requires.below
    (subst (IsReady deps g before.placed.items) node visits.2) c.requires.next
    (visits.0 ∙ ap (λ n. before.order.items ++ n ∷ []) node)
