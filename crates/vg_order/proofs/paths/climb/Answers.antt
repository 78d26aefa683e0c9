use Rattle.std.proofs.Common.{◌≡◌, ◌++◌, ◌∷◌, [], ℕ, List, true, length, Option, ap, subst, sym, ◌∙◌}
use Rattle.std.specs.Prelude.{slice_index, slice_set}
use Rattle.std.specs.List.{AllByRecursion}
use Rattle.vg_order.specs.Paths.{AreUnitsPlaced, home_at, IsInside, needs_at, OnPath, Steps}
use Rattle.vg_order.proofs.Walks.{path-shorter, path-start}
use Rattle.vg_order.proofs.paths.climb.Goals as goal

pub path-init : goal.path-init
path-init c =
    let g = c.args.graph.now in
    let needs = needs_at c.args.deps.now g in
    let placed = c.args.progress.now.placed.items in
    let path = c.args.path.now in
    let node : c.home_of-node.result ≡ home_at g c.args.unit = c.home_of-node.ensures ∙ ap (λ (l : List ℕ). slice_index l c.args.unit) c.as_slice.ensures in
    record {
      valid = c.requires.valid;
      on_path = (
        subst (λ n. OnPath needs g.homes (length g.needs) placed path.units.items (slice_set path.on.items n true) c.args.unit) (sym node)
            (path-start needs g.homes (length g.needs) placed path.units.items path.on.items c.args.unit c.requires.rest (c.requires.graph.homes c.args.unit c.requires.unit) c.requires.waits),
        subst (λ (l : List ℕ). AllByRecursion (IsInside g) (l ++ c.args.unit ∷ [])) (sym c.requires.rest.0) (c.requires.unit, tt),
      );
      stays = λ n t. t;
      starts = ap (λ (l : List ℕ). slice_index (l ++ c.args.unit ∷ []) 0) c.requires.rest.0;
      next = c.requires.next;
    }

pub path-smaller : goal.path-smaller
path-smaller c =
    let deps = c.args.deps.now in
    let g = c.args.graph.now in
    let steps = subst (λ (o : Option ℕ). Steps deps g c.path.progress c.step.new.progress c.path.path c.step.new.path c.path.top o) c.in-Some.is c.in_ok-next.ensures.steps in
    path-shorter deps g c.path.progress c.step.new.progress c.path.path c.step.new.path c.path.top c.in-Some.next c.path.invariant.on_path
    c.path.invariant.valid.0.long c.in_ok-next.ensures.valid.0.long steps

pub step-requires-clause-below : goal.step-requires-clause-below
step-requires-clause-below c =
    let g = c.args.graph.now in
    let so = c.path.invariant in
    subst (AreUnitsPlaced g c.path.progress.placed.items) (sym so.starts) (λ x low high. so.stays (home_at g x) (c.requires.below x low high))
