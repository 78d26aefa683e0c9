use Rattle.std.proofs.Common.{List, ℕ, ◌≡◌, true, length, refl, subst, sym, ◌∙◌, ap}
use Rattle.std.specs.Prelude.{slice_index_or, slice_set}
use Rattle.vg_order.specs.declared.needs.Needs.{Needs}
use Rattle.vg_order.specs.Needs.{Looked, rows_of}
use Rattle.vg_order.specs.Paths.{IsPlaced, left_at, needs_at}
use Rattle.vg_order.proofs.Placing.{visit-looked, visit-placed, visit-ready, visit-waits}
use Rattle.vg_order.proofs.progress.visit.Goals as goal

pub returns-in-Some-clause-valid : goal.returns-in-Some-clause-valid
returns-in-Some-clause-valid c =
    let g = c.args.graph.now in
    let p = c.args.progress.now in
    let m = c.args.node in
    let needs = c.index-as_slice-node.result in
    let from = c.index-from.result.now in
    let look = c.look-look.result in
    let read : needs ≡ slice_index_or g.needs m needs = c.index-as_slice-node.is ∙ ap (λ (l : List Needs). slice_index_or l m needs) c.as_slice.ensures in
    let looked : Looked g.homes p.placed.items (rows_of c.args.deps.now needs) from look =
    subst (λ (h : List ℕ). Looked h p.placed.items (rows_of c.args.deps.now needs) from look) c.as_slice-2.ensures
    (subst (λ q. Looked c.as_slice-2.result.now q (rows_of c.args.deps.now needs) from look) c.as_slice-3.ensures.value c.look-look.ensures) in
    visit-looked c.args.deps.now g p m needs from look c.requires.valid (read, c.index-from.ensures, c.requires.node, c.requires.valid.1) looked

pub returns-in-Some-clause-visits : goal.returns-in-Some-clause-visits
returns-in-Some-clause-visits c =
    let g = c.args.graph.now in
    let p = c.args.progress.now in
    let m = c.args.node in
    let needs = c.index-as_slice-node.result in
    let from = c.index-from.result.now in
    let look = c.look-look.result in
    let read : needs ≡ slice_index_or g.needs m needs = c.index-as_slice-node.is ∙ ap (λ (l : List Needs). slice_index_or l m needs) c.as_slice.ensures in
    let looked : Looked g.homes p.placed.items (rows_of c.args.deps.now needs) from look =
    subst (λ (h : List ℕ). Looked h p.placed.items (rows_of c.args.deps.now needs) from look) c.as_slice-2.ensures
    (subst (λ q. Looked c.as_slice-2.result.now q (rows_of c.args.deps.now needs) from look) c.as_slice-3.ensures.value c.look-look.ensures) in
    let waits = visit-waits c.args.deps.now g p m c.in-Some.unit needs from look c.requires.valid (read, c.index-from.ensures, c.requires.node, c.requires.valid.1) looked c.in-Some.is in
    (refl, refl, waits.0, waits.1, waits.2)

pub returns-clause-valid : goal.returns-clause-valid
returns-clause-valid c =
    let deps = c.args.deps.now in
    let g = c.args.graph.now in
    let p = c.args.progress.now in
    let m = c.args.node in
    let needs = c.index-as_slice-node.result in
    let from = c.index-from.result.now in
    let look = c.look-look.result in
    let now = slice_set p.cursors.items m look.cursor in
    let read : needs ≡ slice_index_or g.needs m needs = c.index-as_slice-node.is ∙ ap (λ (l : List Needs). slice_index_or l m needs) c.as_slice.ensures in
    let looked : Looked g.homes p.placed.items (rows_of deps needs) from look =
    subst (λ (h : List ℕ). Looked h p.placed.items (rows_of deps needs) from look) c.as_slice-2.ensures
    (subst (λ q. Looked c.as_slice-2.result.now q (rows_of deps needs) from look) c.as_slice-3.ensures.value c.look-look.ensures) in
    subst (λ (o : List ℕ). IsPlaced (needs_at deps g) (left_at deps g now) g.homes (length g.needs) o (slice_set p.placed.items m true) × (length now ≡ length g.needs))
    (sym c.in_ok-push.ensures.items)
    (visit-placed deps g p m needs from look c.requires.valid (read, c.index-from.ensures, c.requires.node, c.requires.valid.1) looked c.requires.waits c.in_default.is)

pub returns-clause-visits : goal.returns-clause-visits
returns-clause-visits c =
    let g = c.args.graph.now in
    let p = c.args.progress.now in
    let m = c.args.node in
    let needs = c.index-as_slice-node.result in
    let from = c.index-from.result.now in
    let look = c.look-look.result in
    let read : needs ≡ slice_index_or g.needs m needs = c.index-as_slice-node.is ∙ ap (λ (l : List Needs). slice_index_or l m needs) c.as_slice.ensures in
    let looked : Looked g.homes p.placed.items (rows_of c.args.deps.now needs) from look =
    subst (λ (h : List ℕ). Looked h p.placed.items (rows_of c.args.deps.now needs) from look) c.as_slice-2.ensures
    (subst (λ q. Looked c.as_slice-2.result.now q (rows_of c.args.deps.now needs) from look) c.as_slice-3.ensures.value c.look-look.ensures) in
    (c.in_ok-push.ensures.items, refl, visit-ready c.args.deps.now g p m needs from look c.requires.valid (read, c.index-from.ensures, c.requires.node, c.requires.valid.1) looked c.in_default.is)
