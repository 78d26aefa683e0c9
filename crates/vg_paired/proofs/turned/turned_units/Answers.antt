use Rattle.std.proofs.Common.{◌-◌, ◌<◌, ◌≤◌, ◌^◌, ap, length, map, sym, subst, ◌∙◌}
use Rattle.vg_shapes.specs.Layout.{access_of}
use Rattle.vg_paired.specs.ByteLabels.{label_of}
use Rattle.vg_paired.specs.Sweeps.{ArePointers, AreRising, AreSpans, has_early, is_turned_unit, least_turned}
use Rattle.vg_paired.proofs.Spanning.{sound-arguments, sound-flags, spans-few, spans-long, spans-pointers, spans-rising, turned-is}
use Rattle.vg_paired.proofs.turned.turned_units.Goals as goal

pub least_turned-requires-clause-flags : goal.least_turned-requires-clause-flags
least_turned-requires-clause-flags c =
    sound-flags c.args.ssa.now c.deref-2.result.now c.requires (c.deref-2.ensures.value ∙ c.in_ok-flags.ensures)

pub least_turned-requires-clause-pointers : goal.least_turned-requires-clause-pointers
least_turned-requires-clause-pointers c =
    let flags = c.deref-2.result.now in
    let are = subst (λ xs. AreSpans xs c.in_ok-spans.spans) (c.deref.ensures.value ∙ c.in_ok-accesses.ensures ∙ ap (map access_of) c.as_slice.ensures) c.in_ok-spans.ensures in
    subst (λ ls. ArePointers (length flags) (map label_of ls)) (sym c.as_slice-labels.ensures.value)
    (spans-pointers c.args.ssa.now flags c.in_ok-spans.spans c.requires (c.deref-2.ensures.value ∙ c.in_ok-flags.ensures) are)

pub least_turned-requires-clause-rising : goal.least_turned-requires-clause-rising
least_turned-requires-clause-rising c =
    let spans = c.in_ok-spans.spans in
    subst (λ bs. AreRising bs (length c.as_slice-labels.result.now)) (sym c.deref-3.ensures.value)
    (subst (λ ls. AreRising spans.begins.items (length ls)) (sym c.as_slice-labels.ensures.value) (spans-rising c.deref.result.now spans c.in_ok-spans.ensures))

pub least_turned-requires-clause-arguments : goal.least_turned-requires-clause-arguments
least_turned-requires-clause-arguments c = subst (λ n. n ≤ 16) (sym c.arguments-arguments.ensures) (sound-arguments c.args.ssa.now c.requires)

pub least_turned-requires-clause-few : goal.least_turned-requires-clause-few
least_turned-requires-clause-few c =
    let are = subst (λ xs. AreSpans xs c.in_ok-spans.spans) (c.deref.ensures.value ∙ c.in_ok-accesses.ensures ∙ ap (map access_of) c.as_slice.ensures) c.in_ok-spans.ensures in
    subst (λ bs. length bs < 2 ^ 63) (sym c.deref-3.ensures.value) (spans-few c.args.ssa.now c.in_ok-spans.spans c.requires are)

pub returns : goal.returns
returns c =
    let spans = c.in_ok-spans.spans in
    let are = subst (λ xs. AreSpans xs spans) (c.deref.ensures.value ∙ c.in_ok-accesses.ensures ∙ ap (map access_of) c.as_slice.ensures) c.in_ok-spans.ensures in
    let flags = c.deref-2.ensures.value ∙ c.in_ok-flags.ensures in
    let labels = c.as_slice-labels.ensures.value in
    let begins = c.deref-3.ensures.value in
    let numbers = c.deref-4.ensures.value in
    let long = c.in_ok-numbers.ensures.all ∙ ap length labels ∙ spans-long _ spans are in
    c.in_ok-found.ensures
    ∙ (λ k. least_turned (c.arguments-arguments.ensures k) (length (begins k) - 1) (is_turned_unit (flags k) (map label_of (labels k)) (numbers k) (begins k))
    (has_early (flags k) (map label_of (labels k)) (numbers k) (begins k)))
    ∙ turned-is c.args.ssa.now c.args.lines.now spans c.in_ok-numbers.numbers.items are long c.in_ok-numbers.ensures.lines
