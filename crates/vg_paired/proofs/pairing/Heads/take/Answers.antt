use Rattle.std.proofs.Common.{ℕ, List, length, arith, ap, refl, ◌∙◌}
use Rattle.std.specs.Prelude.{slice_index, unwrap_or}
use Rattle.vg_paired.specs.ByteLabels.{label_of}
use Rattle.vg_paired.specs.Noted.{noted}
use Rattle.vg_paired.proofs.Heads.{pairs-none, pairs-some}
use Rattle.vg_paired.proofs.pairing.Heads.take.Goals as goal

pub returns-then-event-count : goal.returns-then-event-count
returns-then-event-count c =
    let self = c.args.self.now in
    let same = ap length c.as_slice-all.ensures.value in
    pairs-none self c.args.label c.number_or-event.result
    (c.number_or-event.ensures ∙ ap (λ (xs : List ℕ). unwrap_or (noted self.first (label_of c.args.label)) (length xs)) c.as_slice-all.ensures.value) (omega arith)

pub returns : goal.returns
returns c =
    let self = c.args.self.now in
    let same = ap length c.as_slice-all.ensures.value in
    pairs-some self.first c.set.new.self self.next.items self (record { first = c.set.new.self; next = self.next }) c.args.label c.number_or-event.result c.event_at-next.result
    refl refl refl refl
    (c.number_or-event.ensures ∙ ap (λ (xs : List ℕ). unwrap_or (noted self.first (label_of c.args.label)) (length xs)) c.as_slice-all.ensures.value) (omega arith)
    (c.event_at-next.ensures ∙ ap (λ (xs : List ℕ). slice_index xs c.number_or-event.result) c.as_slice-all.ensures.value) c.in_ok-set.ensures
