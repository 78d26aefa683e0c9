use Rattle.std.proofs.Common.{◌<◌, arith, ap, length, map, sym, ◌∙◌}
use Rattle.std.specs.Prelude.{slice_index}
use Rattle.vg_events.specs.Events.{Label, label_at}
use Rattle.vg_paired.specs.ByteLabels.{label_of}
use Rattle.vg_paired.specs.Rows.{is_early_by}
use Rattle.vg_paired.proofs.Heads.{label-mapped}
use Rattle.vg_paired.proofs.Sweeping.{any-first, any-next}
use Rattle.vg_paired.proofs.turned.is_any_early.Goals as goal

pub events-preserved : goal.events-preserved
events-preserved c =
    let by = is_early_by c.args.flags.now (length c.args.flags.now) c.args.rows.now in
    let inside : c.events.event < length c.args.labels.now = omega (arith, c.requires.inside) in
    sym (any-next (λ x. by (label_at (map label_of c.args.labels.now) x) (slice_index c.args.lines.now x)) c.events.event c.args.last c.events-test.true
    (ap (λ (l : Label). by l (slice_index c.args.lines.now c.events.event)) (label-mapped c.args.labels.now c.events.event _ inside) ∙ sym c.if-is_early.ensures))
    ∙ c.events.invariant

pub returns-then-is_early : goal.returns-then-is_early
returns-then-is_early c =
    let by = is_early_by c.args.flags.now (length c.args.flags.now) c.args.rows.now in
    let inside : c.events.event < length c.args.labels.now = omega (arith, c.requires.inside) in
    sym (any-first (λ x. by (label_at (map label_of c.args.labels.now) x) (slice_index c.args.lines.now x)) c.events.event c.args.last c.events-test.true
    (ap (λ (l : Label). by l (slice_index c.args.lines.now c.events.event)) (label-mapped c.args.labels.now c.events.event _ inside) ∙ sym c.if-is_early.ensures))
    ∙ c.events.invariant
