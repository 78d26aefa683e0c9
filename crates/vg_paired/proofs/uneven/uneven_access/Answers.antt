use Rattle.std.proofs.Common.{ap, map, sym, ◌∙◌}
use Rattle.vg_events.specs.Events.{labels}
use Rattle.vg_paired.specs.ByteLabels.{label_of}
use Rattle.vg_paired.proofs.Unevens.{finds}
use Rattle.vg_paired.proofs.uneven.uneven_access.Goals as goal

pub returns : goal.returns
returns c =
    c.counted.ensures
    ∙ sym (finds (labels c.args.kernel.now) (labels c.args.lines.now) c.as_slice-labels.result.now c.in_ok-balance.balance c.take_all.new.self c.least-found.result
    (ap (map label_of) c.as_slice-labels.ensures.value ∙ c.in_ok-all.ensures) c.in_ok-balance.ensures c.in_ok-take_all.ensures c.least-found.ensures)
