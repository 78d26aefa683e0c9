use Rattle.vg_verify.specs.Views.{pairs_in}
use Rattle.vg_verify.proofs.Finding.{noting_next}
use Rattle.vg_verify.proofs.event_bits.EventBits.new.Goals as goal

pub pairs-preserved : goal.pairs-preserved
pairs-preserved c =
    noting_next c.pairs.table.entries c.note_pair.new.table.entries c.pairs.rest.now c.pair-item.result (pairs_in c.args.pairs.now)
    c.in-len1-up.len_at_least c.pair-item.is c.pairs.invariant c.in_ok-note_pair.ensures
