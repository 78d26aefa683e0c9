use Rattle.vg_known.specs.Kernels.{bits_at}
use Rattle.vg_verify.specs.Views.{pairs_in}
use Rattle.vg_verify.proofs.Events.{read_all}
use Rattle.vg_verify.proofs.event_bits.EventBits.+push_read.Goals as goal

pub returns-in_ok-push_read-in-len1-up : goal.returns-in_ok-push_read-in-len1-up
returns-in_ok-push_read-in-len1-up t c =
    read_all (bits_at (pairs_in c.args.self.now.table.entries)) c.args.events.now c.args.to.now.items c.push_all.new.to.items c.push_read.new.to.items c.at.result.now
    c.in-len1-up.len_at_least c.in_ok-push_all-in-len1-up.ensures c.at.ensures c.in_ok-push_read-in-len1-up.ensures
