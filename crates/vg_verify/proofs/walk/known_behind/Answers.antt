use Rattle.vg_verify.specs.Views.{begun_with, known_of, pairs_in}
use Rattle.vg_verify.proofs.Walking.{known_same}
use Rattle.vg_verify.proofs.walk.known_behind.Goals as goal

pub returns : goal.returns
returns c =
    known_same c.args.called.now c.args.arguments.now c.in_ok-bits.bits.table.entries (pairs_in c.args.reads.now) c.args.lines.now c.args.events.now (begun_with c.args.maker.classes) (known_of c.begin-known.result) (known_of c.lines.new.self)
    c.in_ok-bits.ensures c.begin-known.ensures c.in_ok-lines.ensures
