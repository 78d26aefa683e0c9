use Rattle.vg_emit.proofs.emitting.emit.Goals as goal

pub returns-clause-calls : goal.returns-clause-calls
returns-clause-calls c = λ planned order fit. c.emit_described.ensures.calls c.args.headers.now planned order fit
