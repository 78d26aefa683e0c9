use Rattle.std.proofs.Common.{arith}
use Rattle.vg_machine.specs.ReadyInstance.{kept_of}
use Rattle.vg_machine.proofs.Calls.{map-set, map-within}
use Rattle.vg_machine.proofs.instances.answer_at.Goals as goal

pub returns-then-place-kept-clause-same : goal.returns-then-place-kept-clause-same
returns-then-place-kept-clause-same c = map-set kept_of c.args.kept.now c.args.place _ c.answer.new.self c.if-place-kept.true c.answer.ensures.same

pub returns-else-place-kept-clause-bits : goal.returns-else-place-kept-clause-bits
returns-else-place-kept-clause-bits c = λ k at. let lt = map-within kept_of c.args.kept.now c.args.place k at in absurd (omega (arith, lt, c.if-place-kept.false))
