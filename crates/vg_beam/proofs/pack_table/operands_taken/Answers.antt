use Rattle.vg_beam.proofs.pack_table.operands_taken.Goals as goal

pub returns-then-not-is_short : goal.returns-then-not-is_short
returns-then-not-is_short c = λ short. absurd (c.is_short.ensures.many c.if-not-is_short.true short)
