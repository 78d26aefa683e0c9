use Rattle.vg_verify.specs.Noting.{ReadSoFar}
use Rattle.vg_verify.proofs.unit_reads.reads_of.Given as goal

abbrev pub invariant-units : goal.invariant-units
invariant-units l = ReadSoFar l.units l.terms l.place l.first l.reads.items
