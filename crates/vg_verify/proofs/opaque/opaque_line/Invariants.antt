use Rattle.vg_known.specs.Difference.{is_opaque_call}
use Rattle.vg_verify.specs.Seeking.{Sought}
use Rattle.vg_verify.proofs.opaque.opaque_line.Given as goal

abbrev pub invariant-lines : goal.invariant-lines
invariant-lines l = Sought (is_opaque_call l.fn.called) l.lines l.place
