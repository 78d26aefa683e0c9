use Rattle.vg_names.proofs.NumbersWritten.{read-are-written}
use Rattle.vg_names.proofs.law.operations_that_are_read_are_written.Goals as goal

pub returns : goal.returns
returns c = read-are-written
