use Rattle.vg_shapes.proofs.Readings.{leaves-read}
use Rattle.vg_shapes.proofs.law.leaves_read_registers.Goals as goal

pub returns : goal.returns
returns c = leaves-read
