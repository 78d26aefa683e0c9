use Rattle.vg_kernel.proofs.Laws.{sound, complete, well_formed}
use Rattle.vg_kernel.proofs.parser.parse_kernel.Goals as goal

pub returns-clause-sound : goal.returns-clause-sound
returns-clause-sound c = sound c.args.text.now c.read.result c.read.ensures.exact

pub returns-clause-complete : goal.returns-clause-complete
returns-clause-complete c = complete c.args.text.now c.read.result c.read.ensures.exact

pub returns-clause-well_formed : goal.returns-clause-well_formed
returns-clause-well_formed c = well_formed c.args.text.now c.read.result c.read.ensures.exact
