use Rattle.vg_catalog.proofs.Laws.{sound, complete}
use Rattle.vg_catalog.proofs.file.parse_file.Goals as goal

pub returns-clause-sound : goal.returns-clause-sound
returns-clause-sound c = sound c.args.text.now c.read.result c.read.ensures.exact

pub returns-clause-complete : goal.returns-clause-complete
returns-clause-complete c = complete c.args.text.now c.read.result c.read.ensures.exact
