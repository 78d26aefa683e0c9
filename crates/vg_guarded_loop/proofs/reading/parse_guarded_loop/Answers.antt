use Rattle.vg_guarded_loop.proofs.Texts.{read_sound, read_complete}
use Rattle.vg_guarded_loop.proofs.reading.parse_guarded_loop.Goals as goal

pub returns-clause-sound : goal.returns-clause-sound
returns-clause-sound c = read_sound c.args.headers.now c.args.text.now c.read.result c.read.ensures

pub returns-clause-complete : goal.returns-clause-complete
returns-clause-complete c = read_complete c.args.headers.now c.args.text.now c.read.result c.read.ensures
