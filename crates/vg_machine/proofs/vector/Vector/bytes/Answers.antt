use Rattle.vg_machine.proofs.Registers.{bytes_room, bytes_answer}
use Rattle.vg_machine.proofs.vector.Vector.bytes.Goals as goal

pub front-requires : goal.front-requires
front-requires c = bytes_room c.args.count c.self.inside.size c.self.inside.register.bytes c.args.self.now c.self.view_is c.requires

pub returns : goal.returns
returns c = bytes_answer c.args.count c.self.inside.size c.self.inside.register.bytes c.args.self.now c.front.result.now c.self.view_is c.front.ensures.bytes c.requires c.front.ensures.value
