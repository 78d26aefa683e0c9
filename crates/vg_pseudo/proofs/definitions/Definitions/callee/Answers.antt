use Rattle.std.proofs.Common.{◌∙◌, sym}
use Rattle.std.specs.Prelude.{vec_items}
use Rattle.vg_pseudo.proofs.Tables.{callee_at}
use Rattle.vg_pseudo.proofs.definitions.Definitions.callee.Goals as goal

pub returns-in-Some : goal.returns-in-Some
returns-in-Some c = rw (← c.self.view_is) (c.in-Some.ensures.value ∙ sym (callee_at vec_items c.args.name.now c.self.inside.callees.entries))

pub returns-in-None : goal.returns-in-None
returns-in-None c = rw (← c.self.view_is) (c.in-None.ensures.value ∙ sym (callee_at vec_items c.args.name.now c.self.inside.callees.entries))
