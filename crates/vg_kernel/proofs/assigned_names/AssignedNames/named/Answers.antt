use Rattle.std.specs.Prelude.{vec_items}
use Rattle.vg_kernel.proofs.NamesFound.{found_at, found_nowhere}
use Rattle.vg_kernel.proofs.assigned_names.AssignedNames.named.Goals as goal

pub returns-in-Some : goal.returns-in-Some
returns-in-Some c = rw (← c.self.view_is) (found_at vec_items c.args.name.now c.self.inside.types.entries c.in-Some.number _ c.in-Some.ensures.index c.in-Some.ensures.value)

pub returns-in-None : goal.returns-in-None
returns-in-None c = rw (← c.self.view_is) (found_nowhere vec_items c.args.name.now c.self.inside.types.entries c.in-None.ensures.index)
