use Rattle.std.proofs.Common.{◌∙◌}
use Rattle.std.specs.Prelude.{vec_items}
use Rattle.vg_names.proofs.TablesOfNames.{name_among}
use Rattle.vg_names.proofs.names.Names.has.Goals as goal

pub returns : goal.returns
returns c = rw (← c.self.view_is) (c.contains.ensures ∙ name_among vec_items c.args.name.now c.self.inside.all.keys)
