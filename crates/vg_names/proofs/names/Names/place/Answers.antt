use Rattle.std.proofs.Common.{◌∙◌}
use Rattle.std.specs.Prelude.{vec_items}
use Rattle.vg_names.proofs.TablesOfNames.{name_place}
use Rattle.vg_names.proofs.names.Names.place.Goals as goal

pub returns : goal.returns
returns c = rw (← c.self.view_is) (c.get_index_of.ensures.index ∙ name_place vec_items c.args.name.now c.self.inside.all.keys)
