use Rattle.std.proofs.Common.{◌∙◌, sym, ap}
use Rattle.std.specs.Prelude.{vec_items, position}
use Rattle.std.specs.Str.{bytes_eq}
use Rattle.vg_catalog.specs.Catalogs.{entries_in}
use Rattle.vg_catalog.specs.Entries.{name_of}
use Rattle.vg_catalog.proofs.EntryLists.{position-map}
use Rattle.vg_catalog.proofs.catalog.Catalog.find.Goals as goal

pub returns : goal.returns
returns c =
    let catalog = c.args.self.now in
    let name = c.args.name.now in
    record {
      place = c.get_index_of.ensures.index ∙ sym (position-map (bytes_eq name) vec_items catalog.names.keys)
          ∙ ap (position (bytes_eq name)) catalog.kept.names_same ∙ position-map (bytes_eq name) name_of (entries_in catalog);
    }
