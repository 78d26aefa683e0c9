use Rattle.std.proofs.Common.{◌∙◌, sym, ap}
use Rattle.std.specs.Prelude.{vec_items}
use Rattle.std.specs.List.{list_any}
use Rattle.std.specs.Str.{bytes_eq}
use Rattle.vg_catalog.specs.Catalogs.{entries_in}
use Rattle.vg_catalog.specs.Entries.{name_of}
use Rattle.vg_catalog.proofs.EntryLists.{any-map}
use Rattle.vg_catalog.proofs.catalog.Catalog.is_known.Goals as goal

pub returns : goal.returns
returns c =
    let catalog = c.args.self.now in
    let name = c.args.name.now in
    c.contains.ensures ∙ sym (any-map (bytes_eq name) vec_items catalog.names.keys)
    ∙ ap (list_any (bytes_eq name)) catalog.kept.names_same ∙ any-map (bytes_eq name) name_of (entries_in catalog)
