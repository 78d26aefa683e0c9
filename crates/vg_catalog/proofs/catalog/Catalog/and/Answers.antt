use Rattle.std.proofs.Common.{◌≡◌, false, ◌∙◌, sym, ap, map}
use Rattle.std.specs.Prelude.{vec_items}
use Rattle.std.specs.List.{list_any}
use Rattle.std.specs.Str.{bytes_eq}
use Rattle.std.proofs.lemmas.List.{map-append}
use Rattle.vg_pseudo.specs.declared.header.Header.{Header}
use Rattle.vg_range.specs.Checks.{header_in}
use Rattle.vg_catalog.specs.Catalogs.{entries_in}
use Rattle.vg_catalog.specs.Entries.{entry_of, name_of, is_known, instances_of}
use Rattle.vg_catalog.proofs.EntryLists.{any-map, kept_more, names_more}
use Rattle.vg_catalog.proofs.Kept.{read-more}
use Rattle.vg_catalog.proofs.catalog.Catalog.and.Goals as goal

pub invariant_of-result : goal.invariant_of-result
invariant_of-result c =
    let self = c.args.self in
    let entries = entries_in self in
    let keys = self.names.keys in
    let new = c.in_ok-name.name in
    let header : c.in_ok-header.header ≡ header_in c.args.checked = c.in_ok-header.ensures.same ∙ c.header.ensures.header in
    let name : vec_items new ≡ name_of (entry_of c.args.checked) = c.in_ok-name.ensures.items ∙ c.bytes.ensures ∙ ap (λ (h : Header). h.name) header in
    let fresh : list_any (λ k. bytes_eq (vec_items new) (vec_items k)) keys ≡ false =
    sym (any-map (bytes_eq (vec_items new)) vec_items keys) ∙ ap (list_any (bytes_eq (vec_items new))) self.kept.names_same
    ∙ any-map (bytes_eq (vec_items new)) name_of entries ∙ ap (is_known entries) name ∙ c.requires.fresh in
    let names = names_more vec_items _ keys c.insert.new.self.keys new fresh c.in_ok-insert.ensures.keys in
    let count = c.instances_of.ensures.count ∙ ap (λ (h : Header). instances_of h.imm) header in
    let more = kept_more entries self.headers.items (map vec_items keys) self.instances (entry_of c.args.checked) c.in_ok-header.header (vec_items new) c.instances_of.result self.kept header name count c.requires.room in
    record {
      kept = rw (c.in_ok-push-2.ensures.items, c.in_ok-push.ensures.items, names, map-append) more;
      read = rw (c.in_ok-push-2.ensures.items, map-append) (read-more entries (entry_of c.args.checked) self.read c.requires.read c.requires.fresh);
    }
