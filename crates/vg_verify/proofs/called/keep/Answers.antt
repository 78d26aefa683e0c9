use Rattle.std.proofs.Common.{sym, ◌∙◌}
use Rattle.vg_catalog.specs.Catalogs.{entries_in}
use Rattle.vg_catalog.specs.Entries.{entry_of}
use Rattle.vg_catalog.proofs.Kept.{catalog-written}
use Rattle.vg_verify.proofs.Calling.{kept_more, new_last, written_at}
use Rattle.vg_verify.proofs.called.keep.Goals as goal

pub lanes_for-requires : goal.lanes_for-requires
lanes_for-requires c = written_at (entries_in c.args.catalog.now) c.args.instance.entry (entry_of c.in-Some.entry.now) (catalog-written c.args.catalog.now) c.in-Some.ensures

pub returns-in_ok-insert-in-Some : goal.returns-in_ok-insert-in-Some
returns-in_ok-insert-in-Some c =
    kept_more (entries_in c.args.catalog.now) c.args.instances.now.entries c.insert.new.self.entries c.args.instance (entry_of c.in-Some.entry.now) c.in_ok-lanes-in-Some.lanes
    c.requires.kept c.in-Some.ensures c.in_ok-lanes-in-Some.ensures
    (c.in_ok-insert-in-Some.ensures.entries ∙ new_last _ c.args.instances.now.entries c.args.instance c.in_ok-lanes-in-Some.lanes (sym c.if-contains_key.ensures))
