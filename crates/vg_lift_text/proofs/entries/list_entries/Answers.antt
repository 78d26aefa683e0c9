use Rattle.std.proofs.Common.{◌≡◌, IfOk, ap, subst, sym}
use Rattle.vg_catalog.specs.Written.{AllWritten}
use Rattle.vg_catalog.proofs.Kept.{catalog-written}
use Rattle.vg_entry_lanes.specs.Laws.{HaveLanes}
use Rattle.vg_entry_lanes.proofs.Headers.{catalog-lanes}
use Rattle.vg_lift_text.specs.Listed.{entries_text}
use Rattle.vg_lift_text.proofs.entries.list_entries.Goals as goal

pub list_all-requires-clause-written : goal.list_all-requires-clause-written
list_all-requires-clause-written c = subst AllWritten (sym c.entries.ensures.entries) (catalog-written c.args.catalog.now)

pub list_all-requires-clause-lanes : goal.list_all-requires-clause-lanes
list_all-requires-clause-lanes c = subst HaveLanes (sym c.entries.ensures.entries) (catalog-lanes c.args.catalog.now)

pub returns : goal.returns
returns c = subst (λ es. IfOk c.list_all.result (λ bytes. bytes.items ≡ entries_text es)) c.entries.ensures.entries c.list_all.ensures
