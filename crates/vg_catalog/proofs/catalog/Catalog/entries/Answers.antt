use Rattle.std.proofs.Common.{map, subst, sym}
use Rattle.vg_catalog.specs.Entries.{entry_of}
use Rattle.vg_catalog.specs.Written.{AllWritten}
use Rattle.vg_catalog.proofs.Kept.{catalog-written}
use Rattle.vg_catalog.proofs.catalog.Catalog.entries.Goals as goal

pub returns-clause-written : goal.returns-clause-written
returns-clause-written c = subst (λ cs. AllWritten (map entry_of cs)) (sym c.as_slice.ensures.value) (catalog-written c.args.self.now)
