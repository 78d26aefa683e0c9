use Rattle.vg_catalog.specs.Catalogs.{entries_in}
use Rattle.vg_verify.specs.Instances.{AreKept}
use Rattle.vg_verify.proofs.called.instances_of.Given as goal

abbrev pub invariant-lines : goal.invariant-lines
invariant-lines l = AreKept (entries_in l.fn.catalog) l.instances.entries
