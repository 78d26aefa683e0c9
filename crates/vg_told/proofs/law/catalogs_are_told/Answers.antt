use Rattle.vg_told.proofs.Told.{catalogs-are-told}
use Rattle.vg_told.proofs.law.catalogs_are_told.Goals as goal

pub returns : goal.returns
returns c =
    catalogs-are-told c.resolved_operations_are_proper.ensures
