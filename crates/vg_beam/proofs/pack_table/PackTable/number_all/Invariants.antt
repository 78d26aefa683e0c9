use Rattle.std.proofs.Common.{take}
use Rattle.vg_beam.specs.SearchSpace.{choice_of, described}
use Rattle.vg_beam.specs.PackTable.{AreNumbered}
use Rattle.vg_beam.proofs.pack_table.PackTable.number_all.Given as goal

abbrev pub invariant-packs : goal.invariant-packs
invariant-packs l =
    AreNumbered (choice_of l.space) (described l.space) l.space.table.now l.space.ssa.now l.initial.self l.self (take l.pack-index l.packs) l.numbers.items
