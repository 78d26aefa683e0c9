use Rattle.std.proofs.Common.{◌≡◌, map, take}
use Rattle.vg_shapes.specs.Description.{description_of}
use Rattle.vg_emission.specs.Program.{takes_in}
use Rattle.vg_emit.proofs.takes.takes_in.Given as goal

abbrev pub invariant-packs : goal.invariant-packs
invariant-packs l =
    l.takes.items
    ≡ takes_in (map description_of l.descriptions) l.table l.ssa (take l.pack-index l.packs) l.operands
