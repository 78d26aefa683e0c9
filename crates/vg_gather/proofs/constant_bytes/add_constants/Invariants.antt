use Rattle.std.proofs.Common.{take}
use Rattle.vg_emission.specs.Emission.{constants_of}
use Rattle.vg_gather.specs.Adding.{Adds}
use Rattle.vg_gather.proofs.constant_bytes.add_constants.Given as goal

abbrev pub invariant-slots : goal.invariant-slots
invariant-slots l = Adds (constants_of (take l.slot-index l.slots)) l.fn.bytes l.bytes
