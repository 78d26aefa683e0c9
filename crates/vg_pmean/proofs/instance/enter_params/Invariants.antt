use Rattle.std.proofs.Common.{◌≡◌, map, take}
use Rattle.vg_base.specs.Bits.{bits_of_bytes, num}
use Rattle.vg_pmean.specs.Held.{filled, held}
use Rattle.vg_pmean.proofs.instance.enter_params.Given as goal

abbrev pub invariant-registers : goal.invariant-registers
invariant-registers g l =
    l.cells ≡ held (filled 0 (take l.register (map (λ p. num (bits_of_bytes p.bytes)) l.params)) l.initial.cells.cells) l.initial.cells.room
