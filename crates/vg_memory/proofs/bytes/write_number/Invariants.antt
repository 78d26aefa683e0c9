use Rattle.std.proofs.Common.{◌≡◌, ◌++◌, ◌-◌, length, take}
use Rattle.vg_base.specs.Bits.{bytes}
use Rattle.vg_memory.proofs.bytes.write_number.Given as goal

-- what is written, and what is still to be written
abbrev pub invariant-bytes : goal.invariant-bytes
invariant-bytes l = take l.byte-index l.to ++ bytes (length l.to - l.byte-index) l.rest ≡ bytes (length l.fn.to) l.fn.number
