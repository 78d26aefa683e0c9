use Rattle.std.proofs.Common.{◌≡◌, length}
use Rattle.vg_program.specs.Valid.{header_of}
use Rattle.vg_program.proofs.before.header_in.Given as goal

abbrev pub invariant-headers : goal.invariant-headers
invariant-headers l = header_of l.rest l.name ≡ header_of l.headers l.name

abbrev pub decreases-headers : goal.decreases-headers
decreases-headers l = length l.rest
