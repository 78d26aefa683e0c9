-- so many bytes are there
use Rattle.std.proofs.Common.{◌≡◌}
use Rattle.vg_trial.specs.Trial.{bytes_to}
use Rattle.vg_trial.proofs.memory.make_memory.Given as goal

abbrev pub invariant-bytes : goal.invariant-bytes
invariant-bytes l = l.bytes.items ≡ bytes_to l.number l.x
