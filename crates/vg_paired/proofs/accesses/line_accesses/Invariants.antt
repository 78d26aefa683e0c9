use Rattle.std.proofs.Common.{◌≡◌, map, take}
use Rattle.vg_events.specs.Lines.{line_access}
use Rattle.vg_paired.proofs.accesses.line_accesses.Given as goal

abbrev pub invariant-lines : goal.invariant-lines
invariant-lines l = l.accesses.items ≡ map line_access (take l.line-index l.lines)
