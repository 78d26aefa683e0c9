use Rattle.std.proofs.Common.{◌+◌}
use Rattle.vg_sums.specs.Sums.{polynomial, size}
use Rattle.vg_sums.proofs.arithmetic.+add.Given as goal

abbrev pub decreases-add : goal.decreases-add
decreases-add l = size (polynomial l.p.now) + size (polynomial l.q.now)
