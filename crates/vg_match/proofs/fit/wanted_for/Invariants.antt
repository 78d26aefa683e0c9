use Rattle.std.proofs.Common.{◌≡◌, drop}
use Rattle.vg_shapes.specs.Fits.{wanted_for}
use Rattle.vg_match.proofs.fit.wanted_for.Given as goal

abbrev pub invariant-loop-b : goal.invariant-loop-b
invariant-loop-b l = wanted_for (drop l.b-index l.bound) l.width l.key ≡ wanted_for l.bound l.width l.key
