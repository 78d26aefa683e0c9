use Rattle.std.proofs.Common.{◌≡◌, take}
use Rattle.vg_known.specs.WiderDifference.{wholes_of}
use Rattle.vg_forms.proofs.classes.Classes.wholes.Given as goal

abbrev pub invariant-classes : goal.invariant-classes
invariant-classes l = l.wholes ≡ wholes_of (take l.t-index l.all)
