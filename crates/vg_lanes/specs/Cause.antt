-- The names of causes.
use Rattle.std.specs.Prelude.{ℕ, List, codes}
use Rattle.vg_lanes.specs.declared.cause.Cause.{Cause}
use Rattle.vg_lanes.specs.declared.cause.Cause.TheVariants.{Dynamic, TooLarge, OddLeaf, MixedInput}

abbrev pub cause_name : Cause → List ℕ
cause_name Dynamic = codes "Dynamic"
cause_name TooLarge = codes "TooLarge"
cause_name OddLeaf = codes "OddLeaf"
cause_name MixedInput = codes "MixedInput"
