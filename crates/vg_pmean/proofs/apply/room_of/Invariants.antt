use Rattle.std.proofs.Common.{◌≡◌, ◌<◌, ℕ, Some, map, slice_get}
use Rattle.vg_script.specs.Views.{whole_of}
use Rattle.vg_script.specs.declared.whole.Whole.{Whole}
use Rattle.vg_pmean.specs.Applied.{IsReady}
use Rattle.vg_pmean.proofs.apply.room_of.Given as goal

abbrev pub invariant-instances : goal.invariant-instances
invariant-instances l =
    (k : ℕ) (i : Whole) → k < l.instance-index → slice_get (map (λ j. j.whole) l.instances) k ≡ Some i → IsReady l.room (whole_of i)
