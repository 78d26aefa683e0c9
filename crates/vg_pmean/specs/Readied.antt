-- An entry made ready to run, as its instances by their immediates.
use Rattle.std.specs.Prelude.{ℕ, List, Option, map}
use Rattle.vg_pmean.specs.declared.instance.Instance.{Instance}
use Rattle.vg_pmean.specs.declared.prepared.Prepared.{Prepared}
use Rattle.vg_pmean.specs.Applied.{Ready}

abbrev pub ready : Option ℕ → List Instance → Ready
ready least instances = record { least = least; instances = map (λ i. i.whole) instances }

abbrev pub ready_of : Prepared → Ready
ready_of p = ready p.least p.instances.items
