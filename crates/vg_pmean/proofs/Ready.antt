-- The instances of an entry by their places.
use Rattle.std.proofs.Common.{◌≡◌, ℕ, zero, suc, ◌<◌, List, [], ◌∷◌, length, map, get_or, slice_get, Some, sym, arith}
use Rattle.std.proofs.lemmas.Option.{none-some, same_Some}
use Rattle.vg_script.specs.declared.whole.Whole.{Whole}
use Rattle.vg_pmean.specs.declared.instance.Instance.{Instance}

pub found : (js : List Instance) (k : ℕ) (d : Instance) (i : Whole) → k < length js → slice_get (map (λ j. j.whole) js) k ≡ Some i → i ≡ (get_or js k d).whole
found [] k d i some is = absurd (omega arith)
found (j ∷ js) zero d i some is = sym (same_Some _ _ is)
found (j ∷ js) (suc k) d i some is = found js k d i (omega arith) is

pub within : (js : List Instance) (k : ℕ) (i : Whole) → slice_get (map (λ j. j.whole) js) k ≡ Some i → k < length js
within [] k i is = absurd (none-some i is)
within (j ∷ js) zero i is = omega arith
within (j ∷ js) (suc k) i is = omega (arith, within js k i is)
