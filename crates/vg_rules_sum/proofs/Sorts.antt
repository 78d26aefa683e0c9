-- What a sort of terms ensures, of their trees.
use Rattle.std.proofs.Common.{◌≡◌, ◌+◌, ◌<◌, List, [], ◌∷◌, length, map, arith}
use Rattle.std.specs.List.Sorted.{IsPermutation, IsSorted, IsSortedByKey}
use Rattle.std.proofs.lemmas.List.{get_or-map, length-map}
use Rattle.std.proofs.lemmas.List.Sorted.{IsPermutation-map}
use Rattle.vg_terms.specs.declared.term.Term.{Term}
use Rattle.vg_terms.specs.Chain.{sorted}
use Rattle.vg_terms.specs.Order.{order}
use Rattle.vg_terms.specs.Term.{tree}
use Rattle.vg_terms.proofs.Sorting.{sorted_once}

sorted-trees : (ts : List Term) → IsSortedByKey tree order ts → IsSorted order (map tree ts)
sorted-trees [] h k d _ l = absurd (omega arith)
sorted-trees (t ∷ ts) h k d z l =
    let m : k + 1 < length (t ∷ ts) = omega (arith, length-map (t ∷ ts) tree) in
    let n : k < length (t ∷ ts) = omega arith in
    rw (get_or-map tree (t ∷ ts) (k + 1) t d m, get_or-map tree (t ∷ ts) k t d n) (h k t z m)

pub sorted_by_tree : (ts us : List Term) → IsPermutation ts us → IsSortedByKey tree order us → map tree us ≡ sorted (map tree ts)
sorted_by_tree ts us p s = sorted_once (map tree ts) (map tree us) (IsPermutation-map tree ts us p) (sorted-trees us s)
