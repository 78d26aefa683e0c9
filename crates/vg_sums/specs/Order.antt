-- The order of atoms and sums.
use Rattle.std.specs.Prelude.{Bool}
use Rattle.std.specs.declared.cmp.Ordering.{Ordering}
use Rattle.std.specs.declared.cmp.Ordering.TheVariants.{Less, Greater}
use Rattle.std.specs.Ordering.{nat_cmp, int_cmp, ordering_then}
use Rattle.vg_terms.specs.Order.{leaf_cmp}
use Rattle.vg_sums.specs.declared.kind.Kind.{Kind}
use Rattle.vg_sums.specs.Atoms.{amount_of, key_of, kind_tag}
use Rattle.vg_sums.specs.Sums.{Polynomial, number, plus}

abbrev pub kind_cmp : Kind → Kind → Ordering
kind_cmp k l =
    ordering_then (nat_cmp (kind_tag k) (kind_tag l))
    (ordering_then (nat_cmp (amount_of k) (amount_of l)) (leaf_cmp (key_of k) (key_of l)))

abbrev pub sum_cmp : Polynomial → Polynomial → Ordering
sum_cmp (number x) (number y) = int_cmp x y
sum_cmp (number x) (plus l j g s) = Less
sum_cmp (plus k i f r) (number y) = Greater
sum_cmp (plus k i f r) (plus l j g s) =
    ordering_then (kind_cmp k l)
    (ordering_then (sum_cmp i j) (ordering_then (sum_cmp f g) (sum_cmp r s)))

-- atoms by their kinds and the sums that they are of
abbrev pub atom_cmp : Kind → Polynomial → Kind → Polynomial → Ordering
atom_cmp k i l j = ordering_then (kind_cmp k l) (sum_cmp i j)
