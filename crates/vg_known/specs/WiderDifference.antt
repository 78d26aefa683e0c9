-- The first difference by values as whole terms: what is known by its class stands for itself on both sides,
-- and two terms of one sum count as equal.
use Rattle.std.specs.Prelude.{ℕ, pos, Bool, true, false, ◌&&◌, ◌||◌, List, [], ◌∷◌, ◌++◌, nat_eq, nat_le, Option, Some, None, slice_get, if◌then◌else◌}
use Rattle.std.specs.Ordering.{int_eq}
use Rattle.vg_terms.specs.declared.term.LeafKey.{LeafKey}
use Rattle.vg_terms.specs.Term.{Tree, leaf, constant, one, two, sel, node_count, width_of}
use Rattle.vg_terms.specs.Order.{is_same_term}
use Rattle.vg_sums.specs.Same.{have_same_sum}
use Rattle.vg_canon.specs.Canonical.{canonical}
use Rattle.vg_program.specs.declared.program.Program.{Program}
use Rattle.vg_shapes.specs.declared.ssa.Ssa.{Ssa}
use Rattle.vg_catalog.specs.Entries.{Entry}
use Rattle.vg_known.specs.Difference.{Difference, difference_by, Equality, equal_terms}

-- ---- whole terms

-- the key of a class is `cut_key` of its number
abbrev pub is_class : LeafKey → Bool
is_class k = nat_eq k.kind 3 && int_eq k.second (pos 0) && nat_eq k.third 0

-- a leaf, or the whole of its class where that has its width
abbrev pub whole_or : Tree → Option Tree → Tree
whole_or t None = t
whole_or t (Some whole) = if nat_eq (width_of whole) (width_of t) then whole else t

abbrev pub whole_leaf : List Tree → ℕ → LeafKey → Tree
whole_leaf wholes w k =
    if is_class k then whole_or (leaf w k) (slice_get wholes k.first) else leaf w k

-- a term in which the leaf of each class is the class's whole
abbrev pub whole : List Tree → Tree → Tree
whole wholes (leaf w k) = whole_leaf wholes w k
whole wholes (constant w v) = constant w v
whole wholes (one op w k x) = one op w k (whole wholes x)
whole wholes (two op w x y) = two op w (whole wholes x) (whole wholes y)
whole wholes (sel w c x y) = sel w (whole wholes c) (whole wholes x) (whole wholes y)

-- at most 1,024 nodes
abbrev pub is_small : Tree → Bool
is_small t = nat_le (node_count t) 1024

-- the whole of a term; where that is too large, the term as it stands
abbrev pub small_whole : List Tree → Tree → Tree
small_whole wholes t = if is_small (whole wholes t) then whole wholes t else t

-- the wholes of the terms of classes after these, each made of those before it
abbrev pub wholes_behind : List Tree → List Tree → List Tree
wholes_behind wholes [] = wholes
wholes_behind wholes (t ∷ ts) = wholes_behind (wholes ++ small_whole wholes t ∷ []) ts

-- the whole of each term that was met, by its class
abbrev pub wholes_of : List Tree → List Tree
wholes_of met = wholes_behind [] met

-- ---- terms that count as equal

-- Two terms are the same, or both are small and have one canonical form or one sum.
abbrev pub equal_forms : Tree → Tree → Bool
equal_forms t u =
    is_same_term t u
    || (is_small t && is_small u && (is_same_term (canonical t) (canonical u) || have_same_sum t u))

abbrev pub equal_wholes : List Tree → Tree → Tree → Bool
equal_wholes wholes t u = equal_forms (small_whole wholes t) (small_whole wholes u)

-- as they stand, or as wholes
abbrev pub equal_wider : Equality
equal_wider met t u = equal_terms met t u || equal_wholes (wholes_of met) t u

-- with more, or as they stand
abbrev pub equality : Bool → Equality
equality true = equal_wider
equality false = equal_terms

-- ---- the first wider difference

abbrev pub wider_difference : List Entry → Ssa → Program → Option Difference
wider_difference entries ssa p = difference_by equal_wider entries ssa p
