-- How the terms of values are made, and how large ones are cut.
use Rattle.std.specs.Prelude.{ℕ, Bool, true, false, List, [], ◌∷◌, ◌++◌, map, nat_le, Option, Some, None, position, if◌then◌else◌}
use Rattle.std.specs.List.{list_any}
use Rattle.vg_terms.specs.Term.{Tree, leaf, constant, one, two, sel, node_count, width_of}
use Rattle.vg_terms.specs.Order.{is_same_term}
use Rattle.vg_canon.specs.Canonical.{canonical}
use Rattle.vg_shapes.specs.declared.ssa_unit.Operator.{Operator}
use Rattle.vg_shapes.specs.Sound.{cut_key}
use Rattle.vg_ssa.specs.ValueTerm.{operation_term}
use Rattle.vg_lift.specs.Gather.{Bit, clear, input, of_term, gather}

-- ---- classes

-- the terms that were met, with one more: each stands once, in the order in which it was first met, and
-- its place is its class
abbrev pub met_with : List Tree → Tree → List Tree
met_with met t = if list_any (is_same_term t) met then met else met ++ t ∷ []

abbrev pub is_atom : Tree → Bool
is_atom (leaf w k) = true
is_atom (constant w v) = true
is_atom (one op w k x) = false
is_atom (two op w x y) = false
is_atom (sel w c x y) = false

-- the leaf of a class in the place of a term
abbrev pub leaf_for : Tree → Option ℕ → Tree
leaf_for t None = t
leaf_for t (Some class) = leaf (width_of t) (cut_key class)

-- a term that was met becomes the leaf of its class; leaves and constants stay
abbrev pub cut : List Tree → Tree → Tree
cut met t = if is_atom t then t else leaf_for t (position (is_same_term t) met)

abbrev pub cut_bit : List Tree → Bit → Bit
cut_bit met clear = clear
cut_bit met (input p i) = input p i
cut_bit met (of_term t k) = of_term (cut met t) k

abbrev pub cut_bits : List Tree → List Bit → List Bit
cut_bits met bs = map (cut_bit met) bs

-- ---- large terms

-- a term of at most 128 nodes, else the other
abbrev pub small_or : Tree → Tree → Tree
small_or t other = if nat_le (node_count t) 128 then t else other

-- the canonical form of a term made of whole terms; where that is too large, of the same made of cut ones
abbrev pub built : Tree → Tree → Tree
built whole parts =
    if nat_le (node_count whole) 4096 then small_or (canonical whole) (canonical parts)
    else canonical parts

-- the term of bits
abbrev pub gathered : List Tree → List Bit → Tree
gathered met bs = built (gather bs) (gather (cut_bits met bs))

-- the term of an operation of a width in bits and an amount on three terms
abbrev pub computed : List Tree → Operator → ℕ → ℕ → Tree → Tree → Tree → Tree
computed met op w k x y z =
    built (operation_term op w k x y z) (operation_term op w k (cut met x) (cut met y) (cut met z))
