-- The leaves of lane terms: bits of parameters.
use Rattle.std.specs.Prelude.{ℕ, ℤ, pos, negsuc, ◌+◌, ◌%◌, Bool, not, ◌&&◌, ◌||◌, nat_eq, nat_le, nat_lt, List, [], ◌∷◌, ◌++◌}
use Rattle.std.specs.List.{list_any}
use Rattle.vg_terms.specs.declared.term.LeafKey.{LeafKey}
use Rattle.vg_terms.specs.Term.{Tree, leaf, constant, one, two, sel}
use Rattle.vg_shapes.specs.declared.leaf.Leaf.{Leaf}

-- a bit number; none is negative
abbrev pub bit_number : ℤ → ℕ
bit_number (pos n) = n
bit_number (negsuc n) = 0

abbrev pub leaf_of : ℕ → LeafKey → Leaf
leaf_of w k = record { parameter = k.first; low = bit_number k.second; width = w }

-- the leaves of a term, from left to right
abbrev pub leaves : Tree → List Leaf
leaves (leaf w k) = leaf_of w k ∷ []
leaves (constant w v) = []
leaves (one op w k x) = leaves x
leaves (two op w x y) = leaves x ++ leaves y
leaves (sel w c x y) = leaves c ++ (leaves x ++ leaves y)

-- the widths of the values of a kernel
abbrev pub is_value_width : ℕ → Bool
is_value_width w = nat_eq w 8 || (nat_eq w 16 || (nat_eq w 32 || nat_eq w 64))

-- no value has the width of the leaf, or it stands at no multiple of its width
abbrev pub is_odd : Leaf → Bool
is_odd l = not (is_value_width l.width && nat_eq (l.low % l.width) 0)

abbrev pub same_leaf : Leaf → Leaf → Bool
same_leaf a b = nat_eq a.parameter b.parameter && (nat_eq a.low b.low && nat_eq a.width b.width)

-- the first begins at a bit of the second
abbrev pub begins_in : Leaf → Leaf → Bool
begins_in a b = nat_le b.low a.low && nat_lt a.low (b.low + b.width)

-- they are leaves of one parameter that overlap without being equal
abbrev pub clash : Leaf → Leaf → Bool
clash a b =
    nat_eq a.parameter b.parameter && ((begins_in a b || begins_in b a) && not (same_leaf a b))

-- two of the leaves clash
abbrev pub some_clash : List Leaf → Bool
some_clash ls = list_any (λ a. list_any (clash a) ls) ls
