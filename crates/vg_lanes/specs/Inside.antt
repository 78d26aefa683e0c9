-- Whether the leaves of a term lie inside parameters of these widths, as a test.
use Rattle.std.specs.Prelude.{ℕ, ◌+◌, ◌&&◌, Bool, true, false, List, get_or, pos, negsuc, ℤ, nat_eq, nat_le}
use Rattle.vg_terms.specs.declared.term.LeafKey.{LeafKey}
use Rattle.vg_terms.specs.Term.{Tree, leaf, constant, one, two, sel}
use Rattle.vg_shapes.specs.Leaves.{bit_number}

abbrev pub is_natural : ℤ → Bool
is_natural (pos n) = true
is_natural (negsuc n) = false

-- a leaf is bits of a parameter, inside it
abbrev pub is_inside : List ℕ → ℕ → LeafKey → Bool
is_inside ws w k =
    nat_eq k.kind 0
    && (nat_eq k.third 0
    && (is_natural k.second && nat_le (bit_number k.second + w) (get_or ws k.first 0)))

abbrev pub leaves_inside : List ℕ → Tree → Bool
leaves_inside ws (leaf w k) = is_inside ws w k
leaves_inside ws (constant w v) = true
leaves_inside ws (one op w k x) = leaves_inside ws x
leaves_inside ws (two op w x y) = leaves_inside ws x && leaves_inside ws y
leaves_inside ws (sel w c x y) =
    leaves_inside ws c && (leaves_inside ws x && leaves_inside ws y)
