-- The order in which a match binds the leaves of its lane.
use Rattle.std.specs.Prelude.{◌≡◌, ℕ, ◌&&◌, Bool, List, [], ◌∷◌, ◌++◌, Some, map, nat_eq, if◌then◌else◌}
use Rattle.std.specs.List.{list_any}
use Rattle.vg_terms.specs.declared.term.LeafKey.{LeafKey}
use Rattle.vg_terms.specs.Term.{Tree, leaf, constant, one, two, sel}
use Rattle.vg_terms.specs.Value.{same_key}
use Rattle.vg_shapes.specs.declared.match_table.Bound.{Bound}
use Rattle.vg_shapes.specs.declared.match_table.Match.{Match}
use Rattle.vg_shapes.specs.Description.{Description}
use Rattle.vg_shapes.specs.Matches.{lane_at}

-- the leaves of a term from left to right, by width and key, each as often as it occurs
abbrev pub occurrences : Tree → List (ℕ × LeafKey)
occurrences (leaf w k) = (w, k) ∷ []
occurrences (constant w n) = []
occurrences (one op w k x) = occurrences x
occurrences (two op w x y) = occurrences x ++ occurrences y
occurrences (sel w c x y) = occurrences c ++ (occurrences x ++ occurrences y)

abbrev pub is_that_leaf : ℕ × LeafKey → ℕ × LeafKey → Bool
is_that_leaf a b = nat_eq a.0 b.0 && same_key a.1 b.1

-- a leaf after those that have occurred, where it is none of them
abbrev pub noted : List (ℕ × LeafKey) → ℕ × LeafKey → List (ℕ × LeafKey)
noted seen l = if list_any (is_that_leaf l) seen then seen else seen ++ l ∷ []

abbrev pub all_noted : List (ℕ × LeafKey) → List (ℕ × LeafKey) → List (ℕ × LeafKey)
all_noted seen [] = seen
all_noted seen (l ∷ ls) = all_noted (noted seen l) ls

-- the leaves of a term, each once, in the order in which they first occur from left to right
abbrev pub leaves_of : Tree → List (ℕ × LeafKey)
leaves_of t = all_noted [] (occurrences t)

-- the leaves that are bound
abbrev pub bound_leaves : List Bound → List (ℕ × LeafKey)
bound_leaves bound = map (λ b. (b.width, b.key)) bound

-- each leaf of a term is bound, and nothing else, in the order in which they first occur
abbrev pub IsBoundInOrder : Tree → List Bound → Type 0
IsBoundInOrder t bound = bound_leaves bound ≡ leaves_of t

-- a match binds the leaves of its lane in that order
abbrev pub BindsInOrder : List Description → Match → Type 0
BindsInOrder descriptions m =
    (t : Tree) → lane_at descriptions m.description m.lane ≡ Some t → IsBoundInOrder t m.bound
