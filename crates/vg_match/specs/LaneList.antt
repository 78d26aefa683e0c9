-- The lanes of descriptions that may compute values, and the roots of their terms.
use Rattle.std.specs.Prelude.{ℕ, ◌+◌, ◌&&◌, Bool, true, List, [], ◌∷◌, ◌++◌, Option, Some, None, filter, nat_eq, if◌then◌else◌}
use Rattle.std.specs.declared.cmp.Ordering.{Ordering}
use Rattle.std.specs.List.Sorted.{IsSortedBy}
use Rattle.std.specs.Ordering.{is_lt, nat_cmp, ordering_then}
use Rattle.std.specs.Set.{sorted_merge}
use Rattle.vg_terms.specs.Order.{tag_of}
use Rattle.vg_terms.specs.Root.{amount_of}
use Rattle.vg_terms.specs.Term.{Tree, width_of}
use Rattle.vg_shapes.specs.Fits.{is_compound}
use Rattle.vg_match.specs.declared.lane_list.LaneAt.{LaneAt}
use Rattle.vg_match.specs.declared.root.Root.{Root}

-- what stands at the root of a term
abbrev pub root_of : Tree → Root
root_of t = record { tag = tag_of t; width = width_of t; amount = amount_of t }

abbrev pub root_cmp : Root → Root → Ordering
root_cmp a b =
    ordering_then (nat_cmp a.tag b.tag)
    (ordering_then (nat_cmp a.width b.width) (nat_cmp a.amount b.amount))

-- the first stands before the second
abbrev pub is_before : LaneAt → LaneAt → Bool
is_before a b = is_lt (root_cmp a.root b.root)

-- lanes sorted by their roots
abbrev pub IsByRoot : List LaneAt → Type 0
IsByRoot lanes = IsSortedBy is_before lanes

abbrev pub has_root : Root → LaneAt → Bool
has_root r x =
    nat_eq r.tag x.root.tag && (nat_eq r.width x.root.width && nat_eq r.amount x.root.amount)

-- the lanes of a description that are no leaf and no constant, the first having this number
abbrev pub lanes_from : ℕ → ℕ → List Tree → List LaneAt
lanes_from d lane [] = []
lanes_from d lane (t ∷ ts) =
    if is_compound t
    then record { root = root_of t; description = d; lane = lane } ∷ lanes_from d (lane + 1) ts
    else lanes_from d (lane + 1) ts

-- those of all descriptions, the first having this number
abbrev pub all_lanes : ℕ → List (List Tree) → List LaneAt
all_lanes d [] = []
all_lanes d (ts ∷ rest) = lanes_from d 0 ts ++ all_lanes (d + 1) rest

-- by description, then lane
abbrev pub place_cmp : LaneAt → LaneAt → Ordering
place_cmp a b = ordering_then (nat_cmp a.description b.description) (nat_cmp a.lane b.lane)

-- the lanes of the root of a term, in their order; none where there is no term
abbrev pub lanes_like : List LaneAt → Option Tree → List LaneAt
lanes_like all None = []
lanes_like all (Some t) = filter (has_root (root_of t)) all

-- the lanes of either root, in order
abbrev pub lanes_near : List LaneAt → Option Tree → Option Tree → List LaneAt
lanes_near all t c = sorted_merge place_cmp true (lanes_like all t) (lanes_like all c)
