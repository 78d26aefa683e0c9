-- What a node says: the root of its term, over the nodes of the children.
use Rattle.std.specs.Prelude.{◌≡◌, ℕ, ◌<◌, ◌^◌, List, slice_index_or}
use Rattle.vg_terms.specs.Term.{Tree, leaf, constant, one, two, sel, width_of, IsWidth, OneFits, TwoFits}
use Rattle.vg_pool.specs.declared.content.Content.{Content}
use Rattle.vg_pool.specs.declared.content.Content.TheVariants.{Leaf, Const, One, Two, Sel}

-- the width of the term, in bits
abbrev pub content_width : Content → ℕ
content_width (Leaf w k) = w
content_width (Const w v) = w
content_width (One op w k x) = w
content_width (Two op w x y) = w
content_width (Sel w c x y) = w

-- the children are nodes below this number
abbrev pub NamesBelow : ℕ → Content → Type 0
NamesBelow n (Leaf w k) = Unit {0}
NamesBelow n (Const w v) = Unit {0}
NamesBelow n (One op w k x) = x < n
NamesBelow n (Two op w x y) = (x < n) × (y < n)
NamesBelow n (Sel w c x y) = (c < n) × (x < n) × (y < n)

-- the tree at a place of a list; past its end a constant of no bits
abbrev pub listed : List Tree → ℕ → Tree
listed trees node = slice_index_or trees node (constant 0 0)

-- the tree of a content, over the trees of the nodes
abbrev pub rooted : List Tree → Content → Tree
rooted trees (Leaf w k) = leaf w k
rooted trees (Const w v) = constant w v
rooted trees (One op w k x) = one op w k (listed trees x)
rooted trees (Two op w x y) = two op w (listed trees x) (listed trees y)
rooted trees (Sel w c x y) = sel w (listed trees c) (listed trees x) (listed trees y)

-- the widths and bounds are those of a well-formed root over the trees of the nodes
abbrev pub RootFits : List Tree → Content → Type 0
RootFits trees (Leaf w k) = IsWidth w
RootFits trees (Const w v) = IsWidth w × (v < 2 ^ w)
RootFits trees (One op w k x) = IsWidth w × OneFits op w k (width_of (listed trees x))
RootFits trees (Two op w x y) =
    IsWidth w × TwoFits op w (width_of (listed trees x)) (width_of (listed trees y))
RootFits trees (Sel w c x y) =
    IsWidth w × (width_of (listed trees c) ≡ 1) × (width_of (listed trees x) ≡ w)
    × (width_of (listed trees y) ≡ w)
