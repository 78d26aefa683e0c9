-- The different leaves of a list.
use Rattle.std.specs.Prelude.{List, [], ◌∷◌, ◌++◌, if◌then◌else◌}
use Rattle.std.specs.List.{list_any}
use Rattle.vg_shapes.specs.declared.leaf.Leaf.{Leaf}
use Rattle.vg_shapes.specs.Leaves.{same_leaf}

-- with one leaf more, if it is not among them
abbrev pub noted : List Leaf → Leaf → List Leaf
noted kept x = if list_any (same_leaf x) kept then kept else kept ++ x ∷ []
