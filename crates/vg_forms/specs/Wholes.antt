-- Whole terms as nodes of a pool.
use Rattle.std.specs.Prelude.{◌≡◌, ℕ, ◌<◌, List, map, length, Option, Some, None}
use Rattle.std.specs.List.{AllByRecursion}
use Rattle.vg_terms.specs.declared.term.LeafKey.{LeafKey}
use Rattle.vg_terms.specs.Term.{Tree, leaf, width_of}
use Rattle.vg_pool.specs.declared.content.Content.{Content}
use Rattle.vg_pool.specs.Pool.{tree_at}
use Rattle.vg_known.specs.WiderDifference.{whole_leaf}
use Rattle.vg_forms.specs.declared.wholes.Whole.{Whole}

abbrev pub trees_in : List Content → List Whole → List Tree
trees_in pool ws = map (λ w. tree_at pool w.node) ws

-- each is a node, and its width is that of its tree
abbrev pub AreWholes : List Content → List Whole → Type 0
AreWholes pool ws =
    AllByRecursion (λ w. (w.node < length pool) × (width_of (tree_at pool w.node) ≡ w.width)) ws

-- The node, if there is one, has what stands for the leaf; if there is none, the leaf stays.
abbrev pub IsWholeOf : List Whole → ℕ → LeafKey → Option ℕ → Type 0
IsWholeOf ws w k None = (pool : List Content) → AreWholes pool ws → whole_leaf (trees_in pool ws) w k ≡ leaf w k
IsWholeOf ws w k (Some node) =
    (pool : List Content) → AreWholes pool ws → (node < length pool) × (whole_leaf (trees_in pool ws) w k ≡ tree_at pool node)
