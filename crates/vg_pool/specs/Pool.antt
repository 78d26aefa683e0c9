-- A pool of shared terms, seen as the list of its nodes' contents: the trees of its nodes, and what
-- holds of each pool.
use Rattle.std.specs.Prelude.{◌≡◌, ℕ, ◌^◌, ◌<◌, ◌≤◌, List, [], ◌∷◌, ◌++◌, length, fold, min, Some, slice_get}
use Rattle.std.specs.Map.{keys_of}
use Rattle.vg_terms.specs.Term.{Tree, WellFormed, node_count}
use Rattle.slab.specs.Slab.{Slab, get}
use Rattle.vg_pool.specs.declared.content.Content.{Content}
use Rattle.vg_pool.specs.declared.content.Entry.{Entry}
use Rattle.vg_pool.specs.Content.{NamesBelow, listed, rooted}

-- the trees, and after them that of one content more
abbrev pub with_root : List Tree → Content → List Tree
with_root trees content = trees ++ rooted trees content ∷ []

-- the trees of the nodes, each over those before it
unfoldable pub trees_of : List Content → List Tree
trees_of pool = fold with_root [] pool

-- the tree of a node
abbrev pub tree_at : List Content → ℕ → Tree
tree_at pool node = listed (trees_of pool) node

-- the pool has this node, and the node stands for this tree
pub record StandsFor (pool : List Content) (node : ℕ) (t : Tree) : Type 0 where
  pub within : node < length pool
  pub is : tree_at pool node ≡ t

-- each node is kept, with its tree
pub record Keeps (old new : List Content) : Type 0 where
  pub nodes : length old ≤ length new
  pub trees : (node : ℕ) → node < length old → tree_at new node ≡ tree_at old node

-- the nodes are few, their trees are well-formed, and no two nodes stand for one tree
pub record IsPool (pool : List Content) : Type 0 where
  pub few : length pool ≤ 2 ^ 24
  pub well_formed : (node : ℕ) → node < length pool → WellFormed (tree_at pool node)
  pub one_node : (i j : ℕ) → i < length pool → j < length pool
      → tree_at pool i ≡ tree_at pool j → i ≡ j

-- the number of nodes of a tree, or 4,097 where there are more
abbrev pub counted : Tree → ℕ
counted t = min (node_count t) 4097

-- a node of the pool has this content, and its tree this count
pub record IsEntry (pool : List Content) (node : ℕ) (content : Content) (count : ℕ) : Type 0 where
  pub names : NamesBelow node content
  pub is : rooted (trees_of pool) content ≡ tree_at pool node
  pub counts : count ≡ counted (tree_at pool node)

-- the contents of a pool with their places, which are their numbers, and under each number the
-- content and the count of its tree
pub record IsTable (nodes : Slab Entry) (places : List (Content × ℕ)) : Type 0 where
  pub pool : IsPool (keys_of places)
  pub place : (node : ℕ) (content : Content) (place : ℕ)
      → slice_get places node ≡ Some (content, place) → place ≡ node
  pub entry : (node : ℕ) (content : Content) (place : ℕ)
      → slice_get places node ≡ Some (content, place)
      → (count : ℕ) × (get nodes node ≡ Some (record { content = content; count = count }))
      × IsEntry (keys_of places) node content count
