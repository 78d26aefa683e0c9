-- A node more leaves the trees of the others as they were.
use Rattle.std.proofs.Common.{◌≡◌, ℕ, ◌+◌, ◌<◌, ◌≤◌, List, [], ◌∷◌, ◌++◌, length, refl, sym, ◌∙◌, ap, arith}
use Rattle.std.specs.Prelude.{fold}
use Rattle.std.proofs.Math.ListN.{get_or-append, length-append}
use Rattle.std.proofs.Math.Seq.{get_or-append_seam}
use Rattle.std.proofs.lemmas.List.Sums.{fold-append}
use Rattle.vg_terms.specs.Term.{Tree, constant, leaf, one, two, sel, WellFormed, IsWidth, width_of}
use Rattle.vg_pool.specs.declared.content.Content.{Content}
use Rattle.vg_pool.specs.declared.content.Content.TheVariants.{Leaf, Const, One, Two, Sel}
use Rattle.vg_pool.specs.Content.{NamesBelow, RootFits, listed, rooted, content_width}
use Rattle.vg_pool.specs.Pool.{trees_of, tree_at, with_root}

-- one content more is one tree more
pub trees_of-push : (pool : List Content) (d : Content) → trees_of (pool ++ d ∷ []) ≡ with_root (trees_of pool) d
unfolding trees_of
trees_of-push pool d = fold-append with_root [] pool (d ∷ [])

length_from : (trees : List Tree) (pool : List Content) → length (fold with_root trees pool) ≡ length trees + length pool
length_from trees [] = omega arith
length_from trees (d ∷ pool) =
    let rest = length_from (with_root trees d) pool in
    let more = length-append trees (rooted trees d ∷ []) in
    omega (arith, rest, more)

-- each node has a tree
pub length_trees : (pool : List Content) → length (trees_of pool) ≡ length pool
unfolding trees_of
length_trees pool = omega (arith, length_from [] pool)

-- an old node's tree is kept
pub kept : (pool : List Content) (d : Content) (node : ℕ) → node < length pool → tree_at (pool ++ d ∷ []) node ≡ tree_at pool node
kept pool d node h =
    let lt : node < length (trees_of pool) = omega (arith, length_trees pool) in
    ap (λ (ts : List Tree). listed ts node) (trees_of-push pool d) ∙ get_or-append (trees_of pool) (rooted (trees_of pool) d ∷ []) (constant 0 0) node lt

-- the new node's tree
pub last : (pool : List Content) (d : Content) (node : ℕ) → node ≡ length pool → tree_at (pool ++ d ∷ []) node ≡ rooted (trees_of pool) d
last pool d node e =
    ap (λ (k : ℕ). tree_at (pool ++ d ∷ []) k) (e ∙ sym (length_trees pool))
    ∙ ap (λ (ts : List Tree). listed ts (length (trees_of pool))) (trees_of-push pool d)
    ∙ get_or-append_seam (trees_of pool) (rooted (trees_of pool) d) [] (constant 0 0)

-- a content that names old nodes has the tree that it had
pub rooted_kept : (pool : List Content) (d e : Content) → NamesBelow (length pool) e → rooted (trees_of (pool ++ d ∷ [])) e ≡ rooted (trees_of pool) e
rooted_kept pool d (Leaf w k) h = refl
rooted_kept pool d (Const w v) h = refl
rooted_kept pool d (One op w k x) h = ap (one op w k) (kept pool d x h)
rooted_kept pool d (Two op w x y) h = let p = kept pool d x h.0 in let q = kept pool d y h.1 in cc
rooted_kept pool d (Sel w c x y) h =
    let o = kept pool d c h.0 in
    let p = kept pool d x h.1 in
    let q = kept pool d y h.2 in
    cc

-- what names nodes below a number names them below a greater one
pub names_more : (m n : ℕ) (e : Content) → m ≤ n → NamesBelow m e → NamesBelow n e
names_more m n (Leaf w k) le h = tt
names_more m n (Const w v) le h = tt
names_more m n (One op w k x) le h = omega arith
names_more m n (Two op w x y) le h = (omega (arith, h.0), omega (arith, h.1))
names_more m n (Sel w c x y) le h = (omega (arith, h.0), omega (arith, h.1), omega (arith, h.2))

-- the tree of a content is well-formed over well-formed trees
pub well_formed : (trees : List Tree) (n : ℕ) (e : Content) → ((node : ℕ) → node < n → WellFormed (listed trees node)) → NamesBelow n e → RootFits trees e → WellFormed (rooted trees e)
well_formed trees n (Leaf w k) all h fits = fits
well_formed trees n (Const w v) all h fits = fits
well_formed trees n (One op w k x) all h fits = (fits.0, fits.1, all x h)
well_formed trees n (Two op w x y) all h fits = (fits.0, fits.1, all x h.0, all y h.1)
well_formed trees n (Sel w c x y) all h fits = (fits.0, (fits.1, fits.2, fits.3), all c h.0, all x h.1, all y h.2)

-- a content has the width of its tree
pub content_width-rooted : (trees : List Tree) (e : Content) → content_width e ≡ width_of (rooted trees e)
content_width-rooted trees (Leaf w k) = refl
content_width-rooted trees (Const w v) = refl
content_width-rooted trees (One op w k x) = refl
content_width-rooted trees (Two op w x y) = refl
content_width-rooted trees (Sel w c x y) = refl

-- which is a width
pub is_width : (t : Tree) → WellFormed t → IsWidth (width_of t)
is_width (leaf w k) h = h
is_width (constant w v) h = h.0
is_width (one op w k x) h = h.0
is_width (two op w x y) h = h.0
is_width (sel w c x y) h = h.0
