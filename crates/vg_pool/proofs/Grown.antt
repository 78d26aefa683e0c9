-- A pool with a node more, whose tree it did not have, is a pool.
use Rattle.std.proofs.Common.{◌≡◌, ℕ, ◌+◌, ◌<◌, ◌^◌, List, [], ◌∷◌, ◌++◌, length, refl, sym, ◌∙◌, subst, arith, below_more}
use Rattle.std.proofs.Math.ListN.{length-append}
use Rattle.vg_terms.specs.Term.{WellFormed}
use Rattle.vg_pool.specs.declared.content.Content.{Content}
use Rattle.vg_pool.specs.declared.content.Content.TheVariants.{Leaf, Const, One, Two, Sel}
use Rattle.vg_pool.specs.Content.{NamesBelow, RootFits, rooted}
use Rattle.vg_pool.specs.Pool.{IsPool, trees_of, tree_at}
use Rattle.vg_pool.proofs.Trees.{kept, last, well_formed}

-- two contents of one tree are equal, where no two nodes stand for one tree
pub same_content : (pool : List Content) → IsPool pool → (d e : Content) → NamesBelow (length pool) d → NamesBelow (length pool) e
    → rooted (trees_of pool) d ≡ rooted (trees_of pool) e → d ≡ e
same_content pool h (Leaf w k) (Leaf v l) m n same = cc
same_content pool h (Const w k) (Const v l) m n same = cc
same_content pool h (One op w k x) (One oq v l y) m n same = let p = h.one_node x y m n (cc) in cc
same_content pool h (Two op w x y) (Two oq v s t) m n same =
    let p = h.one_node x s m.0 n.0 (cc) in
    let q = h.one_node y t m.1 n.1 (cc) in
    cc
same_content pool h (Sel w c x y) (Sel v b s t) m n same =
    let o = h.one_node c b m.0 n.0 (cc) in
    let p = h.one_node x s m.1 n.1 (cc) in
    let q = h.one_node y t m.2 n.2 (cc) in
    cc
same_content pool h (Leaf w k) _ m n same = absurd (cc)
same_content pool h (Const w v) _ m n same = absurd (cc)
same_content pool h (One op w k x) _ m n same = absurd (cc)
same_content pool h (Two op w x y) _ m n same = absurd (cc)
same_content pool h (Sel w c x y) _ m n same = absurd (cc)

-- a pool with a node more, whose tree it did not have
module _ (pool : List Content) (d : Content) (h : IsPool pool) (room : length pool < 2 ^ 24)
    (names : NamesBelow (length pool) d) (fits : RootFits (trees_of pool) d)
    (fresh : (node : ℕ) → node < length pool → tree_at pool node ≡ rooted (trees_of pool) d → ⊥) where
  abbrev next : List Content
  next = pool ++ d ∷ []

  length_next : length next ≡ length pool + 1
  length_next = omega (arith, length-append pool (d ∷ []))

  new : tree_at next (length pool) ≡ rooted (trees_of pool) d
  new = last pool d (length pool) refl

  well : (node : ℕ) → node < length pool + 1 → WellFormed (tree_at next node)
  well =
      below_more (λ node. WellFormed (tree_at next node)) (length pool)
      (λ node lt. subst WellFormed (sym (kept pool d node lt)) (h.well_formed node lt))
      (subst WellFormed (sym new) (well_formed (trees_of pool) (length pool) d h.well_formed names fits))

  -- nodes of one tree, the first of which is old, or the new one
  old_with : (i : ℕ) → i < length pool → (j : ℕ) → j < length pool + 1 → tree_at next i ≡ tree_at next j → i ≡ j
  old_with i li =
      below_more (λ j. tree_at next i ≡ tree_at next j → i ≡ j) (length pool)
      (λ j lj e. h.one_node i j li lj (sym (kept pool d i li) ∙ e ∙ kept pool d j lj))
      (λ e. absurd (fresh i li (sym (kept pool d i li) ∙ e ∙ new)))

  new_with : (j : ℕ) → j < length pool + 1 → tree_at next (length pool) ≡ tree_at next j → length pool ≡ j
  new_with =
      below_more (λ j. tree_at next (length pool) ≡ tree_at next j → length pool ≡ j) (length pool)
      (λ j lj e. absurd (fresh j lj (sym (kept pool d j lj) ∙ sym e ∙ new)))
      (λ e. refl)

  both : (i : ℕ) → i < length pool + 1 → (j : ℕ) → j < length pool + 1 → tree_at next i ≡ tree_at next j → i ≡ j
  both = below_more (λ i. (j : ℕ) → j < length pool + 1 → tree_at next i ≡ tree_at next j → i ≡ j) (length pool) old_with new_with

  pub grows : IsPool (pool ++ d ∷ [])
  grows = record {
    few = omega (arith, length_next);
    well_formed = λ node lt. well node (omega (arith, length_next));
    one_node = λ i j li lj e. both i (omega (arith, length_next)) j (omega (arith, length_next)) e;
  }
