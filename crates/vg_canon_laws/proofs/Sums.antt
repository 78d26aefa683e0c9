-- The rows for sums keep leaves.
use Rattle.std.proofs.Common.{◌≡◌, ℕ, refl, Bool, true, false, List, [], ◌∷◌, ◌++◌}
use Rattle.std.specs.Prelude.{Option, Some, None, ◌&&◌, if◌then◌else◌}
use Rattle.vg_terms.specs.declared.term.TwoOp.{TwoOp}
use Rattle.vg_terms.specs.declared.term.TwoOp.TheVariants.{Eq, Xor}
use Rattle.vg_terms.specs.Chain.{makes_chains, same_op, parts, put_in, sorted, chain, chain_of, is_disordered, not_after}
use Rattle.vg_terms.specs.Order.{is_same_term}
use Rattle.vg_terms.specs.Root.{is_constant}
use Rattle.vg_terms.specs.Term.{Tree, leaf, constant, one, two, sel}
use Rattle.vg_rules_sum.specs.Constant.{is_over_constants, folded, is_neutral, is_absorbing, is_known_twice, twice}
use Rattle.vg_rules_sum.specs.Rules.{fold_constants, put_in_order, sort_chain, merge_constants, neutral_or_absorbing, same_operands, rows}
use Rattle.vg_canon_laws.proofs.Kept.{LeavesIn, Kept, RowKeeps, AllKeep, kept-either, kept-where}

fold_constants-keeps : RowKeeps fold_constants
unfolding fold_constants
fold_constants-keeps s t h = kept-where s (is_over_constants t) (folded t) tt

-- ---- chains

abbrev EachIn : Tree → List Tree → Type 0
EachIn s [] = Unit {0}
EachIn s (p ∷ ps) = LeavesIn s p × EachIn s ps

each-append : (s : Tree) (ps qs : List Tree) → EachIn s ps → EachIn s qs → EachIn s (ps ++ qs)
each-append s [] qs h k = k
each-append s (p ∷ ps) qs h k = (h.0, each-append s ps qs h.1 k)

each-either : (s : Tree) (b : Bool) (ps qs : List Tree) → EachIn s ps → EachIn s qs → EachIn s (if b then ps else qs)
each-either s true ps qs h k = h
each-either s false ps qs h k = k

parts-in : (s : Tree) (op : TwoOp) (t : Tree) → LeavesIn s t → EachIn s (parts op t)
parts-in s op (two o w x y) h =
    each-either s (same_op op o) (parts op x ++ parts op y) (two o w x y ∷ []) (each-append s (parts op x) (parts op y) (parts-in s op x h.0) (parts-in s op y h.1)) (h, tt)
parts-in s op (leaf w k) h = (h, tt)
parts-in s op (constant w v) h = (h, tt)
parts-in s op (one o w k x) h = (h, tt)
parts-in s op (sel w c x y) h = (h, tt)

put_in-in : (s p : Tree) (ps : List Tree) → LeavesIn s p → EachIn s ps → EachIn s (put_in p ps)
put_in-in s p [] h k = (h, tt)
put_in-in s p (q ∷ ps) h k =
    each-either s (not_after p q) (p ∷ (q ∷ ps)) (q ∷ put_in p ps) (h, k) (k.0, put_in-in s p ps h k.1)

sorted-in : (s : Tree) (ps : List Tree) → EachIn s ps → EachIn s (sorted ps)
sorted-in s [] h = tt
sorted-in s (p ∷ ps) h = put_in-in s p (sorted ps) h.0 (sorted-in s ps h.1)

chain-in : (s : Tree) (op : TwoOp) (w : ℕ) (p : Tree) (ps : List Tree) → LeavesIn s p → EachIn s ps → LeavesIn s (chain op w p ps)
chain-in s op w p [] h k = h
chain-in s op w p (q ∷ ps) h k = chain-in s op w (two op w p q) ps (h, k.0) k.1

chain_of-in : (s : Tree) (op : TwoOp) (w : ℕ) (ps : List Tree) → EachIn s ps → LeavesIn s (chain_of op w ps)
chain_of-in s op w [] h = tt
chain_of-in s op w (p ∷ ps) h = chain-in s op w p ps h.0 h.1

put_in_order-in : (s t : Tree) → LeavesIn s t → LeavesIn s (put_in_order t)
put_in_order-in s (two Eq w x y) h = (h.1, h.0)
put_in_order-in s (two op w x y) h = chain_of-in s op w (sorted (parts op (two op w x y))) (sorted-in s (parts op (two op w x y)) (parts-in s op (two op w x y) h))
put_in_order-in s _ h = h

sort_chain-keeps : RowKeeps sort_chain
unfolding sort_chain
sort_chain-keeps s t h = kept-where s (is_disordered t) (put_in_order t) (put_in_order-in s t h)

-- ---- constants and equal sides

merge_constants-keeps : RowKeeps merge_constants
unfolding merge_constants
merge_constants-keeps s (two op w (two o v x c) d) h =
    kept-where s (makes_chains op && (same_op op o && (is_constant c && is_constant d))) (two op w x (folded (two op w c d))) (h.0.0, tt)
merge_constants-keeps s _ h = tt

neutral_or_absorbing-keeps : RowKeeps neutral_or_absorbing
unfolding neutral_or_absorbing
neutral_or_absorbing-keeps s (two op w x (constant n v)) h =
    kept-either s (is_neutral op w v) (Some x) (if is_absorbing op w v then Some (constant n v) else None) h.0 (kept-where s (is_absorbing op w v) (constant n v) tt)
neutral_or_absorbing-keeps s _ h = tt

twice-in : (s : Tree) (op : TwoOp) (w : ℕ) (x : Tree) → LeavesIn s x → LeavesIn s (twice op w x)
twice-in s Xor w x h = tt
twice-in s _ w x h = h

same_operands-keeps : RowKeeps same_operands
unfolding same_operands
same_operands-keeps s (two op w x y) h = kept-where s (is_known_twice op && is_same_term x y) (twice op w x) (twice-in s op w x h.0)
same_operands-keeps s _ h = tt

pub sum_rows-keep : AllKeep rows
sum_rows-keep = (
  fold_constants-keeps,
  (
    sort_chain-keeps,
    (
      merge_constants-keeps,
      (
        neutral_or_absorbing-keeps,
        (same_operands-keeps, tt),
      ),
    ),
  ),
)
