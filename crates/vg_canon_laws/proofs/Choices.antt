-- The rows for choices keep leaves.
use Rattle.std.proofs.Common.{◌≡◌, ℕ, refl, Bool, true, false, List, [], ◌∷◌}
use Rattle.std.specs.Prelude.{Option, Some, None, ◌&&◌, nat_eq, nat_le, nat_lt, if◌then◌else◌}
use Rattle.vg_terms.specs.declared.term.OneOp.{OneOp}
use Rattle.vg_terms.specs.declared.term.OneOp.TheVariants.{Zext, Sext}
use Rattle.vg_terms.specs.declared.term.TwoOp.{TwoOp}
use Rattle.vg_terms.specs.declared.term.TwoOp.TheVariants.{Xor}
use Rattle.vg_terms.specs.declared.known.Known.{Known}
use Rattle.vg_terms.specs.Order.{is_same_term}
use Rattle.vg_terms.specs.Resize.{low_two}
use Rattle.vg_terms.specs.Term.{Tree, constant, one, two, sel, width_of}
use Rattle.vg_rules_choice.specs.Rules as row
use Rattle.vg_rules_choice.specs.Rules.{rows, selected, is_order, is_choice, is_comparison, chosen, widened, are_stretches, extension_under, lesser_under, greater_under, both_known, narrowed_choice, narrowed_comparison, read_unsigned, may_read_signed}
use Rattle.vg_canon_laws.proofs.Kept.{LeavesIn, Kept, RowKeeps, AllKeep, leaves-either, kept-either, kept-where, low_two-in}

selected-keeps : (s c x y : Tree) → LeavesIn s x → LeavesIn s y → Kept s (selected c x y)
selected-keeps s (constant n v) x y h k = leaves-either s (nat_eq v 1) x y h k
selected-keeps s _ x y h k = tt

known_selection-keeps : RowKeeps row.known_selection
unfolding row.known_selection
known_selection-keeps s (sel w c x y) h = kept-either s (is_same_term x y) (Some x) (selected c x y) h.1 (selected-keeps s c x y h.1 h.2)
known_selection-keeps s _ h = tt

negated_selection-keeps : RowKeeps row.negated_selection
unfolding row.negated_selection
negated_selection-keeps s (sel w (two Xor m c (constant n v)) x y) h = kept-where s (nat_eq v 1) (sel w c y x) (h.0.0, h.2, h.1)
negated_selection-keeps s _ h = tt

widened-in : (s : Tree) (ext : OneOp) (w : ℕ) (p : Tree) → LeavesIn s p → LeavesIn s (widened ext w p)
widened-in s ext w p h = leaves-either s (nat_eq (width_of p) w) p (one ext w 0 p) h h

chosen-keeps : (s : Tree) (order : TwoOp) (w : ℕ) (p q a b : Tree) → LeavesIn s p → LeavesIn s q → Kept s (chosen order w p q a b)
chosen-keeps s order w p q a b h k =
    let ext = extension_under order in
    let lesser = widened ext w (two (lesser_under order) (width_of p) p q) in
    let greater = widened ext w (two (greater_under order) (width_of p) p q) in
    kept-either s (are_stretches ext w p q a b) (Some lesser) (if are_stretches ext w q p a b then Some greater else None)
    (widened-in s ext w (two (lesser_under order) (width_of p) p q) (h, k))
    (kept-where s (are_stretches ext w q p a b) greater (widened-in s ext w (two (greater_under order) (width_of p) p q) (h, k)))

selection_is_least_or_greatest-keeps : RowKeeps row.selection_is_least_or_greatest
unfolding row.selection_is_least_or_greatest
selection_is_least_or_greatest-keeps s (sel w (two op m p q) a b) h =
    kept-either s (is_order op && nat_le (width_of p) w) (chosen op w p q a b) None (chosen-keeps s op w p q a b h.0.0 h.0.1) tt
selection_is_least_or_greatest-keeps s _ h = tt

narrowed_choice-keeps : (s : Tree) (op : TwoOp) (w : ℕ) (k : Known) (x y : Tree) → LeavesIn s x → LeavesIn s y → Kept s (narrowed_choice op w k x y)
narrowed_choice-keeps s op w k x y h l =
    kept-either s (nat_lt k.unsigned w) (Some (one Zext w 0 (low_two (read_unsigned op) k.unsigned k.unsigned x y)))
    (if may_read_signed op && nat_lt k.signed w then Some (one Sext w 0 (low_two op k.signed k.signed x y)) else None)
    (low_two-in s (read_unsigned op) k.unsigned k.unsigned x y h l)
    (kept-where s (may_read_signed op && nat_lt k.signed w) (one Sext w 0 (low_two op k.signed k.signed x y)) (low_two-in s op k.signed k.signed x y h l))

narrow_least_or_greatest-keeps : RowKeeps row.narrow_least_or_greatest
unfolding row.narrow_least_or_greatest
narrow_least_or_greatest-keeps s (two op w x y) h =
    kept-either s (is_choice op) (narrowed_choice op w (both_known x y) x y) None (narrowed_choice-keeps s op w (both_known x y) x y h.0 h.1) tt
narrow_least_or_greatest-keeps s _ h = tt

narrowed_comparison-keeps : (s : Tree) (op : TwoOp) (w : ℕ) (k : Known) (x y : Tree) → LeavesIn s x → LeavesIn s y → Kept s (narrowed_comparison op w k x y)
narrowed_comparison-keeps s op w k x y h l =
    kept-either s (nat_lt k.unsigned w) (Some (low_two (read_unsigned op) 1 k.unsigned x y))
    (if may_read_signed op && nat_lt k.signed w then Some (low_two op 1 k.signed x y) else None)
    (low_two-in s (read_unsigned op) 1 k.unsigned x y h l)
    (kept-where s (may_read_signed op && nat_lt k.signed w) (low_two op 1 k.signed x y) (low_two-in s op 1 k.signed x y h l))

narrow_comparison-keeps : RowKeeps row.narrow_comparison
unfolding row.narrow_comparison
narrow_comparison-keeps s (two op v x y) h =
    kept-either s (is_comparison op) (narrowed_comparison op (width_of x) (both_known x y) x y) None (narrowed_comparison-keeps s op (width_of x) (both_known x y) x y h.0 h.1) tt
narrow_comparison-keeps s _ h = tt

pub choice_rows-keep : AllKeep rows
choice_rows-keep = (
  known_selection-keeps,
  (
    negated_selection-keeps,
    (
      selection_is_least_or_greatest-keeps,
      (narrow_least_or_greatest-keeps, (narrow_comparison-keeps, tt)),
    ),
  ),
)
