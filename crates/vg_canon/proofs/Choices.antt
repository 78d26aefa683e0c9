-- What a rule for choices makes of a term over canonical children is canonical from the third level on.
use Rattle.std.proofs.Common.{◌≡◌, ℕ, Bool, true, false}
use Rattle.std.specs.Prelude.{Option, Some, None, nat_eq, nat_le, nat_lt, if◌then◌else◌, ◌&&◌}
use Rattle.vg_terms.specs.declared.known.Known.{Known}
use Rattle.vg_terms.specs.declared.term.OneOp.{OneOp}
use Rattle.vg_terms.specs.declared.term.OneOp.TheVariants.{Zext, Sext}
use Rattle.vg_terms.specs.declared.term.TwoOp.{TwoOp}
use Rattle.vg_terms.specs.declared.term.TwoOp.TheVariants.{Xor}
use Rattle.vg_terms.specs.Order.{is_same_term}
use Rattle.vg_terms.specs.Resize.{low_two}
use Rattle.vg_terms.specs.Term.{Tree, leaf, constant, one, two, sel, width_of}
use Rattle.vg_rules_choice.specs.Rules.{first_row, is_order, selected, widened, chosen, extension_under, lesser_under, greater_under, are_stretches, both_known, is_choice, is_comparison, read_unsigned, may_read_signed, narrowed_choice, narrowed_comparison, known_selection, negated_selection, selection_is_least_or_greatest, narrow_least_or_greatest, narrow_comparison}
use Rattle.vg_canon.specs.Canonical.{IsCanonical}
use Rattle.vg_canon.specs.Walk.{CanonicalFrom}
use Rattle.vg_canon.proofs.Walks.{canonical-from}
use Rattle.vg_canon.proofs.Narrowings.{IsShallow, given, given_if, given_either, chosen_from, low_two-from, or_shallow, none-shallow}

selected-from : (c x y new : Tree) → IsCanonical x → IsCanonical y → selected c x y ≡ Some new → CanonicalFrom 3 new
selected-from (constant n v) x y new d f e = given _ new e (chosen_from 3 (nat_eq v 1) x y (canonical-from 3 x d) (canonical-from 3 y f))
selected-from (leaf w k) x y new d f e = absurd (cc)
selected-from (one op w k z) x y new d f e = absurd (cc)
selected-from (two op w z u) x y new d f e = absurd (cc)
selected-from (sel w c z u) x y new d f e = absurd (cc)

-- where the test fails, the next is asked
otherwise : (b : Bool) (v : Tree) (rest : Option Tree) (new : Tree) → (if b then Some v else rest) ≡ Some new → CanonicalFrom 3 v → (rest ≡ Some new → CanonicalFrom 3 new) → CanonicalFrom 3 new
otherwise true v rest new e h k = given v new e h
otherwise false v rest new e h k = k e

known_selection-shallow : IsShallow known_selection
unfolding known_selection
known_selection-shallow (sel w c x y) new h e = otherwise (is_same_term x y) x (selected c x y) new e (canonical-from 3 x h.1) (λ f. selected-from c x y new h.1 h.2 f)
known_selection-shallow _ new h e = absurd (cc)

negated_selection-shallow : IsShallow negated_selection
unfolding negated_selection
negated_selection-shallow (sel w (two Xor m c (constant n v)) x y) new h e =
    given_if (nat_eq v 1) (sel w c y x) new e (canonical-from 2 c h.0.1, canonical-from 2 y h.2, canonical-from 2 x h.1)
negated_selection-shallow _ new h e = absurd (cc)

widened-from : (ext : OneOp) (w : ℕ) (op : TwoOp) (v : ℕ) (p q : Tree) → IsCanonical p → IsCanonical q → CanonicalFrom 3 (widened ext w (two op v p q))
widened-from ext w op v p q c d =
    chosen_from 3 (nat_eq v w) (two op v p q) (one ext w 0 (two op v p q)) (canonical-from 2 p c, canonical-from 2 q d) (canonical-from 1 p c, canonical-from 1 q d)

chosen-shallow : (op : TwoOp) (w : ℕ) (p q a b new : Tree) → IsCanonical p → IsCanonical q → chosen op w p q a b ≡ Some new → CanonicalFrom 3 new
chosen-shallow op w p q a b new c d e =
    let ext = extension_under op in
    given_either (are_stretches ext w p q a b) (are_stretches ext w q p a b) (widened ext w (two (lesser_under op) (width_of p) p q)) (widened ext w (two (greater_under op) (width_of p) p q)) new e
    (widened-from ext w (lesser_under op) (width_of p) p q c d) (widened-from ext w (greater_under op) (width_of p) p q c d)

-- where the test holds, something is given
given_under : (b : Bool) (rest : Option Tree) (new : Tree) → (if b then rest else None) ≡ Some new → rest ≡ Some new
given_under true rest new e = e
given_under false rest new e = absurd (cc)

selection-shallow : IsShallow selection_is_least_or_greatest
unfolding selection_is_least_or_greatest
selection-shallow (sel w (two op m p q) a b) new h e = chosen-shallow op w p q a b new h.0.1 h.0.2 (given_under (is_order op && nat_le (width_of p) w) _ new e)
selection-shallow _ new h e = absurd (cc)

choice-narrowed : (op : TwoOp) (w : ℕ) (k : Known) (x y new : Tree) → IsCanonical x → IsCanonical y → narrowed_choice op w k x y ≡ Some new → CanonicalFrom 3 new
choice-narrowed op w k x y new c d e =
    given_either (nat_lt k.unsigned w) (may_read_signed op && nat_lt k.signed w) (one Zext w 0 (low_two (read_unsigned op) k.unsigned k.unsigned x y)) (one Sext w 0 (low_two op k.signed k.signed x y)) new e
    (low_two-from 0 (read_unsigned op) k.unsigned k.unsigned x y c d) (low_two-from 0 op k.signed k.signed x y c d)

least-shallow : IsShallow narrow_least_or_greatest
unfolding narrow_least_or_greatest
least-shallow (two op w x y) new h e = choice-narrowed op w (both_known x y) x y new h.0 h.1 (given_under (is_choice op) _ new e)
least-shallow _ new h e = absurd (cc)

comparison-narrowed : (op : TwoOp) (w : ℕ) (k : Known) (x y new : Tree) → IsCanonical x → IsCanonical y → narrowed_comparison op w k x y ≡ Some new → CanonicalFrom 3 new
comparison-narrowed op w k x y new c d e =
    given_either (nat_lt k.unsigned w) (may_read_signed op && nat_lt k.signed w) (low_two (read_unsigned op) 1 k.unsigned x y) (low_two op 1 k.signed x y) new e
    (low_two-from 1 (read_unsigned op) 1 k.unsigned x y c d) (low_two-from 1 op 1 k.signed x y c d)

comparison-shallow : IsShallow narrow_comparison
unfolding narrow_comparison
comparison-shallow (two op v x y) new h e = comparison-narrowed op (width_of x) (both_known x y) x y new h.0 h.1 (given_under (is_comparison op) _ new e)
comparison-shallow _ new h e = absurd (cc)

pub choice-shallow : IsShallow first_row
choice-shallow =
    or_shallow known_selection _ known_selection-shallow
    (or_shallow negated_selection _ negated_selection-shallow
    (or_shallow selection_is_least_or_greatest _ selection-shallow
    (or_shallow narrow_least_or_greatest _ least-shallow
    (or_shallow narrow_comparison _ comparison-shallow none-shallow))))
