-- No rule applies where a part that is no constant stands after a canonical chain, not before its last part,
-- and leaves none of its bits known.
use Rattle.std.proofs.Common.{◌≡◌, ℕ, Bool, true, false, refl, sym, ap, ◌∙◌, subst, arith, inl, inr, ◌≤◌}
use Rattle.std.specs.Prelude.{Option, Some, None, not, ◌&&◌, nat_le, nat_lt, if◌then◌else◌}
use Rattle.std.specs.Option.{option_or}
use Rattle.std.proofs.lemmas.Bool.{cases_Bool, cond-true, cond-false, and_parts, and_from, not-true, not-false, not_from_true, not_from_false, ltb-true, leb-true}
use Rattle.vg_terms.specs.declared.term.TwoOp.{TwoOp}
use Rattle.vg_terms.specs.declared.term.TwoOp.TheVariants.{Add, Mul, And, Or, Xor, Smin, Smax, Umin, Umax, Eq, Slt, Ult, Cat}
use Rattle.vg_terms.specs.Chain.{makes_chains, same_op, opens, not_after, leads_to, in_order, is_disordered}
use Rattle.vg_terms.specs.Known.{known}
use Rattle.vg_terms.specs.Order.{is_same_term}
use Rattle.vg_terms.specs.Term.{Tree, leaf, constant, one, two, sel}
use Rattle.vg_terms.proofs.Chains.{same_op-same, disordered-chain}
use Rattle.vg_terms.proofs.Orders.{same_term}
use Rattle.vg_terms.specs.Root.{is_constant}
use Rattle.vg_rules_sum.specs.Constant.{is_known_twice}
use Rattle.vg_rules_sum.specs.Rules.{first_row as first_sum_row, fold_constants, sort_chain, merge_constants, neutral_or_absorbing, same_operands}
use Rattle.vg_rules_width.specs.Rules.{first_row as first_width_row, truncate_truncate, truncate_extension, extend_extend, truncate_operation, truncate_selection, truncate_arithmetic_shift, truncate_logical_shift, shift_by_zero, shift_of_extension, shift_of_shift, narrow_product, narrow_extended_sum, sign_of_nonnegative, part_of_concatenation, zero_on_top}
use Rattle.vg_rules_choice.specs.Rules.{first_row as first_choice_row, both_known, may_read_signed, narrowed_choice, known_selection, negated_selection, selection_is_least_or_greatest, narrow_least_or_greatest, narrow_comparison}
use Rattle.vg_canon.specs.Canonical.{first_rule, HasCanonicalChildren}
use Rattle.vg_canon.specs.Step.{fills, is_at_rest}
use Rattle.vg_canon.proofs.Steps.{disordered-rule}

both_none : (a b : Option Tree) → a ≡ None → b ≡ None → option_or a b ≡ None
both_none (Some x) b e f = absurd (cc)
both_none None b e f = f

last_false : (p q r s : Bool) → s ≡ false → p && (q && (r && s)) ≡ false
last_false false q r s h = refl
last_false true false r s h = refl
last_false true true false s h = refl
last_false true true true s h = h

second_false : (p q : Bool) → q ≡ false → p && q ≡ false
second_false false q h = refl
second_false true q h = h

neutral-none : (op : TwoOp) (w : ℕ) (x y : Tree) → is_constant y ≡ false → neutral_or_absorbing (two op w x y) ≡ None
unfolding neutral_or_absorbing
neutral-none op w x (leaf v k) h = refl
neutral-none op w x (constant v n) h = absurd (cc)
neutral-none op w x (one o v k z) h = refl
neutral-none op w x (two o v z u) h = refl
neutral-none op w x (sel v c z u) h = refl

-- the operation over a chain that is in order and a part not before its last is in order
placed-in_order : (op o : TwoOp) (w v : ℕ) (a b y : Tree) → makes_chains op ≡ true → same_op op o ≡ true → opens op y ≡ false → not_after b y ≡ true → first_rule (two o v a b) ≡ None → is_disordered (two op w (two o v a b) y) ≡ false
placed-in_order op o w v a b y m s n l e =
    let same = same_op-same op o s in
    let still : is_disordered (two o v a b) ≡ false = elim (cases_Bool (is_disordered (two o v a b))) [ inl t ↦ absurd (disordered-rule (two o v a b) t e) | inr f ↦ f ] in
    let inner : in_order o a b ≡ true = not-false (in_order o a b) (sym (disordered-chain o a b (subst (λ p. makes_chains p ≡ true) same m)) ∙ still) in
    let below : in_order op a b ≡ true = subst (λ p. in_order p a b ≡ true) (sym same) inner in
    let leads : leads_to op (two o v a b) y ≡ not_after b y && in_order op a b = cond-true _ _ _ s in
    let whole : in_order op (two o v a b) y ≡ true = and_from _ _ (not_from_false (opens op y) n) (leads ∙ and_from _ _ l below) in
    disordered-chain op (two o v a b) y m ∙ not_from_true _ whole

placed-apart : (op o : TwoOp) (v : ℕ) (a b y : Tree) → same_op op o ≡ true → opens op y ≡ false → is_same_term (two o v a b) y ≡ false
placed-apart op o v a b y s n =
    elim (cases_Bool (is_same_term (two o v a b) y)) [
      | inl t ↦ absurd (let e : same_op op o ≡ opens op y = ap (opens op) (same_term (two o v a b) y t) in cc)
      | inr f ↦ f
    ]

-- no rule for sums
sums-none : (op o : TwoOp) (w v : ℕ) (a b y : Tree) → makes_chains op ≡ true → same_op op o ≡ true → is_constant y ≡ false → opens op y ≡ false → not_after b y ≡ true → first_rule (two o v a b) ≡ None → first_sum_row (two op w (two o v a b) y) ≡ None
unfolding fold_constants sort_chain merge_constants same_operands
sums-none op o w v a b y m s n closed l e =
    let t = two op w (two o v a b) y in
    let sorts : sort_chain t ≡ None = cond-false _ _ _ (placed-in_order op o w v a b y m s closed l e) in
    let merges : merge_constants t ≡ None = cond-false _ _ _ (last_false (makes_chains op) (same_op op o) (is_constant b) (is_constant y) n) in
    let same : same_operands t ≡ None = cond-false _ _ _ (second_false (is_known_twice op) _ (placed-apart op o v a b y s closed)) in
    both_none (fold_constants t) _ refl (both_none (sort_chain t) _ sorts (both_none (merge_constants t) _ merges (both_none (neutral_or_absorbing t) _ (neutral-none op w (two o v a b) y n) (both_none (same_operands t) None same refl))))

-- a number is not below one that is not above it
not_below : (n w : ℕ) → w ≤ n → nat_lt n w ≡ false
not_below n w h = elim (cases_Bool (nat_lt n w)) [ inl t ↦ absurd (let k = ltb-true n w t in omega arith) | inr f ↦ f ]

-- the last term of a product or of a choice needs all bits
record IsFull (w : ℕ) (y : Tree) : Type 0 where
  unsigned : w ≤ (known y).unsigned
  signed : w ≤ (known y).signed

full : (w : ℕ) (y : Tree) → nat_le w (known y).unsigned && nat_le w (known y).signed ≡ true → IsFull w y
full w y h = let p = and_parts (nat_le w (known y).unsigned) (nat_le w (known y).signed) h in record { unsigned = leb-true w (known y).unsigned p.0; signed = leb-true w (known y).signed p.1 }

neither : (b c : Bool) (v u : Tree) → b ≡ false → c ≡ false → (if b then Some v else if c then Some u else None) ≡ None
neither b c v u e f = cond-false b _ _ e ∙ cond-false c _ _ f

product-none : (w : ℕ) (x y : Tree) → IsFull w y → narrow_product (two Mul w x y) ≡ None
unfolding narrow_product
product-none w x y f =
    let k = known (two Mul w x y) in
    let u : w ≤ k.unsigned = omega (arith, f.unsigned) in
    let s : w ≤ k.signed = omega (arith, f.unsigned, f.signed) in
    neither _ _ _ _ (not_below k.unsigned w u) (not_below k.signed w s)

choice-none : (op : TwoOp) (w : ℕ) (x y : Tree) → IsFull w y → narrowed_choice op w (both_known x y) x y ≡ None
choice-none op w x y f =
    let k = both_known x y in
    let u : w ≤ k.unsigned = omega (arith, f.unsigned) in
    let s : w ≤ k.signed = omega (arith, f.signed) in
    neither _ _ _ _ (not_below k.unsigned w u) (second_false (may_read_signed op) _ (not_below k.signed w s))

-- no rule for widths, and none for choices
widths-none : (op : TwoOp) (w : ℕ) (x y : Tree) → makes_chains op ≡ true → fills op w y ≡ true → first_width_row (two op w x y) ≡ None
unfolding first_width_row truncate_truncate truncate_extension extend_extend truncate_operation truncate_selection truncate_arithmetic_shift truncate_logical_shift shift_by_zero shift_of_extension shift_of_shift narrow_product narrow_extended_sum sign_of_nonnegative part_of_concatenation zero_on_top
widths-none Add w x y c f = refl
widths-none Mul w x y c f = both_none (narrow_product (two Mul w x y)) None (product-none w x y (full w y f)) refl
widths-none And w x y c f = refl
widths-none Or w x y c f = refl
widths-none Xor w x y c f = refl
widths-none Smin w x y c f = refl
widths-none Smax w x y c f = refl
widths-none Umin w x y c f = refl
widths-none Umax w x y c f = refl
widths-none Eq w x y c f = absurd (cc)
widths-none Slt w x y c f = absurd (cc)
widths-none Ult w x y c f = absurd (cc)
widths-none Cat w x y c f = absurd (cc)

choices-none : (op : TwoOp) (w : ℕ) (x y : Tree) → makes_chains op ≡ true → fills op w y ≡ true → first_choice_row (two op w x y) ≡ None
unfolding known_selection negated_selection selection_is_least_or_greatest narrow_least_or_greatest narrow_comparison
choices-none Add w x y c f = refl
choices-none Mul w x y c f = refl
choices-none And w x y c f = refl
choices-none Or w x y c f = refl
choices-none Xor w x y c f = refl
choices-none Smin w x y c f = both_none _ None (choice-none Smin w x y (full w y f)) refl
choices-none Smax w x y c f = both_none _ None (choice-none Smax w x y (full w y f)) refl
choices-none Umin w x y c f = both_none _ None (choice-none Umin w x y (full w y f)) refl
choices-none Umax w x y c f = both_none _ None (choice-none Umax w x y (full w y f)) refl
choices-none Eq w x y c f = absurd (cc)
choices-none Slt w x y c f = absurd (cc)
choices-none Ult w x y c f = absurd (cc)
choices-none Cat w x y c f = absurd (cc)

placed : (op o : TwoOp) (w v : ℕ) (a b y : Tree) → is_at_rest (two op w (two o v a b) y) ≡ true → first_rule (two o v a b) ≡ None → first_rule (two op w (two o v a b) y) ≡ None
unfolding first_rule
placed op o w v a b y h e =
    let t = two op w (two o v a b) y in
    let p = and_parts (makes_chains op) _ h in
    let q = and_parts (same_op op o) _ p.1 in
    let r = and_parts (not (is_constant y)) _ q.1 in
    let s = and_parts (not (opens op y)) _ r.1 in
    let l = and_parts (not_after b y) (fills op w y) s.1 in
    both_none (first_sum_row t) _ (sums-none op o w v a b y p.0 q.0 (not-true (is_constant y) r.0) (not-true (opens op y) s.0) l.0 e)
    (both_none (first_width_row t) _ (widths-none op w (two o v a b) y p.0 l.1) (choices-none op w (two o v a b) y p.0 l.1))

pub at_rest-none : (t : Tree) → is_at_rest t ≡ true → HasCanonicalChildren t → first_rule t ≡ None
at_rest-none (two op w (two o v a b) y) h c = placed op o w v a b y h c.0.0
at_rest-none _ h c = absurd (cc)
