-- One step at the root: it keeps value and width and lowers the measure, and a term out of order has one.
use Rattle.std.proofs.Common.{◌≡◌, ℕ, ◌⊎◌, true, false, refl, arith, inl, inr}
use Rattle.std.specs.Prelude.{Option, Some, None, is_some}
use Rattle.std.specs.Option.{option_or}
use Rattle.std.proofs.lemmas.Bool.{cond-true}
use Rattle.vg_terms.specs.Chain.{is_disordered}
use Rattle.vg_terms.specs.Table.{IsSound}
use Rattle.vg_terms.specs.declared.term.LeafKey.{LeafKey}
use Rattle.vg_terms.specs.Term.{Tree, leaf, constant, WellFormed}
use Rattle.vg_terms.proofs.Measures.{weight_some}
use Rattle.vg_terms.proofs.Tables.{either}
use Rattle.vg_rules_sum.specs.Rules.{first_row as first_sum_row, put_in_order, sort_chain}
use Rattle.vg_rules_width.specs.Rules.{first_row as first_width_row}
use Rattle.vg_rules_choice.specs.Rules.{first_row as first_choice_row}
use Rattle.vg_rules_sum.specs.Laws.{first_row-sound as sum-sound}
use Rattle.vg_rules_width.specs.Laws.{first_row-sound as width-sound}
use Rattle.vg_rules_choice.specs.Laws.{first_row-sound as choice-sound}
use Rattle.vg_canon.specs.Canonical.{first_rule}

pub rule-sound : IsSound first_rule
unfolding first_rule
rule-sound old new g e =
    elim (either (first_sum_row old) _ new e) [
      | inl f ↦ sum-sound old new g f
      | inr f ↦ elim (either (first_width_row old) _ new f) [ inl h ↦ width-sound old new g h | inr h ↦ choice-sound old new g h ]
    ]

pub none_first : (a b : Option Tree) → option_or a b ≡ None → a ≡ None
none_first (Some y) b f = absurd (cc)
none_first None b f = refl

pub none_second : (a b : Option Tree) → option_or a b ≡ None → b ≡ None
none_second (Some y) b f = absurd (cc)
none_second None b f = f

apart : (o : Option Tree) (x : Tree) → o ≡ Some x → o ≡ None → ⊥
apart o x e f = cc

-- where no rule applies, the term is in order
pub disordered-rule : (t : Tree) → is_disordered t ≡ true → first_rule t ≡ None → ⊥
unfolding first_rule sort_chain
disordered-rule t d e =
    let sums : first_sum_row t ≡ None = none_first _ _ e in
    let none : sort_chain t ≡ None = none_first _ _ (none_second _ _ sums) in
    apart (sort_chain t) (put_in_order t) (cond-true _ _ _ d) none

-- a rule applies, or none does
pub either_rule : (o : Option Tree) → ((new : Tree) × (o ≡ Some new)) ⊎ (o ≡ None)
either_rule (Some new) = inl (new, refl)
either_rule None = inr refl

-- no rule applies at a constant, which is as light as a term can be
pub constant-finished : (w v : ℕ) → WellFormed (constant w v) → first_rule (constant w v) ≡ None
constant-finished w v g =
    elim (either_rule (first_rule (constant w v))) [
      | inl p ↦ absurd (let f = (rule-sound (constant w v) p.0 g p.1).falls in elim f [ inl l ↦ omega (arith, weight_some p.0) | inr q ↦ omega (arith, q.1) ])
      | inr e ↦ e
    ]

-- nor at a leaf
pub leaf-finished : (w : ℕ) (key : LeafKey) → WellFormed (leaf w key) → first_rule (leaf w key) ≡ None
leaf-finished w key g =
    elim (either_rule (first_rule (leaf w key))) [
      | inl p ↦ absurd (let f = (rule-sound (leaf w key) p.0 g p.1).falls in elim f [ inl l ↦ omega (arith, weight_some p.0) | inr q ↦ omega (arith, q.1) ])
      | inr e ↦ e
    ]

-- the first rule where one of the first table applies
pub sum_first : (old new : Tree) → first_sum_row old ≡ Some new → first_rule old ≡ Some new
unfolding first_rule
sum_first old new e = rw e refl

none_of : (o : Option Tree) → is_some o ≡ false → o ≡ None
none_of (Some x) h = absurd (cc)
none_of None h = refl

-- of the second table, and of the third
pub width_first : (old new : Tree) → is_some (first_sum_row old) ≡ false → first_width_row old ≡ Some new → first_rule old ≡ Some new
unfolding first_rule
width_first old new n e = rw (none_of (first_sum_row old) n, e) refl

pub choice_first : (old new : Tree) → is_some (first_sum_row old) ≡ false → is_some (first_width_row old) ≡ false → first_choice_row old ≡ Some new → first_rule old ≡ Some new
unfolding first_rule
choice_first old new n m e = rw (none_of (first_sum_row old) n, none_of (first_width_row old) m, e) refl
