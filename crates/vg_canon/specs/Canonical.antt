-- The canonical form of a term: its children are canonical, and no rule applies at its root.
use Rattle.std.specs.Prelude.{◌≡◌, ℕ, zero, suc, Option, None}
use Rattle.std.specs.Option.{option_or, option_map_or}
use Rattle.vg_terms.specs.declared.term.LeafKey.{LeafKey}
use Rattle.vg_terms.specs.Term.{Tree, leaf, constant, one, two, sel, WellFormed}
use Rattle.vg_terms.specs.Measure.{Settles, measure}
use Rattle.vg_terms.specs.Rule.{Keeps}
use Rattle.vg_rules_sum.specs.Rules.{first_row as first_sum_row}
use Rattle.vg_rules_width.specs.Rules.{first_row as first_width_row}
use Rattle.vg_rules_choice.specs.Rules.{first_row as first_choice_row}

-- what the first rule that applies makes of a term: first the rules for sums, then those for widths, then
-- those for choices
unfoldable pub first_rule : Tree → Option Tree
first_rule t = option_or (first_sum_row t) (option_or (first_width_row t) (first_choice_row t))

-- the term over what f makes of its children
abbrev pub over_children : (Tree → Tree) → Tree → Tree
over_children f (leaf w k) = leaf w k
over_children f (constant w v) = constant w v
over_children f (one op w k x) = one op w k (f x)
over_children f (two op w x y) = two op w (f x) (f y)
over_children f (sel w c x y) = sel w (f c) (f x) (f y)

-- what f makes of the result of the first rule that applies; where none does, the term
abbrev pub at_root : (Tree → Tree) → Tree → Tree
at_root f t = option_map_or f (first_rule t) t

-- children first, then the first rule at the root and again what it gives, in at most so many rounds
unfoldable pub canonical_within : ℕ → Tree → Tree
canonical_within zero t = t
canonical_within (suc rounds) t = at_root (canonical_within rounds) (over_children (canonical_within rounds) t)

-- the canonical form of a term: each round lowers the measure, so these rounds are enough
unfoldable pub canonical : Tree → Tree
canonical t = canonical_within (suc (measure t)) t

-- no rule applies at the term, nor at any subterm
abbrev pub IsCanonical : Tree → Type 0
IsCanonical (leaf w k) = first_rule (leaf w k) ≡ None
IsCanonical (constant w v) = first_rule (constant w v) ≡ None
IsCanonical (one op w k x) = (first_rule (one op w k x) ≡ None) × IsCanonical x
IsCanonical (two op w x y) = (first_rule (two op w x y) ≡ None) × IsCanonical x × IsCanonical y
IsCanonical (sel w c x y) = (first_rule (sel w c x y) ≡ None) × IsCanonical c × IsCanonical x × IsCanonical y

abbrev pub HasCanonicalChildren : Tree → Type 0
HasCanonicalChildren (leaf w k) = Unit {0}
HasCanonicalChildren (constant w v) = Unit {0}
HasCanonicalChildren (one op w k x) = IsCanonical x
HasCanonicalChildren (two op w x y) = IsCanonical x × IsCanonical y
HasCanonicalChildren (sel w c x y) = IsCanonical c × IsCanonical x × IsCanonical y

-- the new term has width and value of the old one, is that term or has a lesser measure, and is canonical
pub record Settled (old new : Tree) : Type 0 where
  pub keeps : Keeps old new
  pub settles : Settles old new
  pub is_canonical : IsCanonical new

-- what the canonical form is: children first, then the first rule that applies at the root and the canonical
-- form of what it gives; where none applies, the term over those children
abbrev pub IsChildrenFirst : Type 0
IsChildrenFirst = (t : Tree) → WellFormed t → canonical t ≡ at_root canonical (over_children canonical t)

-- no rule applies at a leaf or a constant
pub record LeavesAreCanonical : Type 0 where
  pub leaves : (w : ℕ) (key : LeafKey) → WellFormed (leaf w key) → IsCanonical (leaf w key)
  pub constants : (w v : ℕ) → WellFormed (constant w v) → IsCanonical (constant w v)
