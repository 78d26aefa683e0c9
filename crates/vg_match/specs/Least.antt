-- The least value that has a term.
use Rattle.std.specs.Prelude.{◌≡◌, ℕ, ◌+◌, Bool, List, [], ◌∷◌, Option, position, filter, map}
use Rattle.std.specs.List.Sorted.{IsSortedBy}
use Rattle.std.specs.Ordering.{is_lt}
use Rattle.vg_terms.specs.Order.{is_same_term, order}
use Rattle.vg_terms.specs.Term.{Tree, tree}
use Rattle.vg_match.specs.declared.least.LeastValues.{LeastValues}
use Rattle.vg_match.specs.declared.least.ValueTerm.{ValueTerm}

-- the least value with a term, where the terms of all values are given in order
abbrev pub least_with : List Tree → Tree → Option ℕ
least_with terms t = position (is_same_term t) terms

-- terms with their values, the first of which has this number
abbrev pub numbered : ℕ → List Tree → List (Tree × ℕ)
numbered v [] = []
numbered v (t ∷ ts) = (t, v) ∷ numbered (v + 1) ts

-- a value has a term
abbrev pub has_term : Tree → ValueTerm → Bool
has_term t x = is_same_term t (tree x.term.now)

-- the term of the first stands before that of the second
abbrev pub is_before : ValueTerm → ValueTerm → Bool
is_before a b = is_lt (order (tree a.term.now) (tree b.term.now))

abbrev pub pair_of : ValueTerm → Tree × ℕ
pair_of x = (tree x.term.now, x.value)

-- The values are sorted by their terms, and of each term they stand by number.
pub record AreSorted (terms : List Tree) (sorted : List ValueTerm) : Type 0 where
  pub order : IsSortedBy is_before sorted
  pub values : List ValueTerm
  pub all : map pair_of values ≡ numbered 0 terms
  pub groups : (x : ValueTerm) →
      filter (has_term (tree x.term.now)) sorted ≡ filter (has_term (tree x.term.now)) values

abbrev pub AreByTerm : LeastValues → Type 0
AreByTerm values = AreSorted (map tree values.terms.now) values.sorted.items
