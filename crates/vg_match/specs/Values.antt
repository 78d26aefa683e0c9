-- What lanes are tried with: the terms of values, their cut terms and their names.
use Rattle.std.specs.Prelude.{ℕ, List, [], Option, map, slice_get}
use Rattle.std.specs.Option.{option_or}
use Rattle.vg_base.specs.Trap.{◌>>=◌}
use Rattle.vg_terms.specs.Term.{Tree, tree}
use Rattle.vg_shapes.specs.declared.match_table.Bound.{Bound}
use Rattle.vg_shapes.specs.declared.ssa.Ssa.{Ssa}
use Rattle.vg_shapes.specs.Sound.{cuts_of, terms_of}
use Rattle.vg_match.specs.declared.values.Values.{Values}
use Rattle.vg_match.specs.Fit.{fit, fit_turned}
use Rattle.vg_match.specs.Least.{AreByTerm}
use Rattle.vg_match.specs.Names.{names_of}

-- for each number the term of its value, its cut term and its name
pub record ValueTerms : Type 0 where
  pub terms : List Tree
  pub cuts : List Tree
  pub names : List Tree

abbrev pub of_kernel : Ssa → ValueTerms
of_kernel ssa = record { terms = terms_of ssa; cuts = cuts_of ssa; names = names_of ssa }

abbrev pub terms_by : Values → ValueTerms
terms_by values = record {
  terms = map tree values.whole.terms.now;
  cuts = map tree values.cuts.now;
  names = map tree values.named.terms.now;
}

-- the terms and the names are sorted
abbrev pub AreSearched : Values → Type 0
AreSearched values = AreByTerm values.whole × AreByTerm values.named

-- what the leaves of a lane are bound to where it fits the term of a value, by terms
abbrev pub fit_whole : ValueTerms → ℕ → Tree → Option (List Bound)
fit_whole values v p = slice_get values.terms v >>= λ t. fit values.terms v p t []

-- where it fits its cut term, by names
abbrev pub fit_cut : ValueTerms → ℕ → Tree → Option (List Bound)
fit_cut values v p = slice_get values.cuts v >>= λ t. fit values.names v p t []

-- where it fits its cut term turned, by names
abbrev pub fit_by_turn : ValueTerms → ℕ → Tree → Option (List Bound)
fit_by_turn values v p = slice_get values.cuts v >>= λ t. fit_turned values.names v p t []

-- by the first way in which it fits
abbrev pub fit_first : ValueTerms → ℕ → Tree → Option (List Bound)
fit_first values v p =
    option_or (fit_whole values v p) (option_or (fit_cut values v p) (fit_by_turn values v p))
