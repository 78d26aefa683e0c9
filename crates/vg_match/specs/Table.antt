-- The matches of all lanes with all values, as they are found: value by value, and for each value
-- lane by lane.
use Rattle.std.specs.Prelude.{ℕ, zero, suc, ◌+◌, List, [], ◌++◌, Option, length, map, max, slice_get}
use Rattle.std.specs.List.{filter_map}
use Rattle.std.specs.Option.{option_map}
use Rattle.vg_base.specs.Trap.{◌>>=◌}
use Rattle.vg_terms.specs.Term.{Tree, tree}
use Rattle.vg_shapes.specs.declared.description.Description.{Description as Declared}
use Rattle.vg_shapes.specs.declared.match_table.Match.{Match}
use Rattle.vg_match.specs.declared.lane_list.LaneAt.{LaneAt}
use Rattle.vg_match.specs.LaneList.{all_lanes, lanes_near}
use Rattle.vg_match.specs.Values.{fit_first, ValueTerms}

-- the terms of the lanes of descriptions
abbrev pub lane_trees : List Declared → List (List Tree)
lane_trees descriptions = map (λ d. map tree d.lanes) descriptions

abbrev pub lane_term : List (List Tree) → LaneAt → Option Tree
lane_term lanes x = slice_get lanes x.description >>= λ ts. slice_get ts x.lane

-- the match of a lane with a value of this number, if they fit
abbrev pub match_of : List (List Tree) → ValueTerms → ℕ → LaneAt → Option Match
match_of lanes values v x =
    option_map
    (λ bound. record { description = x.description; lane = x.lane; value = v; bound = bound })
    (lane_term lanes x >>= fit_first values v)

-- the matches of a value with these lanes, of which those are tried that have the root of its term
-- or of its cut term
abbrev pub value_matches : List (List Tree) → ValueTerms → List LaneAt → ℕ → List Match
value_matches lanes values all v =
    filter_map (match_of lanes values v)
    (lanes_near all (slice_get values.terms v) (slice_get values.cuts v))

-- those of so many values, the first having this number
abbrev pub matches_from : List (List Tree) → ValueTerms → List LaneAt → ℕ → ℕ → List Match
matches_from lanes values all v zero = []
matches_from lanes values all v (suc n) =
    value_matches lanes values all v ++ matches_from lanes values all (v + 1) n

-- how many values have a term or a cut term
abbrev pub count_of : ValueTerms → ℕ
count_of values = max (length values.terms) (length values.cuts)

-- all matches
abbrev pub matches_of : List (List Tree) → ValueTerms → List Match
matches_of lanes values = matches_from lanes values (all_lanes 0 lanes) 0 (count_of values)
