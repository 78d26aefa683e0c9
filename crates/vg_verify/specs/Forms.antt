-- The lanes of calls, by their canonical terms.
use Rattle.std.specs.Prelude.{ℕ, List, [], ◌∷◌, map, Option}
use Rattle.std.specs.List.{flat_map}
use Rattle.std.specs.Option.{option_map_or}
use Rattle.vg_terms.specs.Term.{Tree}
use Rattle.vg_canon.specs.Canonical.{canonical}
use Rattle.vg_shapes.specs.Fits.{replaced}
use Rattle.vg_shapes.specs.Lane.{Lane, known, big, dynamic}
use Rattle.vg_lift.specs.Gather.{Bit}
use Rattle.vg_catalog.specs.Called.{entry_named}
use Rattle.vg_catalog.specs.Entries.{Entry}
use Rattle.vg_known.specs.Calls.{lanes_of, read_leaf}
use Rattle.vg_known.specs.Cuts.{built, cut_bits}

-- the canonical term of a lane, where it has a term
abbrev pub form_of : Lane → List Tree
form_of (known t) = canonical t ∷ []
form_of big = []
form_of dynamic = []

-- those of lanes, lane 0 first
abbrev pub forms_of : List Lane → List Tree
forms_of lanes = flat_map form_of lanes

-- those of the lanes of what is called
abbrev pub called_forms : List Entry → List ℕ → Option ℕ → List Tree
called_forms entries name imm =
    option_map_or (λ e. forms_of (lanes_of e imm)) (entry_named entries name) []

-- the term of a lane with this canonical term on registers
abbrev pub form_on : List Tree → List (List Bit) → Tree → Tree
form_on met registers form =
    built (replaced (read_leaf registers) form)
    (replaced (read_leaf (map (cut_bits met) registers)) form)
