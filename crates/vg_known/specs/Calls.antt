-- The lanes of called instances as terms of what stands in registers.
use Rattle.std.specs.Prelude.{ℕ, Bool, true, false, List, [], ◌∷◌, ◌++◌, map, get_or, Option}
use Rattle.std.specs.List.{flat_map, list_any}
use Rattle.std.specs.Option.{option_map_or}
use Rattle.vg_bits.specs.Range.{range}
use Rattle.vg_terms.specs.declared.term.LeafKey.{LeafKey}
use Rattle.vg_terms.specs.Term.{Tree}
use Rattle.vg_canon.specs.Canonical.{canonical}
use Rattle.vg_shapes.specs.Fits.{replaced}
use Rattle.vg_shapes.specs.Lane.{Lane, known, big, dynamic}
use Rattle.vg_shapes.specs.Leaves.{bit_number}
use Rattle.vg_lift.specs.Gather.{Bit, bits_from, gather}
use Rattle.vg_lift.specs.Instances.{instance_lanes}
use Rattle.vg_catalog.specs.Called.{entry_named, imm_number}
use Rattle.vg_catalog.specs.Entries.{Entry}
use Rattle.vg_known.specs.Cuts.{built, cut_bits, met_with}

-- the lanes of the instance of an entry for an immediate
abbrev pub lanes_of : Entry → Option ℕ → List Lane
lanes_of e imm = instance_lanes e.header e.operation (imm_number imm)

-- a lane without a term
abbrev pub is_opaque : Lane → Bool
is_opaque (known t) = false
is_opaque big = true
is_opaque dynamic = true

-- whether a called instance has such a lane
abbrev pub calls_opaque : List Entry → List ℕ → Option ℕ → Bool
calls_opaque entries name imm =
    option_map_or (λ e. list_any is_opaque (lanes_of e imm)) (entry_named entries name) false

-- what a leaf of a lane reads of registers
abbrev pub read_leaf : List (List Bit) → ℕ → LeafKey → Tree
read_leaf registers w k = gather (range (bit_number k.second) w (get_or registers k.first []))

-- the term of a lane on registers
abbrev pub lane_on : List Tree → List (List Bit) → Tree → Tree
lane_on met registers t =
    let form = canonical t in
    built (replaced (read_leaf registers) form) (replaced (read_leaf (map (cut_bits met) registers)) form)

abbrev pub term_on : List Tree → List (List Bit) → Lane → List Tree
term_on met registers (known t) = lane_on met registers t ∷ []
term_on met registers big = []
term_on met registers dynamic = []

-- the terms of all lanes of a call, lane 0 first
abbrev pub call_terms : List Entry → List Tree → List ℕ → Option ℕ → List (List Bit) → List Tree
call_terms entries met name imm registers =
    option_map_or (λ e. flat_map (term_on met registers) (lanes_of e imm)) (entry_named entries name) []

-- the width of the lanes
abbrev pub lane_bits : List Entry → List ℕ → ℕ
lane_bits entries name =
    option_map_or (λ e. e.header.lane_width) (entry_named entries name) 0

-- the bits of terms of a width, one after the other
abbrev pub bits_of_terms : ℕ → List Tree → List Bit
bits_of_terms w [] = []
bits_of_terms w (t ∷ ts) = bits_from t 0 w ++ bits_of_terms w ts

-- the terms that were met, with these, the first one first
abbrev pub met_with_all : List Tree → List Tree → List Tree
met_with_all met [] = met
met_with_all met (t ∷ ts) = met_with_all (met_with met t) ts
