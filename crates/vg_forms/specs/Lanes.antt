-- What the leaves of a lane read of runs.
use Rattle.std.specs.Prelude.{ℕ, List, [], map, get_or, slice_get}
use Rattle.std.specs.Option.{option_map_or}
use Rattle.vg_bits.specs.Range.{range}
use Rattle.vg_terms.specs.declared.term.LeafKey.{LeafKey}
use Rattle.vg_terms.specs.Term.{Tree}
use Rattle.vg_shapes.specs.Fits.{replaced}
use Rattle.vg_shapes.specs.Leaves.{bit_number}
use Rattle.vg_lift.specs.Gather.{Bit, gather}
use Rattle.vg_known.specs.Cuts.{cut_bits}
use Rattle.vg_forms.specs.declared.run.Run.{Run}
use Rattle.vg_forms.specs.declared.lane.Parts.{Parts}
use Rattle.vg_forms.specs.declared.lane.Parts.TheVariants.{Whole, Cut}
use Rattle.vg_forms.specs.Runs.{bits_in}

-- the register of a number among these, which are given by their numbers among all
abbrev pub register_at : List (List Run) → List ℕ → ℕ → List Run
register_at vectors vs p = option_map_or (λ v. get_or vectors v []) (slice_get vs p) []

-- the bits of these registers
abbrev pub registers_of : List (List Run) → List ℕ → List (List Bit)
registers_of vectors vs = map (λ v. get_or (map bits_in vectors) v []) vs

abbrev pub leaf_bits : List (List Run) → List ℕ → ℕ → LeafKey → List Bit
leaf_bits vectors vs w k = range (bit_number k.second) w (bits_in (register_at vectors vs k.first))

abbrev pub parted : Parts → List Tree → List Bit → List Bit
parted Whole met bs = bs
parted Cut met bs = cut_bits met bs

-- the term that a leaf reads
abbrev pub leaf_term : Parts → List Tree → List (List Run) → List ℕ → ℕ → LeafKey → Tree
leaf_term parts met vectors vs w k = gather (parted parts met (leaf_bits vectors vs w k))

-- a lane whose leaves read registers
abbrev pub lane_term : Parts → List Tree → List (List Run) → List ℕ → Tree → Tree
lane_term parts met vectors vs t = replaced (leaf_term parts met vectors vs) t
