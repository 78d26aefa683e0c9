-- What becomes of the lanes of an instance: a description, or the first cause why it has none.
use Rattle.std.specs.Prelude.{◌≡◌, ℕ, ◌*◌, Bool, true, false, List, [], ◌∷◌, length, map, flat_map, Option, Some, None, if◌then◌else◌}
use Rattle.std.specs.List.{AllByRecursion, list_any}
use Rattle.vg_pseudo.specs.declared.header.Header.{Header}
use Rattle.vg_pseudo.specs.declared.header.ImmRange.{ImmRange}
use Rattle.vg_terms.specs.Term.{Tree}
use Rattle.vg_canon.specs.Canonical.{canonical}
use Rattle.vg_shapes.specs.declared.leaf.Leaf.{Leaf}
use Rattle.vg_shapes.specs.Description.{Description, IsLane, IsPackable, description_of}
use Rattle.vg_shapes.specs.Lane.{Lane, known, big, dynamic, lane_of}
use Rattle.vg_shapes.specs.Leaves.{is_odd, leaves, some_clash}
use Rattle.vg_lanes.specs.declared.cause.Cause.{Cause}
use Rattle.vg_lanes.specs.declared.cause.Cause.TheVariants.{Dynamic, TooLarge, OddLeaf, MixedInput}
use Rattle.vg_lanes.specs.declared.described.Described as declared
use Rattle.vg_lanes.specs.declared.described.Described.TheVariants.{Packable, NotPackable}

abbrev pub canonical_lane : Lane → Lane
canonical_lane (known t) = known (canonical t)
canonical_lane big = big
canonical_lane dynamic = dynamic

abbrev pub is_dynamic : Lane → Bool
is_dynamic dynamic = true
is_dynamic _ = false

abbrev pub is_big : Lane → Bool
is_big big = true
is_big _ = false

-- the term of a lane, where it has one
abbrev pub term_of : Lane → List Tree
term_of (known t) = t ∷ []
term_of _ = []

abbrev pub terms_of : List Lane → List Tree
terms_of lanes = flat_map term_of lanes

-- the first cause that the leaves of the canonical terms give
abbrev pub cause_of_leaves : List Leaf → Option Cause
cause_of_leaves ls =
    if list_any is_odd ls then Some OddLeaf
    else if some_clash ls then Some MixedInput
    else None

-- the first cause that holds of lanes whose terms are canonical
abbrev pub cause_of : List Lane → Option Cause
cause_of lanes =
    if list_any is_dynamic lanes then Some Dynamic
    else if list_any is_big lanes then Some TooLarge
    else cause_of_leaves (flat_map leaves (terms_of lanes))

-- the widths of the parameters
abbrev pub registers : Header → List ℕ
registers header = map (λ p. p.register) header.params

-- the immediate, where the entry has one
abbrev pub immediate : Option ImmRange → ℕ → Option ℕ
immediate (Some range) imm = Some imm
immediate None imm = None

abbrev pub description : Header → ℕ → List Lane → Description
description header imm lanes = record {
  name = header.name;
  imm = immediate header.imm imm;
  cost = header.cost;
  params = registers header;
  register = header.register;
  lane_width = header.lane_width;
  lanes = terms_of lanes;
}

pub data Described : Type 0 where
  packable : Description → Described
  not_packable : List Lane → Cause → Described

abbrev pub by_cause : Header → ℕ → List Lane → Option Cause → Described
by_cause header imm lanes None = packable (description header imm lanes)
by_cause header imm lanes (Some cause) = not_packable lanes cause

-- the lanes with canonical terms; they are a description where no cause holds
abbrev pub described : Header → ℕ → List Lane → Described
described header imm lanes =
    let forms = map canonical_lane lanes in by_cause header imm forms (cause_of forms)

abbrev pub described_of : declared.Described → Described
described_of (Packable d) = packable (description_of d)
described_of (NotPackable lanes cause) = not_packable (map lane_of lanes) cause

-- what a lane of an instance of this entry may be
abbrev pub MayBeLane : Header → Lane → Type 0
MayBeLane header (known t) = IsLane (registers header) header.lane_width t
MayBeLane header _ = Unit {0}

-- the lanes of an instance of this entry
pub record AreLanes (header : Header) (lanes : List Lane) : Type 0 where
  pub fill : length lanes * header.lane_width ≡ header.register
  pub each : AllByRecursion (MayBeLane header) lanes

-- a description promises what packs stand on
abbrev pub IsKept : Described → Type 0
IsKept (packable d) = IsPackable d
IsKept (not_packable lanes cause) = Unit {0}
