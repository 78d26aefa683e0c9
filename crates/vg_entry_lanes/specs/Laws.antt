-- What the lanes of the instances of entries promise.
use Rattle.std.specs.Prelude.{◌≡◌, ◌*◌, ℕ, List, length, map}
use Rattle.std.specs.List.{AllByRecursion}
use Rattle.vg_pseudo.specs.declared.header.Header.{Header}
use Rattle.vg_pseudo.specs.Tree.{Operation}
use Rattle.vg_shapes.specs.declared.lane.Lane.{Lane}
use Rattle.vg_shapes.specs.Lane.{lane_of}
use Rattle.vg_lanes.specs.Described.{AreLanes}
use Rattle.vg_lift.specs.Instances.{HasLanes, MeanLanes}
use Rattle.vg_catalog.specs.Entries.{Entry}
use Rattle.vg_catalog.specs.FileEntries.{IsFileHeader}

-- lanes fill the results of entries
abbrev pub HaveLanes : List Entry → Type 0
HaveLanes entries = AllByRecursion (λ e. HasLanes e.header) entries

-- so of the entries of files
abbrev pub FileHeadersHaveLanes : Type 0
FileHeadersHaveLanes = (h : Header) → IsFileHeader h → HasLanes h

-- lanes that are lifted of an instance, and fill its result, are lanes that can be described
abbrev pub LiftedAreLanes : Type 0
LiftedAreLanes =
    (h : Header) (o : Operation) (imm : ℕ) (lanes : List Lane) →
    MeanLanes h o imm 0 (map lane_of lanes) → length lanes * h.lane_width ≡ h.register →
    AreLanes h (map lane_of lanes)
