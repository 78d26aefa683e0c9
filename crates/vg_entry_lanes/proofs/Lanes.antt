-- The lanes that are lifted are lanes of their entry.
use Rattle.std.proofs.Common.{ℕ, ◌+◌, ◌*◌, List, [], ◌∷◌, map, ◌∙◌, ap}
use Rattle.std.specs.List.{AllByRecursion}
use Rattle.std.proofs.lemmas.List.{length-map}
use Rattle.vg_pseudo.specs.declared.header.Header.{Header}
use Rattle.vg_pseudo.specs.Tree.{Operation}
use Rattle.vg_shapes.specs.Lane.{Lane, known, big, dynamic, lane_of}
use Rattle.vg_lanes.specs.Described.{MayBeLane}
use Rattle.vg_lift.specs.Instances.{MeanLanes, MeansLane}
use Rattle.vg_entry_lanes.specs.Laws.{LiftedAreLanes}

may-be : (h : Header) (o : Operation) (imm lane : ℕ) (l : Lane) → MeansLane h o imm lane l → MayBeLane h l
may-be h o imm lane (known t) m = m.is_lane
may-be h o imm lane big m = tt
may-be h o imm lane dynamic m = tt

pub all-may-be : (h : Header) (o : Operation) (imm lane : ℕ) (ls : List Lane) → MeanLanes h o imm lane ls
    → AllByRecursion (MayBeLane h) ls
all-may-be h o imm lane [] m = tt
all-may-be h o imm lane (l ∷ ls) m = (may-be h o imm lane l m.0, all-may-be h o imm (lane + 1) ls m.1)

pub are_lanes : LiftedAreLanes
are_lanes h o imm ls m e = record {
  fill = ap (λ n. n * h.lane_width) (length-map ls lane_of) ∙ e;
  each = all-may-be h o imm 0 (map lane_of ls) m;
}
