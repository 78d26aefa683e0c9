-- The leaf of a lane, as the code has lanes.
use Rattle.std.proofs.Common.{◌≡◌, ◌<◌, ◌≤◌, ◌++◌, ℕ, List, Some, length, get_or, map, slice_get, sym, ap, ◌∙◌}
use Rattle.std.specs.Option.{option_map}
use Rattle.std.proofs.lemmas.List.{append-nil}
use Rattle.std.proofs.lemmas.Option.{slice_get-get_or, slice_get-map, slice_get_past}
use Rattle.vg_terms.specs.declared.term.Term.{Term}
use Rattle.vg_terms.specs.Term.{tree}
use Rattle.vg_shapes.specs.declared.operand.Slot.{Slot}
use Rattle.vg_kernel_plans.specs.Shuffles.{moved_leaf}

pub lane_none : (lanes : List Term) (k : ℕ) (s : Slot) (moved : List (ℕ × Slot)) → length lanes ≤ k
    → moved ≡ moved ++ moved_leaf (slice_get (map tree lanes) k) s
lane_none lanes k s moved past =
    sym (ap (λ o. moved ++ moved_leaf o s) (slice_get-map tree lanes k ∙ ap (option_map tree) (slice_get_past lanes k past))
    ∙ append-nil moved)

pub lane_some : (lanes : List Term) (k : ℕ) (s : Slot) (t : Term) (moved : List (ℕ × Slot)) → k < length lanes
    → t ≡ get_or lanes k t
    → moved ++ moved_leaf (Some (tree t)) s ≡ moved ++ moved_leaf (slice_get (map tree lanes) k) s
lane_some lanes k s t moved inside is =
    sym (ap (λ o. moved ++ moved_leaf o s) (slice_get-map tree lanes k
    ∙ ap (option_map tree) (slice_get-get_or lanes k t inside ∙ ap (λ u. Some u) (sym is))))
