use Rattle.std.proofs.Common.{◌≡◌, length, false}
use Rattle.std.specs.Prelude.{slice_get, unwrap_or}
use Rattle.std.specs.List.{filter_map}
use Rattle.vg_shapes.specs.Layout.{noalias_of}
use Rattle.vg_deps.proofs.layouts.is_noalias.Given as goal

abbrev pub invariant-params : goal.invariant-params
invariant-params l =
    unwrap_or (slice_get (filter_map (λ p. noalias_of p.kind) l.rest) l.left) false
    ≡ unwrap_or (slice_get (filter_map (λ p. noalias_of p.kind) l.initial.rest) l.initial.left) false

abbrev pub decreases-params : goal.decreases-params
decreases-params l = length l.rest
