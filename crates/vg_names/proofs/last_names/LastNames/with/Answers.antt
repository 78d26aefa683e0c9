use Rattle.std.proofs.Common.{refl}
use Rattle.std.specs.Prelude.{vec_items}
use Rattle.vg_names.proofs.LastOfNames.{stays_last}
use Rattle.vg_names.proofs.last_names.LastNames.with.Goals as goal

pub invariant_of-result : goal.invariant_of-result
invariant_of-result c =
    rw (c.in_ok-push.ensures.items, c.in_ok-new.ensures, ← c.in_ok-from_slice.ensures.items, c.in_ok-insert.ensures.entries, c.as_slice-place.ensures.value)
    (stays_last vec_items _ (λ x y. refl) c.in_ok-from_slice.field-0 c.self.inside.names.items c.self.inside.places.entries c.self.invariant)
