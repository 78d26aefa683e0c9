use Rattle.std.proofs.Common.{◌≡◌, Some, map, slice_get, sym, subst}
use Rattle.vg_script.specs.Views.{whole_of}
use Rattle.vg_pmean.specs.Applied.{IsReady}
use Rattle.vg_pmean.proofs.prepared.Prepared.from_instances.Goals as goal

pub invariant_of-result : goal.invariant_of-result
invariant_of-result c = record {
  ready = λ k i is. subst (λ r. IsReady r (whole_of i)) (sym c.in_ok-frames.ensures)
      (c.room_of-room.ensures k i (subst (λ l. slice_get (map (λ j. j.whole) l) k ≡ Some i) (sym c.deref-2.ensures.value) is));
}
