-- Lanes sorted by the roots of their terms.
use Rattle.std.proofs.Common.{◌≡◌, List, get_or, inl, inr, arith}
use Rattle.std.specs.Prelude.{◌&&◌, not}
use Rattle.std.specs.Cmp.{IsTotalOrder, IsStrictWeakOrder}
use Rattle.std.specs.List.Sorted.{IsPartitionedBy, ties}
use Rattle.std.proofs.lemmas.Bool.{cases_Bool, both_ways, not-true, not_from_false}
use Rattle.std.proofs.lemmas.Bool.Decides.{nat_tests}
use Rattle.std.proofs.lemmas.Cmp.{nat_cmp_total, on_total, then_total}
use Rattle.std.proofs.lemmas.List.Sorted.{ranks_by, sorted_far}
use Rattle.vg_match.specs.declared.lane_list.LaneAt.{LaneAt}
use Rattle.vg_match.specs.declared.root.Root.{Root}
use Rattle.vg_match.specs.LaneList.{has_root, is_before, IsByRoot, root_cmp}

root_total : IsTotalOrder root_cmp
root_total = then_total (on_total (λ r. r.tag) nat_cmp_total) (then_total (on_total (λ r. r.width) nat_cmp_total) (on_total (λ r. r.amount) nat_cmp_total))

pub before-orders : IsStrictWeakOrder is_before
before-orders = ranks_by root_total (λ (x : LaneAt). x.root)

-- a lane of a root
abbrev pub lane_with : Root → LaneAt
lane_with r = record { root = r; description = 0; lane = 0 }

pub same-root : (r : Root) (x : LaneAt) → has_root r x ≡ ties is_before (lane_with r) x
same-root r x = grind (arith, nat_tests)

pub between : (r : Root) (x : LaneAt) → has_root r x ≡ (not (is_before x (lane_with r)) && not (is_before (lane_with r) x))
between r x = grind (arith, nat_tests)

-- those before a lane, and those not after it, are a front of sorted lanes
pub front-before : (e : LaneAt) (xs : List LaneAt) → IsByRoot xs → IsPartitionedBy (λ x. is_before x e) xs
front-before e xs s i j d le l t = elim (cases_Bool (is_before (get_or xs i d) e)) [
  | inl u ↦ u
  | inr f ↦ absurd (both_ways (is_before (get_or xs j d) e) (before-orders.chain (get_or xs j d) (get_or xs i d) e (sorted_far is_before before-orders xs s i j d le l) f) t)
]

pub front-not_behind : (e : LaneAt) (xs : List LaneAt) → IsByRoot xs → IsPartitionedBy (λ x. not (is_before e x)) xs
front-not_behind e xs s i j d le l t =
    not_from_false (is_before e (get_or xs i d)) (before-orders.chain e (get_or xs j d) (get_or xs i d) (not-true (is_before e (get_or xs j d)) t) (sorted_far is_before before-orders xs s i j d le l))
