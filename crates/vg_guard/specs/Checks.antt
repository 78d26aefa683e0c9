-- The checks of a kernel: which bytes have to be apart so that its accesses through two pointers
-- are.
use Rattle.std.specs.Prelude.{ℕ, zero, suc, ◌+◌, ◌-◌, ◌&&◌, ◌||◌, Bool, false, not, List, [], ◌∷◌, length, ℤ, pos, ◌+ℤ◌, ◌-ℤ◌, int_le, nat_abs, Option, Some, None, slice_get, slice_index, unwrap_or, if◌then◌else◌}
use Rattle.std.specs.List.{list_all, filter_map, flat_map}
use Rattle.vg_base.specs.Trap.{◌>>=◌}
use Rattle.vg_kernel.specs.Tree.{Tree}
use Rattle.vg_kernel.specs.WellFormed.{pointers}
use Rattle.vg_kernel.specs.Layout.{noalias_flags}
use Rattle.vg_guard.specs.declared.check.Check.{Check}
use Rattle.vg_guard.specs.declared.reach.Reach.{Reach}
use Rattle.vg_guard.specs.Reaching.{reach_of}

-- ---- which checks a kernel has

-- a pointer that is not `noalias`
abbrev pub is_plain : Tree → ℕ → Bool
is_plain k p = not (unwrap_or (slice_get (noalias_flags k) p) false)

-- of each of two pointers all bytes that are reached, from the least offset on
abbrev pub check_between : ℕ → Reach → ℕ → Reach → Check
check_between p r q s = record {
  first = p;
  first_low = r.low;
  first_len = nat_abs (r.high -ℤ r.low);
  second = q;
  second_low = s.low;
  second_len = nat_abs (s.high -ℤ s.low);
}

-- of two pointers, where neither is `noalias`, both are accessed, and an access through one writes
abbrev pub check_of : Tree → ℕ → ℕ → Option Check
check_of k p q =
    reach_of k p >>= λ r.
    reach_of k q >>= λ s.
    if is_plain k p && is_plain k q && (r.writes || s.writes) then Some (check_between p r q s)
    else None

-- so many numbers, from the first on
unfoldable pub numbers_from : ℕ → ℕ → List ℕ
numbers_from first zero = []
numbers_from first (suc n) = first ∷ numbers_from (first + 1) n

-- of a pointer with each after it, where there are n
abbrev pub checks_with : Tree → ℕ → ℕ → List Check
checks_with k n p = filter_map (check_of k p) (numbers_from (p + 1) (n - (p + 1)))

-- of all pairs of pointers, in the order of the parameters
unfoldable pub checks_of : Tree → List Check
checks_of k =
    let n = length (pointers k.params) in
    flat_map (checks_with k n) (numbers_from 0 n)

-- ---- when checks hold

-- where a range begins
abbrev pub begin_of : List ℕ → ℕ → ℤ → ℤ
begin_of places p low = pos (slice_index places p) +ℤ low

-- one of the two ranges ends before the other begins, or where it begins, as exact whole numbers
abbrev pub holds : List ℕ → Check → Bool
holds places c =
    int_le (begin_of places c.first c.first_low +ℤ pos c.first_len)
    (begin_of places c.second c.second_low)
    || int_le (begin_of places c.second c.second_low +ℤ pos c.second_len)
    (begin_of places c.first c.first_low)

abbrev pub all_hold : List ℕ → List Check → Bool
all_hold places checks = list_all (holds places) checks
