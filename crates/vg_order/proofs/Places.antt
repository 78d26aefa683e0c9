-- Where units stand in lists of what has units.
use Rattle.std.proofs.Common.{◌≡◌, ℕ, zero, suc, ◌<◌, List, [], ◌∷◌, length, refl, ap, inl, inr, arith}
use Rattle.std.specs.Prelude.{slice_index_or}
use Rattle.vg_shapes.specs.Order.{all_units, count_of, Stands}
use Rattle.vg_order.proofs.Counts.{count_of-append, stands-append}

-- where a unit stands
pub found-at : {N : Type 0} (units : N → List ℕ) (d : N) (x : ℕ) (ns : List N) → Stands x (all_units units ns) → (k : ℕ) × (k < length ns) × Stands x (units (slice_index_or ns k d))
found-at units d x [] s = absurd (omega arith)
found-at units d x (n ∷ ns) s = elim (stands-append x (units n) (all_units units ns) s) [
  | inl here ↦ (0, omega arith, here)
  | inr rest ↦ (let found = found-at units d x ns rest in (suc found.0, (let b = found.1 in omega arith), found.2))
]

pub at-found : {N : Type 0} (units : N → List ℕ) (d : N) (x : ℕ) (ns : List N) (k : ℕ) → k < length ns → Stands x (units (slice_index_or ns k d)) → Stands x (all_units units ns)
at-found units d x [] k h s = absurd (omega arith)
at-found units d x (n ∷ ns) zero h s = let sum = count_of-append x (units n) (all_units units ns) in omega arith
at-found units d x (n ∷ ns) (suc k) h s =
    let sum = count_of-append x (units n) (all_units units ns) in
    let rest = at-found units d x ns k (omega arith) s in
    omega arith

-- there is one place
pub one-place : {N : Type 0} (units : N → List ℕ) (d : N) (x : ℕ) (ns : List N) (j k : ℕ) → count_of x (all_units units ns) < 2 → j < length ns → k < length ns
    → Stands x (units (slice_index_or ns j d)) → Stands x (units (slice_index_or ns k d)) → j ≡ k
one-place units d x [] j k few h g s t = absurd (omega arith)
one-place units d x (n ∷ ns) zero zero few h g s t = refl
one-place units d x (n ∷ ns) zero (suc k) few h g s t =
    absurd (let sum = count_of-append x (units n) (all_units units ns) in let rest = at-found units d x ns k (omega arith) t in omega arith)
one-place units d x (n ∷ ns) (suc j) zero few h g s t =
    absurd (let sum = count_of-append x (units n) (all_units units ns) in let rest = at-found units d x ns j (omega arith) s in omega arith)
one-place units d x (n ∷ ns) (suc j) (suc k) few h g s t =
    let sum = count_of-append x (units n) (all_units units ns) in
    ap suc (one-place units d x ns j k (omega arith) (omega arith) (omega arith) s t)
