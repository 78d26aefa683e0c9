-- How many accesses have an event of a label.
use Rattle.std.proofs.Common.{◌≡◌, ℕ, zero, suc, ◌+◌, ℤ, pos, Bool, true, false, List, [], ◌∷◌, length, filter, Option, Some, None, refl, sym, ap, ◌∙◌, arith}
use Rattle.std.specs.Prelude.{◌&&◌, ◌+ℤ◌, not, nat_eq, int_lt, if◌then◌else◌}
use Rattle.std.specs.Ordering.{int_eq}
use Rattle.std.proofs.lemmas.Int.{ints}
use Rattle.std.proofs.lemmas.Bool.Decides.{nat_tests}
use Rattle.vg_base.specs.declared.address.Address.{Address}
use Rattle.vg_shapes.specs.declared.access.Access.{Access}
use Rattle.vg_shapes.specs.Order.{one_if}
use Rattle.vg_events.specs.Events.{Label, labels, labels_from, labels_in, next}
use Rattle.vg_paired.specs.Holding.{has_label}
use Rattle.vg_events.specs.Ranks.{count_label, same_bool, same_label}
use Rattle.vg_paired.proofs.Counts.{count-append}

none-within : (o a : ℤ) → (not (int_lt o a) && int_lt o (a +ℤ pos 0)) ≡ false
none-within o a = grind (arith, ints, nat_tests)

here-first : (o a : ℤ) (n : ℕ) → int_eq o a ≡ true → (not (int_lt o a) && int_lt o (a +ℤ pos (suc n))) ≡ true
here-first o a n h = grind (arith, ints, nat_tests)

here-behind : (o a : ℤ) (n : ℕ) → int_eq o a ≡ true → (not (int_lt o (a +ℤ pos 1)) && int_lt o ((a +ℤ pos 1) +ℤ pos n)) ≡ false
here-behind o a n h = grind (arith, ints, nat_tests)

later-behind : (o a : ℤ) (n : ℕ) → int_eq o a ≡ false → (not (int_lt o (a +ℤ pos 1)) && int_lt o ((a +ℤ pos 1) +ℤ pos n)) ≡ (not (int_lt o a) && int_lt o (a +ℤ pos (suc n)))
later-behind o a n h = grind (arith, ints, nat_tests)

-- one of two, of which not both hold
either : (x y z : Bool) → (x ≡ true → (y ≡ false) × (z ≡ true)) → (x ≡ false → y ≡ z) → one_if x + one_if y ≡ one_if z
either true y z h k = (let b = h refl in (λ i. 1 + one_if (b.0 i)) ∙ sym (ap one_if b.1))
either false y z h k = (let e = ap one_if (k refl) in omega arith)

under : (s p x y z : Bool) → one_if x + one_if y ≡ one_if z → one_if (s && (p && x)) + one_if (s && (p && y)) ≡ one_if (s && (p && z))
under true true x y z h = h
under true false x y z h = refl
under false p x y z h = refl

abbrev from : Bool → Address → ℕ → Access
from w a n = record { address = a; size = n; writes = w }

count-from : (l : Label) (w : Bool) (a : Address) (n : ℕ) → count_label l (labels_from w a n) ≡ one_if (has_label l (Some (from w a n)))
count-from l w a zero = sym (ap (λ b. one_if (same_bool l.writes w && (nat_eq l.address.pointer a.pointer && b))) (none-within l.address.offset a.offset) ∙ under-none (same_bool l.writes w) (nat_eq l.address.pointer a.pointer))
  where
    under-none : (s p : Bool) → one_if (s && (p && false)) ≡ 0
    under-none true true = refl
    under-none true false = refl
    under-none false p = refl
count-from l w a (suc n) =
    let o = l.address.offset in
    let b = a.offset in
    ap (λ k. one_if (same_label l (record { writes = w; address = a })) + k) (count-from l w (next a) n)
    ∙ under (same_bool l.writes w) (nat_eq l.address.pointer a.pointer) (int_eq o b)
    (not (int_lt o (b +ℤ pos 1)) && int_lt o ((b +ℤ pos 1) +ℤ pos n)) (not (int_lt o b) && int_lt o (b +ℤ pos (suc n)))
    (either _ _ _ (λ t. (here-behind o b n t, here-first o b n t)) (λ f. later-behind o b n f))

count-in : (l : Label) (x : Option Access) → count_label l (labels_in x) ≡ one_if (has_label l x)
count-in l None = refl
count-in l (Some x) = count-from l x.writes x.address x.size

pub count-labels : (l : Label) (xs : List (Option Access)) → count_label l (labels xs) ≡ length (filter (has_label l) xs)
count-labels l [] = refl
count-labels l (x ∷ xs) =
    count-append l (labels_in x) (labels xs)
    ∙ (λ i. count-in l x i + count-labels l xs i)
    ∙ kept (has_label l x) x (filter (has_label l) xs)
  where
    kept : (b : Bool) (x : Option Access) (ys : List (Option Access)) → one_if b + length ys ≡ length (if b then x ∷ ys else ys)
    kept true x ys = omega arith
    kept false x ys = omega arith
