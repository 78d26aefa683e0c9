-- The accesses of a trial in its memory: its kernel runs to its end there, and what `noalias` says is kept.
use Rattle.std.proofs.Common.{◌≡◌, ℕ, zero, suc, ◌+◌, ◌*◌, ◌%◌, ◌^◌, ◌<◌, inl, inr, ℤ, pos, ◌+ℤ◌, ◌≤ℤ◌, Bool, true, false, ◌||◌, List, [], ◌∷◌, length, All, Contains, IsSome, refl, sym, ap, ◌∙◌, arith, length-append}
use Rattle.std.specs.List.{AllByRecursion}
use Rattle.std.proofs.lemmas.Int.{ints}
use Rattle.std.proofs.lemmas.List.Elements.{All-from_recursion, All-contains, All-nil, All-push}
use Rattle.vg_base.specs.Address.{place_of}
use Rattle.vg_kernel.specs.Layout.{Access, accesses, AreApart, Respects}
use Rattle.vg_kernel.specs.Meaning.{meaning}
use Rattle.vg_trial.specs.Trial.{groups, bytes_to, memory}
use Rattle.vg_trial.specs.TrialKernel.{kernel, places}
use Rattle.vg_trial.proofs.Ends.{Lies, meaning-ends}
use Rattle.vg_trial.proofs.Inside.{Inside, at_d, at_p, at_q, kernel-inside}

-- ---- the memory

length-bytes_to : (n x : ℕ) → length (bytes_to n x) ≡ x
unfolding bytes_to
length-bytes_to n zero = refl
length-bytes_to n (suc x) = omega (arith, length-append (bytes_to n x) ((7 * x + n) % 256 ∷ []), length-bytes_to n x)

bytes_to-below : (n x : ℕ) → All (λ b. b < 2 ^ 8) (bytes_to n x)
unfolding bytes_to
bytes_to-below n zero = All-nil (λ b. b < 2 ^ 8)
bytes_to-below n (suc x) = All-push (λ b. b < 2 ^ 8) (bytes_to n x) ((7 * x + n) % 256) (bytes_to-below n x) (omega arith)

pub memory-length : (n : ℕ) → length (memory n) ≡ 80 * groups n
memory-length n = length-bytes_to n (80 * groups n)

pub memory-bytes : (n : ℕ) → All (λ b. b < 2 ^ 8) (memory n)
memory-bytes n = bytes_to-below n (80 * groups n)

-- ---- the kernel ends

lies : (n : ℕ) (x : Access) → Inside (groups n) x → Lies (places n) (80 * groups n) x
lies n x (at_d at e fits) = record { at = at; begins = ap (place_of (places n)) e ∙ ap pos (omega arith); ends = omega arith }
lies n x (at_p at e reads fits) = record { at = 16 * groups n + at; begins = ap (place_of (places n)) e; ends = omega arith }
lies n x (at_q at e reads fits) = record { at = 48 * groups n + at; begins = ap (place_of (places n)) e; ends = omega arith }

all-lie : (n : ℕ) (xs : List Access) → AllByRecursion (Inside (groups n)) xs → AllByRecursion (Lies (places n) (length (memory n))) xs
all-lie n [] h = tt
all-lie n (x ∷ xs) h = (rw (memory-length n) (lies n x h.0), all-lie n xs h.1)

pub trial-ends : (n : ℕ) → IsSome (meaning (kernel n) (memory n) (places n) [])
trial-ends n = meaning-ends (kernel n) (memory n) (places n) [] (all-lie n (accesses (kernel n)) (kernel-inside n))

-- ---- the accesses stay apart

-- an access through d lies below this place, and a load through p or q not below it
data Sides (places : List ℕ) (middle : ℕ) (x : Access) : Type 0 where
  low : x.address.pointer ≡ 0 → (place_of places x.address +ℤ pos x.size) ≤ℤ pos middle → Sides places middle x
  high : x.writes ≡ false → pos middle ≤ℤ place_of places x.address → Sides places middle x

side : (n : ℕ) (x : Access) → Inside (groups n) x → Sides (places n) (16 * groups n) x
side n x (at_d at e fits) = low (ap (λ a. a.pointer) e) (rw e (omega (arith, ints)))
side n x (at_p at e reads fits) = high reads (rw e (omega (arith, ints)))
side n x (at_q at e reads fits) = high reads (rw e (omega (arith, ints)))

from_middle : (a b c : ℤ) → a ≤ℤ b → b ≤ℤ c → a ≤ℤ c
from_middle a b c h l = omega (arith, ints)

neither : (a b : Bool) → a ≡ false → b ≡ false → (a || b) ≡ true → ⊥
neither a b e f h = cc

pub trial-respects : (n : ℕ) → Respects (kernel n) (places n)
trial-respects n x y cx cy bound = apart (side n x (of x cx)) (side n y (of y cy))
  where
    of : (z : Access) → Contains (accesses (kernel n)) z → Inside (groups n) z
    of z has = All-contains (Inside (groups n)) (accesses (kernel n)) z (All-from_recursion (Inside (groups n)) (accesses (kernel n)) (kernel-inside n)) has

    apart : Sides (places n) (16 * groups n) x → Sides (places n) (16 * groups n) y → AreApart (places n) x y
    apart (low p a) (low q b) = absurd (bound.0 (p ∙ sym q))
    apart (low p a) (high reads b) = inl (from_middle _ _ _ a b)
    apart (high reads a) (low p b) = inr (from_middle _ _ _ b a)
    apart (high reads a) (high reads_too b) = absurd (neither x.writes y.writes reads reads_too bound.2)
