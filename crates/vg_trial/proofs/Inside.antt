-- Where the accesses of a trial are: a group stores 16 bytes at d, and loads from 32 bytes at p or q.
use Rattle.std.proofs.Common.{◌≡◌, ℕ, zero, suc, ◌+◌, ◌-◌, ◌*◌, ◌<◌, ◌≤◌, false, true, List, [], ◌∷◌, ◌++◌, flat_map, refl, arith}
use Rattle.std.specs.Prelude.{nat_lt}
use Rattle.std.specs.List.{AllByRecursion}
use Rattle.std.proofs.lemmas.Bool.{cond_both, ltb-true, ltb-false}
use Rattle.std.proofs.lemmas.List.Concat.{flat_map-append}
use Rattle.vg_kernel.specs.Layout.{Access, statement_accesses, accesses}
use Rattle.vg_kernel.specs.Tree.{Statement}
use Rattle.vg_trial.specs.declared.shape.Shape.{Shape}
use Rattle.vg_trial.specs.declared.shape.Shape.TheVariants.{Sums, Products, Clamped, Averages, Pairs}
use Rattle.vg_trial.specs.Trial.{groups, shape_of, statements_in}
use Rattle.vg_trial.specs.TrialKernel.{d_at, p_at, q_at, pair_stored, statement_made, made, groups_made, kernel}
use Rattle.vg_trial.proofs.Ends.{joined}

-- in a trial of g groups: an access through d lies in 16 bytes for each group, and a load through p
-- or q in 32
pub data Inside (g : ℕ) (x : Access) : Type 0 where
  at_d : (at : ℕ) → x.address ≡ d_at at → at + x.size ≤ 16 * g → Inside g x
  at_p : (at : ℕ) → x.address ≡ p_at at → x.writes ≡ false → at + x.size ≤ 32 * g → Inside g x
  at_q : (at : ℕ) → x.address ≡ q_at at → x.writes ≡ false → at + x.size ≤ 32 * g → Inside g x

-- the accesses of these statements do so
abbrev pub AreInside : ℕ → List Statement → Type 0
AreInside g ss = AllByRecursion (Inside g) (flat_map statement_accesses ss)

-- the two ways of a pair
pair-inside : (g k i : ℕ) → k < g → i < 4 → AllByRecursion (Inside g) (statement_accesses (statement_made Pairs k i))
pair-inside g k i small few = cond_both (nat_lt i 2) _ _ (λ s. AllByRecursion (Inside g) (statement_accesses s)) low high
  where
    low : nat_lt i 2 ≡ true → AllByRecursion (Inside g) (statement_accesses (pair_stored (16 * k + 4 * i) (p_at (32 * k + 8 * i)) (p_at (32 * k + 8 * i + 4))))
    low e = let l : i < 2 = ltb-true i 2 e in
        (at_p (32 * k + 8 * i) refl refl (omega arith), (at_p (32 * k + 8 * i + 4) refl refl (omega arith), (at_d (16 * k + 4 * i) refl (omega arith), tt)))

    high : nat_lt i 2 ≡ false → AllByRecursion (Inside g) (statement_accesses (pair_stored (16 * k + 4 * i) (q_at (32 * k + 8 * (i - 2))) (q_at (32 * k + 8 * (i - 2) + 4))))
    high e = let l : 2 ≤ i = ltb-false i 2 e in
        (at_q (32 * k + 8 * (i - 2)) refl refl (omega arith), (at_q (32 * k + 8 * (i - 2) + 4) refl refl (omega arith), (at_d (16 * k + 4 * i) refl (omega arith), tt)))

statement-inside : (g k : ℕ) (shape : Shape) (i : ℕ) → k < g → i < statements_in shape → AllByRecursion (Inside g) (statement_accesses (statement_made shape k i))
statement-inside g k Sums i small few =
    let at = 32 * k + 4 * i in
    (at_p at refl refl (omega arith), (at_q at refl refl (omega arith), (at_d (16 * k + 4 * i) refl (omega arith), tt)))
statement-inside g k Products i small few =
    let at = 32 * k + 4 * i in
    (at_p at refl refl (omega arith), (at_q at refl refl (omega arith), (at_p (at + 2) refl refl (omega arith), (at_q (at + 2) refl refl (omega arith), (at_d (16 * k + 4 * i) refl (omega arith), tt)))))
statement-inside g k Clamped i small few = (at_p (32 * k + 4 * i) refl refl (omega arith), (at_d (16 * k + 2 * i) refl (omega arith), tt))
statement-inside g k Averages i small few =
    let at = 32 * k + i in
    (at_p at refl refl (omega arith), (at_q at refl refl (omega arith), (at_d (16 * k + i) refl (omega arith), tt)))
statement-inside g k Pairs i small few = pair-inside g k i small few

both-inside : (g : ℕ) (ss ts : List Statement) → AreInside g ss → AreInside g ts → AreInside g (ss ++ ts)
both-inside g ss ts a b = rw (flat_map-append statement_accesses ss ts) (joined (Inside g) (flat_map statement_accesses ss) (flat_map statement_accesses ts) a b)

made-inside : (g k : ℕ) (shape : Shape) (i : ℕ) → k < g → i ≤ statements_in shape → AreInside g (made shape k i)
unfolding made
made-inside g k shape zero small few = tt
made-inside g k shape (suc i) small few =
    both-inside g (made shape k i) (statement_made shape k i ∷ []) (made-inside g k shape i small (omega arith))
    (joined (Inside g) (statement_accesses (statement_made shape k i)) [] (statement-inside g k shape i small (omega arith)) tt)

groups-inside : (n g k : ℕ) → k ≤ g → AreInside g (groups_made n k)
unfolding groups_made
groups-inside n g zero small = tt
groups-inside n g (suc k) small =
    let shape = shape_of n k in
    both-inside g (groups_made n k) (made shape k (statements_in shape)) (groups-inside n g k (omega arith))
    (made-inside g k shape (statements_in shape) (omega arith) (omega arith))

pub kernel-inside : (n : ℕ) → AllByRecursion (Inside (groups n)) (accesses (kernel n))
kernel-inside n = groups-inside n (groups n) (groups n) (omega arith)
