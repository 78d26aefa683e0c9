-- The blocks and the turns that are left over, as they are run.
use Rattle.std.proofs.Common.{◌≡◌, ℕ, zero, suc, ◌+◌, ◌*◌, ◌/◌, ◌%◌, ◌^◌, ◌<◌, ◌≤◌, List, [], ◌∷◌, length, Option, Some, refl, sym, ap, subst, ◌∙◌, arith, div-add-mod', mul-le-mul_right}
use Rattle.vg_base.specs.Trap.{◌>>=◌}
use Rattle.vg_loop_laws.specs.Loops.{Run, places_at, turns, turn_of, block_of, both_meaning}
use Rattle.vg_loop_laws.specs.Inputs.{StayNear}
use Rattle.vg_loop_laws.proofs.Looped.{turns-behind}
use Rattle.vg_loops.proofs.Steps.{near-on}

pub near-less : (steps places : List ℕ) (a n : ℕ) → a ≤ n → StayNear steps n places → StayNear steps a places
near-less [] places a n less near = near
near-less (s ∷ ss) [] a n less near = tt
near-less (s ∷ ss) (p ∷ ps) a n less near =
    (let scaled : a * s ≤ n * s = mul-le-mul_right s less in let whole = near.0 in omega (arith, scaled, whole), near-less ss ps a n less near.1)

one-block : (run : Run) (steps places args : List ℕ) → block_of 1 run steps places args ≡ turn_of run steps places args
one-block run steps places args = (λ i k m. run m (places_at steps places ((let one : 1 * k ≡ k = omega arith in one) i)) args)

pub rest-is : (rest : Run) (steps places here args : List ℕ) (k n : ℕ) (m : List ℕ) → here ≡ places_at steps places k → turns (block_of 1 rest steps here args) n 0 m ≡ turns (turn_of rest steps places args) n k m
rest-is rest steps places here args k n m is =
    ap (λ (ps : List ℕ). turns (block_of 1 rest steps ps args) n 0 m) is
    ∙ ap (λ f. turns f n 0 m) (one-block rest steps (places_at steps places k) args)
    ∙ turns-behind rest steps places args k n 0 m
    ∙ ap (λ (t : ℕ). turns (turn_of rest steps places args) n t m) (let none : k + 0 ≡ k = omega arith in none)

pub both-is : (size n : ℕ) (steps : List ℕ) (block rest : Run) (memory places here args m : List ℕ) → turns (block_of size block steps places args) (n / size) 0 memory ≡ Some m → here ≡ places_at steps places (size * (n / size))
    → turns (block_of 1 rest steps here args) (n % size) 0 m ≡ both_meaning size n steps block rest memory places args
both-is size n steps block rest memory places here args m went is =
    rest-is rest steps places here args (size * (n / size)) (n % size) m is
    ∙ sym (ap (λ o. o >>= turns (turn_of rest steps places args) (n % size) (size * (n / size))) went)
