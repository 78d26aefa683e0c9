-- Blocks and a rest, each of which means its kernel, mean the loop.
use Rattle.std.proofs.Common.{◌≡◌, ℕ, zero, suc, ◌+◌, ◌*◌, ◌/◌, ◌%◌, ◌<◌, ◌≤◌, List, length, Some, refl, sym, ap, ◌∙◌, arith, div-add-mod', mul-le-mul_left}
use Rattle.vg_base.specs.Trap.{◌>>=◌}
use Rattle.vg_kernel.specs.Meaning.{meaning}
use Rattle.vg_loop_laws.specs.Loops.{Loop, Run, places_at, turns, turn_of, turns_asked, block_of, loop_meaning, blocks_meaning}
use Rattle.vg_loop_laws.specs.Unrolled.{unrolled}
use Rattle.vg_loop_laws.specs.Inputs.{AreBytes, Agrees, IsLoopLaid}
use Rattle.vg_loop_laws.specs.Laws.{HasSteps, BlocksMeanLoop, BlocksAndRestAreTurns}
use Rattle.vg_loop_laws.proofs.Turns.{bind_same, turns-plus, turns-keep, turns-same, blocks-are-turns}
use Rattle.vg_loop_laws.proofs.Places.{at-at, length-at}
use Rattle.vg_loop_laws.proofs.Moved.{unrolled-are-turns}
use Rattle.vg_loop_laws.proofs.Bytes.{meaning-keeps}
use Rattle.vg_loop_laws.proofs.Layouts.{block-laid, turn-laid}

-- turns after so many, counted from there
pub turns-behind : (run : Run) (steps places args : List ℕ) (k n t : ℕ) (m : List ℕ) → turns (turn_of run steps (places_at steps places k) args) n t m ≡ turns (turn_of run steps places args) n (k + t) m
unfolding turns
turns-behind run steps places args k zero t m = refl
turns-behind run steps places args k (suc n) t m =
    let next : k + (t + 1) ≡ (k + t) + 1 = omega arith in
    ap (λ (ps : List ℕ). run m ps args >>= turns (turn_of run steps (places_at steps places k) args) n (t + 1)) (at-at steps places k t)
    ∙ bind_same (run m (places_at steps places (k + t)) args) _ _ (λ r h.
    turns-behind run steps places args k n (t + 1) r ∙ ap (λ (j : ℕ). turns (turn_of run steps places args) n j r) next)

block-is : (l : Loop) (size n : ℕ) (block : Run) (args : List ℕ) → HasSteps l → Agrees block (unrolled l size) args
    → (first places : List ℕ) → IsLoopLaid l n first places → (j : ℕ) (m : List ℕ) → size * j + size ≤ n → AreBytes m
    → block_of size block l.steps places args j m ≡ turns (turn_of (meaning l.kernel) l.steps places args) size (size * j) m
block-is l size n block args has means first places input j m fits are =
    let pointed = input.pointers in
    let long : length places ≡ length l.steps = omega (arith, pointed, has) in
    let here = places_at l.steps places (size * j) in
    let none : size * j + 0 ≡ size * j = omega arith in
    means m here (block-laid l n first m places size (size * j) has input are fits)
    ∙ unrolled-are-turns l size m here args (length-at l.steps places (size * j) long)
    ∙ turns-behind (meaning l.kernel) l.steps places args (size * j) size 0 m
    ∙ ap (λ (t : ℕ). turns (turn_of (meaning l.kernel) l.steps places args) size t m) none

-- a block within the blocks is within the turns
inside : (size j q r n : ℕ) → size * q + r ≡ n → j < 0 + q → size * j + size ≤ n
inside size j q r n whole less =
    let next : size * (j + 1) ≤ size * q = mul-le-mul_left size (let up : j + 1 ≤ q = omega (arith, less) in up) in
    let split : size * (j + 1) ≡ size * j + size = omega arith in
    omega (arith, next, split, whole)

pub blocks-fit : (size n : ℕ) → size * (n / size) + n % size ≡ n
blocks-fit size n = let whole : n / size * size + n % size ≡ n = div-add-mod' n size in omega (arith, whole)

pub blocks-and-rest-are-turns : BlocksAndRestAreTurns
blocks-and-rest-are-turns turn size n memory positive =
    let at_none : size * 0 ≡ 0 = omega arith in
    let start : 0 + size * (n / size) ≡ size * (n / size) = omega arith in
    let rest = turns turn (n % size) (size * (n / size)) in
    ap (λ o. o >>= rest) (blocks-are-turns (λ m. Unit {0}) turn (λ k. turns turn size (size * k)) size (λ t m r a e. tt)
    (n / size) 0 (λ j m low high are. refl) memory tt)
    ∙ ap (λ (t : ℕ). turns turn (size * (n / size)) t memory >>= rest) at_none
    ∙ ap (λ (t : ℕ). turns turn (size * (n / size)) 0 memory >>= turns turn (n % size) t) (sym start)
    ∙ sym (turns-plus turn (size * (n / size)) (n % size) 0 memory)
    ∙ ap (λ (a : ℕ). turns turn a 0 memory) (blocks-fit size n)

pub blocks-mean-loop : BlocksMeanLoop
blocks-mean-loop l size block rest args has positive block_agrees rest_agrees memory places input =
    let n = turns_asked l.times args in
    let turn = turn_of (meaning l.kernel) l.steps places args in
    let blocks = blocks-fit size n in
    let keeps : (t : ℕ) (m r : List ℕ) → AreBytes m → turn t m ≡ Some r → AreBytes r =
    λ t m r are e. meaning-keeps l.kernel m (places_at l.steps places t) args r are e in
    let at_none : size * 0 ≡ 0 = omega arith in
    let start : 0 + size * (n / size) ≡ size * (n / size) = omega arith in
    ap (λ o. o >>= turns (turn_of rest l.steps places args) (n % size) (size * (n / size)))
    (blocks-are-turns AreBytes turn (block_of size block l.steps places args) size keeps (n / size) 0
    (λ j m low high are. block-is l size n block args has block_agrees memory places input j m (inside size j (n / size) (n % size) n blocks high) are)
    memory input.bytes
    ∙ ap (λ (t : ℕ). turns turn (size * (n / size)) t memory) at_none)
    ∙ bind_same (turns turn (size * (n / size)) 0 memory) _ _ (λ m e.
    turns-same AreBytes (turn_of rest l.steps places args) turn keeps (n % size) (size * (n / size))
    (λ t r low high are. rest_agrees r (places_at l.steps places t) (turn-laid l n memory r places t has input are (omega (arith, high, blocks))))
    m (turns-keep AreBytes turn keeps (size * (n / size)) 0 memory m input.bytes e)
    ∙ ap (λ (t : ℕ). turns turn (n % size) t m) (sym start))
    ∙ sym (turns-plus turn (size * (n / size)) (n % size) 0 memory)
    ∙ ap (λ (a : ℕ). turns turn a 0 memory) blocks
