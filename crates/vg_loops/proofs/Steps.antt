-- One turn of the loop that runs turns.
use Rattle.std.proofs.Common.{◌≡◌, ℕ, zero, suc, ◌+◌, ◌-◌, ◌*◌, ◌^◌, ◌<◌, ◌≤◌, List, [], ◌∷◌, length, Option, Some, None, refl, sym, ap, subst, ◌∙◌, arith, mul-le-mul_right}
use Rattle.std.specs.List.{AllByRecursion}
use Rattle.vg_base.specs.Trap.{◌>>=◌}
use Rattle.vg_loop_laws.specs.Loops.{Run, places_at, turns, block_of}
use Rattle.vg_loop_laws.specs.Inputs.{StayNear}
use Rattle.vg_loop_laws.proofs.Places.{at-at}

pub unmoved : (steps places : List ℕ) → places_at steps places 0 ≡ places
unmoved [] places = refl
unmoved (s ∷ ss) [] = refl
unmoved (s ∷ ss) (p ∷ ps) = let same : p + 0 * s ≡ p = omega arith in (λ i. same i ∷ unmoved ss ps i)

pub turns-more : (f : ℕ → List ℕ → Option (List ℕ)) (left k : ℕ) (m : List ℕ) → 0 < left → turns f left k m ≡ (f k m >>= turns f (left - 1) (k + 1))
unfolding turns
turns-more f zero k m some = absurd (omega (arith, some))
turns-more f (suc left) k m some = ap (λ (n : ℕ). f k m >>= turns f n (k + 1)) (let one : left ≡ suc left - 1 = omega arith in one)

pub turns-none : (f : ℕ → List ℕ → Option (List ℕ)) (left k : ℕ) (m : List ℕ) → left ≡ 0 → turns f left k m ≡ Some m
unfolding turns
turns-none f zero k m none = refl
turns-none f (suc left) k m none = absurd (omega (arith, none))

-- the block of this number, where the runner and the places are what they were made
block-runs : (run now : Run) (size : ℕ) (steps start args places : List ℕ) (k : ℕ) (m : List ℕ) → now ≡ run → places ≡ places_at steps start (size * k) → block_of size run steps start args k m ≡ now m places args
block-runs run now size steps start args places k m same here = (λ i. sym same i m (sym here i) args)

pub trapped : (run now : Run) (size : ℕ) (steps start args places : List ℕ) (left k : ℕ) (m : List ℕ) → now ≡ run → places ≡ places_at steps start (size * k) → 0 < left → now m places args ≡ None → turns (block_of size run steps start args) left k m ≡ None
trapped run now size steps start args places left k m same here some is =
    turns-more (block_of size run steps start args) left k m some
    ∙ ap (λ o. o >>= turns (block_of size run steps start args) (left - 1) (k + 1)) (block-runs run now size steps start args places k m same here ∙ is)

pub went_on : (run now : Run) (size : ℕ) (steps start args places : List ℕ) (left k : ℕ) (m r : List ℕ) → now ≡ run → places ≡ places_at steps start (size * k) → 0 < left → now m places args ≡ Some r
    → turns (block_of size run steps start args) left k m ≡ turns (block_of size run steps start args) (left - 1) (k + 1) r
went_on run now size steps start args places left k m r same here some is =
    turns-more (block_of size run steps start args) left k m some
    ∙ ap (λ o. o >>= turns (block_of size run steps start args) (left - 1) (k + 1)) (block-runs run now size steps start args places k m same here ∙ is)

-- places that stay near after more turns stay near from here after the others
pub near-on : (steps places : List ℕ) (a b n : ℕ) → a + b ≤ n → length places ≡ length steps → StayNear steps n places → StayNear steps b (places_at steps places a)
near-on [] places a b n less long near = near
near-on (s ∷ ss) [] a b n less long near = absurd (omega (arith, long))
near-on (s ∷ ss) (p ∷ ps) a b n less long near = (
  let more : (a + b) * s ≤ n * s = mul-le-mul_right s less in let split : (a + b) * s ≡ a * s + b * s = omega arith in let whole = near.0 in omega (arith, more, split, whole),
  near-on ss ps a b n less (omega (arith, long)) near.1,
)
