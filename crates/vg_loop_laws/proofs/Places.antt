-- Places that are moved from turn to turn.
use Rattle.std.proofs.Common.{◌≡◌, ℕ, zero, suc, ◌+◌, ◌*◌, ◌^◌, ◌<◌, ◌≤◌, ℤ, pos, List, [], ◌∷◌, length, refl, sym, ap, ◌∙◌, arith, All, mul-le-mul_right}
use Rattle.std.specs.Prelude.{◌+ℤ◌, slice_index}
use Rattle.std.specs.List.{AllByRecursion}
use Rattle.std.proofs.lemmas.Int.{ints}
use Rattle.std.proofs.lemmas.List.Elements.{All-from_recursion}
use Rattle.vg_base.specs.declared.address.Address.{Address}
use Rattle.vg_base.specs.Address.{place_of}
use Rattle.vg_loop_laws.specs.Loops.{places_at}
use Rattle.vg_loop_laws.specs.Unrolled.{moved_address}
use Rattle.vg_loop_laws.specs.Inputs.{StayNear}

pub length-at : (steps places : List ℕ) (t : ℕ) → length places ≡ length steps → length (places_at steps places t) ≡ length steps
length-at [] places t e = e
length-at (s ∷ ss) [] t e = e
length-at (s ∷ ss) (p ∷ ps) t e = ap suc (length-at ss ps t (omega (arith, e)))

pub index-at : (steps places : List ℕ) (t k : ℕ) → length places ≡ length steps → slice_index (places_at steps places t) k ≡ slice_index places k + t * slice_index steps k
index-at [] [] t k e = omega arith
index-at [] (p ∷ ps) t k e = absurd (omega (arith, e))
index-at (s ∷ ss) [] t k e = absurd (omega (arith, e))
index-at (s ∷ ss) (p ∷ ps) t zero e = refl
index-at (s ∷ ss) (p ∷ ps) t (suc k) e = index-at ss ps t k (omega (arith, e))

-- so many turns after so many
pub at-at : (steps places : List ℕ) (a b : ℕ) → places_at steps (places_at steps places a) b ≡ places_at steps places (a + b)
at-at [] places a b = refl
at-at (s ∷ ss) [] a b = refl
at-at (s ∷ ss) (p ∷ ps) a b =
    let first : p + a * s + b * s ≡ p + (a + b) * s = omega arith in
    (λ i. first i ∷ at-at ss ps a b i)

sum_moved : (p d : ℕ) (o : ℤ) → pos p +ℤ (o +ℤ pos d) ≡ pos (p + d) +ℤ o
sum_moved p d o = grind (arith, ints)

-- a moved address at the first places is the address at moved places
pub place-moved : (steps places : List ℕ) (u : ℕ) (a : Address) → length places ≡ length steps → place_of places (moved_address steps u a) ≡ place_of (places_at steps places u) a
place-moved steps places u a e =
    sum_moved (slice_index places a.pointer) (u * slice_index steps a.pointer) a.offset
    ∙ ap (λ (p : ℕ). pos p +ℤ a.offset) (sym (index-at steps places u a.pointer e))

-- places that are near after all turns are near after each of them
pub near-at : (steps places : List ℕ) (n t : ℕ) → t ≤ n → StayNear steps n places → AllByRecursion (λ p. p < 2 ^ 64) (places_at steps places t)
near-at [] places n t less near = near
near-at (s ∷ ss) [] n t less near = tt
near-at (s ∷ ss) (p ∷ ps) n t less near = (below p s n t less near.0, near-at ss ps n t less near.1)
  where
    below : (p s n t : ℕ) → t ≤ n → p + n * s < 2 ^ 64 → p + t * s < 2 ^ 64
    below p s n t less h = let scaled : t * s ≤ n * s = mul-le-mul_right s less in omega (arith, scaled, h)

pub all_near-at : (steps places : List ℕ) (n t : ℕ) → t ≤ n → StayNear steps n places → All (λ p. p < 2 ^ 64) (places_at steps places t)
all_near-at steps places n t less near = All-from_recursion (λ p. p < 2 ^ 64) (places_at steps places t) (near-at steps places n t less near)
