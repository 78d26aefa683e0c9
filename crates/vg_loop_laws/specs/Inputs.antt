-- What a kernel and a loop may be run on, where the arguments are given, and when a run means a kernel there.
use Rattle.std.specs.Prelude.{◌≡◌, ℕ, ◌+◌, ◌*◌, ◌<◌, ◌^◌, List, [], ◌∷◌, length, All, Contains, pos, ◌+ℤ◌, ◌≤ℤ◌, ◌⊎◌}
use Rattle.std.specs.List.{AllByRecursion}
use Rattle.vg_base.specs.Address.{place_of}
use Rattle.vg_kernel.specs.Tree.{Tree}
use Rattle.vg_kernel.specs.WellFormed.{pointers}
use Rattle.vg_kernel.specs.Layout.{Access, accesses, AreBound, Respects}
use Rattle.vg_kernel.specs.Meaning.{meaning}
use Rattle.vg_loop_laws.specs.Loops.{Loop, Run, places_at}

-- any bytes
abbrev pub AreBytes : List ℕ → Type 0
AreBytes memory = All (λ b. b < 2 ^ 8) memory

-- a place of 64 bits for each pointer, so that the layout keeps what `noalias` says
pub record IsLaid (k : Tree) (memory places : List ℕ) : Type 0 where
  pub bytes : AreBytes memory
  pub pointers : length places ≡ length (pointers k.params)
  pub near : All (λ place. place < 2 ^ 64) places
  pub layout : Respects k places

-- with these arguments a run leaves what the kernel leaves, or traps where it traps
abbrev pub Agrees : Run → Tree → List ℕ → Type 0
Agrees run k args =
    (memory places : List ℕ) → IsLaid k memory places
    → run memory places args ≡ meaning k memory places args

-- the bytes of an access in one turn, and of one in another, are apart
abbrev pub AreApartIn : List ℕ → Access → List ℕ → Access → Type 0
AreApartIn places x others y =
    ((place_of places x.address +ℤ pos x.size) ≤ℤ place_of others y.address)
    ⊎ ((place_of others y.address +ℤ pos y.size) ≤ℤ place_of places x.address)

-- each access of each of so many turns stays apart from those of all turns from which it has to
abbrev pub LoopRespects : Loop → ℕ → List ℕ → Type 0
LoopRespects l n places =
    (t u : ℕ) → t < n → u < n → (x y : Access) → Contains (accesses l.kernel) x
    → Contains (accesses l.kernel) y → AreBound l.kernel x y
    → AreApartIn (places_at l.steps places t) x (places_at l.steps places u) y

-- the pointers have places of 64 bits after so many turns
abbrev pub StayNear : List ℕ → ℕ → List ℕ → Type 0
StayNear [] n places = AllByRecursion (λ p. p < 2 ^ 64) places
StayNear (s ∷ ss) n [] = Unit {0}
StayNear (s ∷ ss) n (p ∷ ps) = (p + n * s < 2 ^ 64) × StayNear ss n ps

-- any bytes, and a place for each pointer, of 64 bits after all turns as well, so that the accesses of
-- all turns keep what `noalias` says
pub record IsLoopLaid (l : Loop) (n : ℕ) (memory places : List ℕ) : Type 0 where
  pub bytes : AreBytes memory
  pub pointers : length places ≡ length (pointers l.kernel.params)
  pub near : StayNear l.steps n places
  pub layout : LoopRespects l n places
