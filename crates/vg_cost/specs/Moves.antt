-- Numbers that are counted while a plan changes.
use Rattle.std.specs.Prelude.{◌≡◌, ◌<◌, ◌≤◌, ℕ, ◌+◌, Bool, true, false, List, [], length, get_or}
use Rattle.vg_cost.specs.declared.change.Change.{Change}
use Rattle.vg_cost.specs.Needs.{AreNeeds, lines_by, times_in, uses_of}

-- some numbers are counted no more and others are counted; where no change is marked the count stays
pub record Moves (gone come old new : List ℕ) (before after : List Bool) : Type 0 where
  pub long : length new ≡ length old
  pub marks : length after ≡ length before
  pub each :
      (v : ℕ) → v < length old → times_in v gone ≤ get_or old v 0
      → get_or new v 0 + times_in v gone ≡ get_or old v 0 + times_in v come
  pub same :
      (v : ℕ) → v < length old → v < length before → get_or after v false ≡ false
      → (get_or before v false ≡ false) × (get_or new v 0 ≡ get_or old v 0)

-- numbers are counted once more, or once less
abbrev pub Counted : Bool → List ℕ → List ℕ → List ℕ → List Bool → List Bool → Type 0
Counted true xs = Moves [] xs
Counted false xs = Moves xs []

-- as many marks and counts before the change as after it
pub record FitsIn (change : Change) (counts : List ℕ) (changed : List Bool) : Type 0 where
  pub packed : length change.packed.now ≡ length change.longer.now
  pub before : length change.counts.now ≡ length change.longer.now
  pub counted : length counts ≡ length change.longer.now
  pub marked : length changed ≡ length change.longer.now

-- at a number that is not marked the change has changed nothing yet
abbrev pub StandsAt : Change → List ℕ → List Bool → ℕ → Type 0
StandsAt change counts changed v =
    get_or changed v false ≡ false
    → (get_or change.packed.now v false ≡ get_or change.longer.now v false)
    × (get_or change.counts.now v 0 ≡ get_or counts v 0)

-- by the counts the inserts are those after the change, and the units are written as before it
pub record Begins (change : Change) (inserted counts : List ℕ) (lines : ℕ) : Type 0 where
  pub inserts :
      (v : ℕ) → v < length change.longer.now
      → get_or counts v 0
      ≡ times_in v inserted + uses_of change.ssa.now change.packed.now change.counts.now v (length change.longer.now)
  pub written : lines ≡ lines_by change.ssa.now change.packed.now change.counts.now (length change.longer.now)

-- whatever the inserts are, the counts and the lines become those after the change
abbrev pub Settles : Change → List ℕ → ℕ → List ℕ → ℕ → Type 0
Settles change old lines new next =
    (inserted : List ℕ) → Begins change inserted old lines
    → AreNeeds change.ssa.now change.longer.now inserted new next
