-- How two lists of bits are joined, bit by bit.
use Rattle.std.specs.Prelude.{ℕ, List, [], ◌∷◌, ◌++◌, if◌then◌else◌}
use Rattle.vg_terms.specs.Term.{Tree}
use Rattle.vg_lift.specs.Gather.{Bit, start}
use Rattle.vg_lift.specs.Join.{Open, shut, differ, closed, goes_on, opened, is_same_bit}

-- what is joined so far, and what is open
pub record Joining : Type 0 where
  pub done : List Bit
  pub open_range : Open

-- the bits with those of the open range
abbrev pub ended : Tree → Joining → List Bit
ended c j = j.done ++ closed c j.open_range

-- with the bits at the next place
abbrev pub joined_bit : Tree → ℕ → Bit → Bit → Joining → Joining
joined_bit c i x y j =
    if is_same_bit x y then record { done = ended c j ++ x ∷ []; open_range = shut }
    else if goes_on j.open_range i x y then record { done = j.done; open_range = opened j.open_range }
    else record { done = ended c j; open_range = differ (start x) (start y) }

abbrev pub joining : List Bit → Open → Joining
joining done o = record { done = done; open_range = o }
