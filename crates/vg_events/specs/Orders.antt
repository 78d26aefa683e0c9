-- When the events of lines stand in an order that leaves the same memory.
use Rattle.std.specs.Prelude.{◌≡◌, ℕ, suc, ◌<◌, Bool, true, ◌||◌, nat_lt, List, [], ◌∷◌, if◌then◌else◌}
use Rattle.vg_shapes.specs.Depends.{conflict}
use Rattle.vg_shapes.specs.Order.{count_of, Stands}
use Rattle.vg_events.specs.Events.{Label, byte_access, label_at}
use Rattle.vg_events.specs.Pairs.{joined}
use Rattle.vg_events.specs.Steps.{label_place}

-- a later event has to stand on a later line than an earlier one: as accesses of one byte they conflict
abbrev pub MustFollow : List Bool → List Label → ℕ → ℕ → Type 0
MustFollow flags ls x y =
    (x < y) × (conflict flags (byte_access (label_at ls x)) (byte_access (label_at ls y)) ≡ true)

-- the line of an event: the place of the first list in which its number stands
abbrev pub line_of : ℕ → List (List ℕ) → ℕ
line_of e [] = 0
line_of e (es ∷ ess) = if nat_lt 0 (count_of e es) then 0 else suc (line_of e ess)

-- each event that has to follow another stands on a later line
abbrev pub LinesInOrder : List Bool → List Label → List (List ℕ) → Type 0
LinesInOrder flags ls lines =
    (x y : ℕ) → Stands x (joined lines) → Stands y (joined lines) → MustFollow flags ls x y →
    line_of x lines < line_of y lines

-- one of two events writes, and they are of one byte of the memory
abbrev pub Meet : List ℕ → List Label → ℕ → ℕ → Type 0
Meet places ls x y =
    ((label_at ls x).writes || (label_at ls y).writes ≡ true)
    × (label_place places (label_at ls x) ≡ label_place places (label_at ls y))

-- no event stands after a greater one that it meets
abbrev pub InOrder : List ℕ → List Label → List ℕ → Type 0
InOrder places ls [] = Unit {0}
InOrder places ls (y ∷ ys) =
    ((x : ℕ) → Stands x ys → x < y → Meet places ls x y → ⊥) × InOrder places ls ys
