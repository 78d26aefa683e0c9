-- What nodes depend on, in rows of units, and how far the rows are known.
use Rattle.std.specs.Prelude.{◌≡◌, ℕ, ◌+◌, Bool, true, false, List, [], ◌∷◌, ◌++◌, drop, map, slice_index, slice_index_or, Option, Some, None}
use Rattle.std.specs.List.{concat}
use Rattle.vg_shapes.specs.DepList.{row_of}
use Rattle.vg_shapes.specs.Order.{Stands}
use Rattle.vg_order.specs.declared.needs.Cursor.{Cursor}
use Rattle.vg_order.specs.declared.needs.Look.{Look}
use Rattle.vg_order.specs.declared.needs.Needs.{Needs}
use Rattle.vg_order.specs.declared.needs.Needs.TheVariants.{Those, RowsOf}

-- the units on which a node depends, in rows
abbrev pub rows_of : List (ℕ × ℕ) → Needs → List (List ℕ)
rows_of deps (Those us) = us ∷ []
rows_of deps (RowsOf us) = map (row_of deps) us

-- a flag by its index, false past the end
abbrev pub flag_at : List Bool → ℕ → Bool
flag_at flags n = slice_index_or flags n false

-- what stands in rows from a place on
abbrev pub left_from : List (List ℕ) → Cursor → List ℕ
left_from rows c = drop c.index (slice_index_or rows c.row []) ++ concat (drop (c.row + 1) rows)

-- the nodes of these units are placed
abbrev pub ArePlaced : List ℕ → List Bool → List ℕ → Type 0
ArePlaced homes placed us = (x : ℕ) → Stands x us → flag_at placed (slice_index homes x) ≡ true

-- what is left at one place is placed up to what is left at another
abbrev pub Passes : List ℕ → List Bool → List ℕ → List ℕ → Type 0
Passes homes placed before after =
    (passed : List ℕ) × (before ≡ passed ++ after) × ArePlaced homes placed passed

-- of these units all before this one are placed
abbrev pub ComesFirst : List ℕ → List Bool → List ℕ → ℕ → Type 0
ComesFirst homes placed us x = (rest : List ℕ) × Passes homes placed us (x ∷ rest)

-- where a look along rows stops: at a unit that is not placed, or after the last row
abbrev pub StopsAt : List ℕ → List Bool → List ℕ → Option ℕ → Type 0
StopsAt homes placed left None = left ≡ []
StopsAt homes placed left (Some x) =
    (rest : List ℕ) × (left ≡ x ∷ rest) × (flag_at placed (slice_index homes x) ≡ false)

-- a look that began at a place
pub record Looked
    (homes : List ℕ) (placed : List Bool) (rows : List (List ℕ)) (from : Cursor) (look : Look)
    : Type 0 where
  pub passes : Passes homes placed (left_from rows from) (left_from rows look.cursor)
  pub stops : StopsAt homes placed (left_from rows look.cursor) look.open
