-- A search on the way.
use Rattle.std.specs.Prelude.{◌≡◌, ℕ, Bool, List, drop}
use Rattle.std.specs.List.{position_from}
use Rattle.vg_program.specs.declared.line.Line.{Line}

-- the first line that passes a test stands after these
pub record Sought (test : Line → Bool) (lines : List Line) (place : ℕ) : Type 0 where
  pub is : position_from test place (drop place lines) ≡ position_from test 0 lines
