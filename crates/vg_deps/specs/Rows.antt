-- Dependences of one unit on another, both at hand.
use Rattle.std.specs.Prelude.{ℕ, ◌||◌, Bool, List}
use Rattle.vg_shapes.specs.declared.ssa_unit.SsaUnit.{SsaUnit}
use Rattle.vg_shapes.specs.Depends.{conflict_of}
use Rattle.vg_shapes.specs.Layout.{access_of}
use Rattle.vg_shapes.specs.Units.{uses_value}

-- a unit depends on an earlier one of this number, where these are the flags of the pointers
abbrev pub depends_by : List Bool → SsaUnit → SsaUnit → ℕ → Bool
depends_by flags later earlier number =
    uses_value number later || conflict_of flags (access_of earlier) (access_of later)
