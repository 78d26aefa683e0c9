-- On what a read depends.
use Rattle.std.specs.Prelude.{Bool, false, List}
use Rattle.std.specs.Option.{option_map_or}
use Rattle.vg_shapes.specs.declared.access.Access.{Access}
use Rattle.vg_shapes.specs.declared.ssa_unit.SsaUnit.{SsaUnit}
use Rattle.vg_shapes.specs.Depends.{conflict}
use Rattle.vg_shapes.specs.Layout.{access_of}

-- a unit is one on which a read depends
abbrev pub is_disturbed : List Bool → Access → SsaUnit → Bool
is_disturbed flags x u = option_map_or (λ y. conflict flags y x) (access_of u) false
