-- Scratch in which packs are tried after a plan.
use Rattle.std.specs.Prelude.{◌+◌, Bool, length, List}
use Rattle.std.specs.List.{flat_map}
use Rattle.vg_shapes.specs.declared.pack.Pack.{Pack}
use Rattle.vg_shapes.specs.declared.ssa.Ssa.{Ssa}
use Rattle.vg_shapes.specs.Pack.{units_of}
use Rattle.vg_shapes.specs.Units.{arguments}
use Rattle.vg_cost.specs.Marks.{Has}

-- the marks are those of the units of the plan
abbrev pub IsScratchFor : Ssa → List Pack → List Bool → Type 0
IsScratchFor ssa packs marks = Has (arguments ssa + length ssa.units) (flat_map units_of packs) marks
