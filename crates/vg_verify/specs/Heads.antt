-- The head of a program for a kernel.
use Rattle.std.specs.Prelude.{◌≡◌, map}
use Rattle.vg_program.specs.declared.program.Program.{Program}
use Rattle.vg_shapes.specs.declared.ssa.Ssa.{Ssa}
use Rattle.vg_emission.specs.Program.{param_of}

-- a program has the name of a kernel and its parameters, without what is noalias
pub record HasHead (ssa : Ssa) (p : Program) : Type 0 where
  pub name : p.name ≡ ssa.name
  pub params : p.params ≡ map param_of ssa.params
