-- What a rule keeps.
use Rattle.std.specs.Prelude.{◌≡◌}
use Rattle.vg_terms.specs.declared.value.Env.{Env}
use Rattle.vg_terms.specs.Term.{Tree, width_of, WellFormed}
use Rattle.vg_terms.specs.Value.{value}

-- the new term is well-formed, and has the width of the old one and its value in every environment
pub record Keeps (old new : Tree) : Type 0 where
  pub well_formed : WellFormed new
  pub width : width_of new ≡ width_of old
  pub value : (env : Env) → value env new ≡ value env old
