-- What names mean at a place, as the definition of names speaks of it.
use Rattle.std.specs.Prelude.{ℕ, List, []}
use Rattle.vg_pseudo.specs.Names.{Register, Scope, Meaning, a_turn, a_register, a_variable, nothing}
use Rattle.vg_names.specs.declared.scope.Meaning as code
use Rattle.vg_names.specs.declared.scope.Meaning.TheVariants as meaning
use Rattle.vg_names.specs.Registers.{register_view}

abbrev pub meaning_view : code.Meaning → Meaning
meaning_view (meaning.Turn k) = a_turn k
meaning_view (meaning.Register k r) = a_register k (register_view r.now)
meaning_view (meaning.Variable k) = a_variable k
meaning_view meaning.Nothing = nothing

-- outside of all FORs
abbrev pub scope_over : List Register → List (List ℕ) → List (List ℕ) → Scope
scope_over registers variables functions = record {
  registers = registers;
  variables = variables;
  turns = [];
  functions = functions;
}
