-- The names of values as a list.
use Rattle.std.specs.Prelude.{ℕ, ◌+◌, List, [], ◌∷◌, unwrap_or}
use Rattle.vg_terms.specs.Term.{Tree, constant}
use Rattle.vg_shapes.specs.declared.ssa.Ssa.{Ssa}
use Rattle.vg_shapes.specs.Sound.{cuts_of, name_of}

-- what stands in the place of a name that a value has not: no leaf is bound to a value by a constant
abbrev pub no_name : Tree
no_name = constant 8 0

-- the names of the values that have these cut terms, the first value having this number
abbrev pub names_from : Ssa → ℕ → List Tree → List Tree
names_from ssa v [] = []
names_from ssa v (t ∷ ts) = unwrap_or (name_of ssa v t) no_name ∷ names_from ssa (v + 1) ts

abbrev pub names_of : Ssa → List Tree
names_of ssa = names_from ssa 0 (cuts_of ssa)
