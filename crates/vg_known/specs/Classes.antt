-- What an environment says of the terms that were met.
use Rattle.std.specs.Prelude.{◌≡◌, ℕ, ◌<◌, List, [], ◌∷◌, length, get_or}
use Rattle.vg_terms.specs.declared.value.Env.{Env}
use Rattle.vg_terms.specs.Term.{Tree, leaf, WellFormed, width_of}
use Rattle.vg_terms.specs.Value.{value}
use Rattle.vg_shapes.specs.Sound.{cut_key}
use Rattle.vg_ssa.specs.ValueTerm.{no_term}

-- each is well-formed
abbrev pub AllFormed : List Tree → Type 0
AllFormed [] = Unit {0}
AllFormed (t ∷ ts) = WellFormed t × AllFormed ts

-- The leaf of each class has the value of the class's term.
abbrev pub ClassesMean : Env → List Tree → Type 0
ClassesMean env met =
    (c : ℕ) → c < length met → WellFormed (get_or met c no_term) →
    value env (leaf (width_of (get_or met c no_term)) (cut_key c)) ≡ value env (get_or met c no_term)
