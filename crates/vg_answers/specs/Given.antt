-- The values of parameters, as numbers.
use Rattle.std.specs.Prelude.{ℕ, ◌^◌, Bool, true, false, ◌&&◌, List, [], ◌∷◌, Option, Some, None, nat_lt, if◌then◌else◌}
use Rattle.vg_base.specs.Width.{bits_of}
use Rattle.vg_program.specs.declared.param.Param.{Param}
use Rattle.vg_program.specs.declared.param_kind.ParamKind.{ParamKind}
use Rattle.vg_program.specs.declared.param_kind.ParamKind.TheVariants.{Pointer, Integer}
use Rattle.vg_top.specs.Inputs.{InputLists}

-- the next place is that of a pointer, the next number that of an integer, below 2 to its width, and the
-- rest fits the other parameters
abbrev pub next_fits : ParamKind → (List ℕ → List ℕ → Bool) → List ℕ → List ℕ → Bool
next_fits Pointer others [] args = false
next_fits Pointer others (place ∷ places) args = others places args
next_fits (Integer w) others places [] = false
next_fits (Integer w) others places (number ∷ args) =
    nat_lt number (2 ^ bits_of w) && others places args

abbrev pub none_left : List ℕ → List ℕ → Bool
none_left [] [] = true
none_left places args = false

-- there is one place for each pointer, and for each integer one number in its range, each in their order
unfoldable pub fit : List Param → List ℕ → List ℕ → Bool
fit [] places args = none_left places args
fit (p ∷ ps) places args = next_fits p.kind (fit ps) places args

-- these values, where they fit the parameters
abbrev pub given : List Param → List ℕ → List ℕ → Option InputLists
given ps places args =
    if fit ps places args then Some (record { places = places; args = args }) else None
