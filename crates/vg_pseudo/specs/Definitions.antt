-- What is known of the DEFINEs that stand as a whole before.
use Rattle.std.specs.Prelude.{ℕ, Bool, List, [], ◌∷◌, Option, Some, None, if◌then◌else◌}
use Rattle.std.specs.Str.{bytes_eq}
use Rattle.vg_pseudo.specs.declared.definitions.Callee.{Callee}

-- a name, and what is known of the last DEFINE of that name
pub record Known : Type 0 where
  pub name : List ℕ
  pub callee : Callee

-- the DEFINE that a name calls
unfoldable pub callee_of : List Known → List ℕ → Option Callee
callee_of [] name = None
callee_of (k ∷ ks) name = if bytes_eq name k.name then Some k.callee else callee_of ks name

-- and one DEFINE more, which hides one of the same name
unfoldable pub with_callee : List Known → List ℕ → Callee → List Known
with_callee [] name callee = record { name = name; callee = callee } ∷ []
with_callee (k ∷ ks) name callee =
    if bytes_eq name k.name then record { name = k.name; callee = callee } ∷ ks else k ∷ with_callee ks name callee

-- the DEFINEs before, and whether a DEFINE is being read
pub record Context : Type 0 where
  pub known : List Known
  pub inside : Bool
