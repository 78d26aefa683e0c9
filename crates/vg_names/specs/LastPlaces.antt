-- Where the last of each name stands.
use Rattle.std.specs.Prelude.{◌≡◌, ℕ, List, None}
use Rattle.std.specs.Str.{bytes_eq}
use Rattle.std.specs.Map.{lookup}
use Rattle.vg_pseudo.specs.Names.{last_function}

-- each name is found in the table where the last of it stands
abbrev pub AreLast : {K : Type 0} → (K → List ℕ) → List (List ℕ) → List (K × ℕ) → Type 0
AreLast items names places =
    (n : List ℕ) → lookup (λ k. bytes_eq n (items k)) places ≡ last_function 0 None names n
