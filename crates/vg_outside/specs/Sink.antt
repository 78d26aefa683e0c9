-- What a write does to what was written.
use Rattle.std.specs.Prelude.{◌≡◌, ℕ, List, ◌++◌, take, Option, option_map}

-- where told: these bytes stand after what was written
abbrev pub Appends : Option (List ℕ) → List ℕ → Option (List ℕ) → Type 0
Appends before bytes now = now ≡ option_map (λ old. old ++ bytes) before

-- where told: some of the first of these bytes stand after what was written
abbrev pub AppendsFront : Option (List ℕ) → List ℕ → Option (List ℕ) → Type 0
AppendsFront before bytes now = (n : ℕ) × Appends before (take n bytes) now
