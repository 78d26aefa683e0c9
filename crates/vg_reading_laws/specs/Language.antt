-- What it means that a reader of texts reads a language.
use Rattle.std.specs.Prelude.{◌≡◌, ◌↔◌, ℕ, List, Result, Ok, Err}

-- What is read is what the text spells, and what a text spells is read. So a text spells one thing at
-- most, and it is refused, with a first fault, exactly where it spells nothing.
pub record IsLanguage {X F : Type 0} (read : List ℕ → Result X F) (Spells : List ℕ → X → Type 0) : Type 0 where
  pub found : (text : List ℕ) (x : X) → read text ≡ Ok x → Spells text x
  pub again : (text : List ℕ) (x : X) → Spells text x → read text ≡ Ok x
  pub one : (text : List ℕ) (x y : X) → Spells text x → Spells text y → x ≡ y
  pub refused : (text : List ℕ)
      → ((fault : F) × (read text ≡ Err fault)) ↔ ((x : X) → Spells text x → ⊥)
