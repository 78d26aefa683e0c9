-- A reader that reads what is spelled, and nothing else, reads a language.
use Rattle.std.proofs.Common.{◌≡◌, ℕ, List, Result, Ok, Err, refl}
use Rattle.std.specs.Prelude.{◌↔◌}
use Rattle.vg_reading_laws.specs.Language.{IsLanguage}

pub a-language : {X F : Type 0} (read : List ℕ → Result X F) (Spells : List ℕ → X → Type 0)
    → ((text : List ℕ) (x : X) → read text ≡ Ok x → Spells text x)
    → ((text : List ℕ) (x : X) → Spells text x → read text ≡ Ok x)
    → IsLanguage read Spells
a-language {X} {F} read Spells found again =
    record { found = found; again = again; one = one; refused = refused }
  where
    one : (text : List ℕ) (x y : X) → Spells text x → Spells text y → x ≡ y
    one text x y sx sy =
        let first = again text x sx in
        let second = again text y sy in
        cc

    none : (text : List ℕ) → ((fault : F) × (read text ≡ Err fault)) → (x : X) → Spells text x → ⊥
    none text (fault, is) x spelled = let first = again text x spelled in cc

    some : (text : List ℕ) → ((x : X) → Spells text x → ⊥) → (fault : F) × (read text ≡ Err fault)
    some text nothing = by (read text) refl
      where
        by : (given : Result X F) → read text ≡ given → (fault : F) × (read text ≡ Err fault)
        by (Ok x) is = absurd (nothing x (found text x is))
        by (Err fault) is = (fault, is)

    refused : (text : List ℕ) → ((fault : F) × (read text ≡ Err fault)) ↔ ((x : X) → Spells text x → ⊥)
    refused text = (none text, some text)
