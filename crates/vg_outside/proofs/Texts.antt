-- Bytes that are text, and bytes that are not.
use Rattle.std.proofs.Common.{◌≡◌, Bool, true, false, ℕ, List, refl}
use Rattle.std.specs.Str.{IsUtf8, is_utf8}
use Rattle.std.proofs.lemmas.Str.{IsUtf8-from_is_utf8}

-- what is no text does not test as text
pub no_text : (w : List ℕ) → (IsUtf8 w → ⊥) → is_utf8 w ≡ false
no_text w is_none = by_test (is_utf8 w) (IsUtf8-from_is_utf8 w)
  where
    by_test : (b : Bool) → (b ≡ true → IsUtf8 w) → b ≡ false
    by_test true h = absurd (is_none (h refl))
    by_test false h = refl
