-- The words of a text with their places.
use Rattle.std.specs.Prelude.{ℕ, List, [], ◌∷◌, Option, Some, None}
use Rattle.std.specs.Option.{option_map}
use Rattle.vg_text.specs.Token.{Lexemes, token, finish, fault}
use Rattle.vg_text.specs.Words.{Reading, Spelled, reading_of, spelled}

abbrev pub Words : Type 0
Words = List Spelled

-- the words that are left, or None where a byte, name or number is no token
unfoldable pub script_from : List ℕ → Lexemes → Option Words
script_from text (token t rest) = option_map (λ ws. spelled text t ∷ ws) (script_from text rest)
script_from text (finish t) = Some []
script_from text (fault p) = None

abbrev pub script_left : Reading → Option Words
script_left r = script_from r.text r.left

-- the words of a whole text
abbrev pub script_of : List ℕ → Option Words
script_of text = script_left (reading_of text)
