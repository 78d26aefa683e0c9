-- Words after a command.
use Rattle.std.specs.Prelude.{ℕ, Bool, List, Option, Some, None, ◌==◌, is_some, slice_index, if◌then◌else◌}
use Rattle.std.specs.Str.{is_utf8}

-- a word that is text
abbrev pub text_word : List ℕ → Option (List ℕ)
text_word w = if is_utf8 w then Some w else None

-- a word that is no option, and the value of an option: text that does not begin with `-`
abbrev pub plain_word : List ℕ → Option (List ℕ)
plain_word w = if slice_index w 0 == 45 then None else text_word w

-- whether it is one
abbrev pub is_plain : List ℕ → Bool
is_plain w = is_some (plain_word w)
