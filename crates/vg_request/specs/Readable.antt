-- Which words are read. All others are refused before any memory is taken.
use Rattle.std.specs.Prelude.{ℕ, Bool, true, false, not, ◌&&◌, List, [], ◌∷◌, Option, Some, None, codes, if◌then◌else◌}
use Rattle.std.specs.List.{list_all}
use Rattle.std.specs.Str.{bytes_eq}
use Rattle.vg_request.specs.Word.{is_plain}
use Rattle.vg_request.specs.declared.part.Flag.TheVariants.{Guard, More}
use Rattle.vg_request.specs.declared.reading.Free.{Free}
use Rattle.vg_request.specs.Parts.{Part, width, flag, parts_of, widths_in, flags_in}

abbrev pub is_nothing : List (List ℕ) → Bool
is_nothing [] = true
is_nothing (v ∷ vs) = false

abbrev pub at_most_one : List (List ℕ) → Bool
at_most_one [] = true
at_most_one (v ∷ vs) = is_nothing vs

-- there is at most one, or none where none may stand
abbrev pub are_few : Bool → List (List ℕ) → Bool
are_few free vs = if free then at_most_one vs else is_nothing vs

-- There are parts; at most one of them is a width, where it is free to stand there, and at most one
-- `--guard` and one `--more`, where those are.
abbrev pub may_follow : Free → Option (List Part) → Bool
may_follow free None = false
may_follow free (Some parts) =
    are_few free.width (widths_in parts)
    && (are_few free.guard (flags_in Guard parts) && are_few free.more (flags_in More parts))

-- a part that is not free to stand
abbrev pub is_one_more : Free → Part → Bool
is_one_more free (width v) = not free.width
is_one_more free (flag Guard) = not free.guard
is_one_more free (flag More) = not free.more
is_one_more free _ = false

-- what is free to stand after a part
abbrev pub free_behind : Free → Part → Free
free_behind free (width v) = record free { width = false }
free_behind free (flag Guard) = record free { guard = false }
free_behind free (flag More) = record free { more = false }
free_behind free _ = free

-- what is free to stand at first, where `--guard` is or is not
abbrev pub free_first : Bool → Free
free_first guard_free = record { width = true; guard = guard_free; more = true }

-- options with their values, one width at most, `--guard` at most once and only where it may stand,
-- `--more` at most once, and texts that do not begin with `-`
abbrev pub are_options : Bool → List (List ℕ) → Bool
are_options guard_free words = may_follow (free_first guard_free) (parts_of words)

-- texts that do not begin with `-`
abbrev pub are_plain : List (List ℕ) → Bool
are_plain words = list_all is_plain words

-- after `compile`, `explain`, `check` and `terms` options may stand, and `--guard` after `compile` alone
abbrev pub are_read : List (List ℕ) → Bool
are_read [] = false
are_read (command ∷ words) =
    if bytes_eq command (codes "compile") then are_options true words
    else if bytes_eq command (codes "run") then are_plain words
    else if bytes_eq command (codes "eval") then are_plain words
    else if bytes_eq command (codes "lift") then are_plain words
    else if bytes_eq command (codes "explain") then are_options false words
    else if bytes_eq command (codes "trial") then are_plain words
    else if bytes_eq command (codes "check") then are_options false words
    else if bytes_eq command (codes "terms") then are_options false words
    else false
