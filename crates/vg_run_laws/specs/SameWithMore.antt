-- What `check` calls the same is the same with more.
use Rattle.std.specs.Prelude.{◌≡◌, ℕ, true, false, List, Some}
use Rattle.vg_outside.specs.Shelf.{Held}
use Rattle.vg_request.specs.Request.{check, request_of}
use Rattle.vg_top.specs.Verdict.{IsAnswered, verdict}

-- by what a shelf holds, words with `--more` have the verdict of those without it, where that is an answer
abbrev pub SameWithMore : Type 0
SameWithMore =
    (held : Held) (words wider : List (List ℕ)) (instructions kernel program bytes : List ℕ)
    → request_of words ≡ Some (check instructions kernel program false)
    → request_of wider ≡ Some (check instructions kernel program true)
    → IsAnswered (verdict held words) bytes → verdict held wider ≡ verdict held words
