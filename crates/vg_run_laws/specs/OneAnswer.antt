-- What is answered to words is one text.
use Rattle.std.specs.Prelude.{◌≡◌, ℕ, List}
use Rattle.vg_outside.specs.Shelf.{Held}
use Rattle.vg_top.specs.Verdict.{IsAnswered, verdict}

-- by what a shelf holds there is at most one text that answers words
abbrev pub OneAnswer : Type 0
OneAnswer =
    (held : Held) (words : List (List ℕ)) (one other : List ℕ)
    → IsAnswered (verdict held words) one → IsAnswered (verdict held words) other → one ≡ other
