-- What is asked for with a library that is kept.
use Rattle.std.specs.Prelude.{ℕ, Bool}
use Rattle.vg_library.specs.declared.library.Library.{Library}
use Rattle.vg_library.specs.Kept.{set_kept}
use Rattle.vg_request.specs.Options.{Choices}

-- the entries that may be called are those of the set that the library was made for
abbrev pub choices_kept : Library → ℕ → Bool → Choices
choices_kept l width more = record { width = width; allowed = set_kept l; more = more }
