-- Entries that a text can say.
use Rattle.std.specs.Prelude.{List, [], ◌∷◌}
use Rattle.vg_names.specs.Written.{IsWritten}
use Rattle.vg_catalog.specs.Entries.{Entry}

-- each is one that a text can say: its registers and its numbers are no larger than those of texts
abbrev pub AllWritten : List Entry → Type 0
AllWritten [] = Unit {0}
AllWritten (e ∷ es) = IsWritten e.header e.operation × AllWritten es
