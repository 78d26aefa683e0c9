-- The law on what is told with more.
use Rattle.std.specs.Prelude.{◌≡◌, true, false, List, None}
use Rattle.vg_catalog.specs.Entries.{Entry}
use Rattle.vg_kernel.specs.Tree.{Tree}
use Rattle.vg_program.specs.declared.program.Program.{Program}
use Rattle.vg_check.specs.Compared.{told_difference}

-- where nothing is told without more, nothing is told with it
abbrev pub SameIsToldWithMore : Type 0
SameIsToldWithMore =
    (entries : List Entry) (k : Tree) (p : Program)
    → told_difference entries k p false ≡ None → told_difference entries k p true ≡ None
