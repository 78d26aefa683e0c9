-- The laws on the programs of looped texts.
use Rattle.std.specs.Prelude.{List}
use Rattle.vg_pseudo.specs.declared.header.Header.{Header}
use Rattle.vg_program.specs.Valid.{IsValid}
use Rattle.vg_looped.specs.declared.looped.Looped.{Looped}
use Rattle.vg_looped.specs.Looped.{IsLooped}

-- Both programs of a looped text are valid: each keeps the rules, and has a text of at most 4 MiB.
abbrev pub LoopedProgramsAreValid : Type 0
LoopedProgramsAreValid =
    (headers : List Header) (l : Looped) → IsLooped headers l
    → IsValid headers l.block × IsValid headers l.rest
