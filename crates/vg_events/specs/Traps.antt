-- Where a program and a kernel trap.
use Rattle.std.specs.Prelude.{◌≡◌, ℕ, List}
use Rattle.std.specs.Option.{is_some}
use Rattle.vg_program.specs.declared.program.Program.{Program}
use Rattle.vg_program.specs.Meaning.{Instructions, meaning}
use Rattle.vg_shapes.specs.declared.ssa_unit.SsaUnit.{SsaUnit}
use Rattle.vg_shapes.specs.RunUnits.{run_units, start_of}
use Rattle.vg_events.specs.Events.{unit_labels}
use Rattle.vg_events.specs.Lines.{line_labels}
use Rattle.vg_events.specs.Ranks.{SameCounts}

-- where each label has as many events on both sides, both trap or none does
abbrev pub TrapTogether : Type 0
TrapTogether =
    (called : Instructions) (p : Program) (us : List SsaUnit) (memory places args : List ℕ) →
    SameCounts (unit_labels us) (line_labels p.lines) →
    is_some (meaning called p memory places args)
    ≡ is_some (run_units places us (start_of memory args))
