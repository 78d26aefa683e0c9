-- What is found to be added to a kernel and a program.
use Rattle.std.specs.Prelude.{◌≡◌, false, nat_le, length, map, Option, Some, None}
use Rattle.vg_program.specs.declared.program.Program.{Program}
use Rattle.vg_shapes.specs.declared.ssa.Ssa.{Ssa}
use Rattle.vg_shapes.specs.Layout.{noalias_flags}
use Rattle.vg_events.specs.Events.{kernel_labels}
use Rattle.vg_events.specs.Lines.{line_labels}
use Rattle.vg_paired.specs.ByteLabels.{label_of}
use Rattle.vg_levelled.specs.declared.added.Added as code
use Rattle.vg_levelled.specs.declared.sides.Sides.{Sides}
use Rattle.vg_levelled.specs.Adding.{Counted}
use Rattle.vg_levelled.specs.Levelled.{Added, added, met_pointers}

-- of a kernel and a program, before anything is added
pub record HasSides (ssa : Ssa) (p : Program) (s : Sides) : Type 0 where
  pub met : s.met.items ≡ met_pointers (noalias_flags ssa) ssa.units
  pub counted : Counted (kernel_labels ssa) (line_labels p.lines) s

-- what the code holds, as the definition has it
abbrev pub seen : code.Added → Added
seen a = record { units = a.units; loads = map label_of a.loads.items }

-- there is none where the kernel would get too many loads
abbrev pub IsAdded : Ssa → Program → Option code.Added → Type 0
IsAdded ssa p None = nat_le (length (added ssa p).units) 8192 ≡ false
IsAdded ssa p (Some a) = seen a ≡ added ssa p
