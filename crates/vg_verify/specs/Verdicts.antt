-- What a comparison ends with, as the definition of the first difference sees it.
use Rattle.std.specs.Prelude.{List, Option, Some, None}
use Rattle.std.specs.Option.{option_or}
use Rattle.vg_program.specs.declared.program.Program.{Program}
use Rattle.vg_shapes.specs.declared.ssa.Ssa.{Ssa}
use Rattle.vg_catalog.specs.Entries.{Entry}
use Rattle.vg_events.specs.Events.{kernel_labels}
use Rattle.vg_events.specs.Lines.{line_labels}
use Rattle.vg_known.specs.Difference as known
use Rattle.vg_paired.specs.Found.{access_of, order_of}
use Rattle.vg_verify.specs.declared.verdict.Difference.{Difference}
use Rattle.vg_verify.specs.declared.verdict.Difference.TheVariants.{Params, Opaque, Access, Order, Value}
use Rattle.vg_verify.specs.declared.verdict.Verdict.{Verdict}
use Rattle.vg_verify.specs.declared.verdict.Verdict.TheVariants.{Same, Differs}

abbrev pub difference_of : Difference → known.Difference
difference_of Params = known.params
difference_of (Opaque line) = known.opaque line
difference_of (Access uneven) = access_of uneven
difference_of (Order turned) = order_of turned
difference_of (Value unit kernel program) = known.value unit kernel program

-- the first difference, if there is one
abbrev pub verdict_of : Verdict → Option known.Difference
verdict_of Same = None
verdict_of (Differs d) = Some (difference_of d)

-- ---- the difference from each test on

abbrev pub ordered_difference : known.Equality → List Entry → Ssa → Program → Option known.Difference
ordered_difference equal entries ssa p =
    option_or (known.turned_units ssa (known.lines_by_rank ssa p))
    (known.other_value equal entries ssa p (known.lines_by_rank ssa p))

abbrev pub event_difference : known.Equality → List Entry → Ssa → Program → Option known.Difference
event_difference equal entries ssa p =
    option_or (known.uneven_label (kernel_labels ssa) (line_labels p.lines))
    (ordered_difference equal entries ssa p)

abbrev pub inner_difference : known.Equality → List Entry → Ssa → Program → Option known.Difference
inner_difference equal entries ssa p =
    option_or (known.opaque_line entries p) (event_difference equal entries ssa p)
