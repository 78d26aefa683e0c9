-- What is told of a kernel and a program.
use Rattle.std.specs.Prelude.{ℕ, Bool, List, [], map, Option, Some, None}
use Rattle.std.specs.Option.{option_map}
use Rattle.vg_catalog.specs.Entries.{Entry}
use Rattle.vg_kernel.specs.Tree.{Tree}
use Rattle.vg_program.specs.declared.program.Program.{Program}
use Rattle.vg_shapes.specs.declared.ssa.Ssa.{Ssa}
use Rattle.vg_ssa.specs.Numbering.{param_of, units_of}
use Rattle.vg_known.specs.Difference.{difference_by}
use Rattle.vg_known.specs.WiderDifference.{equality}
use Rattle.vg_check.specs.declared.comparing.Comparison.{Comparison}
use Rattle.vg_check.specs.declared.comparing.Comparison.TheVariants.{Same, Differs}
use Rattle.vg_check.specs.Told.{difference_text}

-- the numbered values of a kernel, without the terms that packs are found by: no difference looks at them
abbrev pub values_of : Tree → Ssa
values_of k =
    record { name = k.name; params = map param_of k.params; units = units_of k; terms = []; cuts = [] }

-- the text of the first difference, and with more of the first wider one, if there is one, where the
-- program may call these entries
unfoldable pub told_difference : List Entry → Tree → Program → Bool → Option (List ℕ)
told_difference entries k p more =
    option_map (difference_text p.params)
    (difference_by (equality more) entries (values_of k) p)

-- the text that the code's value tells
abbrev pub text_in : Comparison → Option (List ℕ)
text_in Same = None
text_in (Differs text) = Some text
