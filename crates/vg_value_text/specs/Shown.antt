-- What is shown of the values that the code holds.
use Rattle.std.specs.Prelude.{Some, None, if◌then◌else◌}
use Rattle.vg_shapes.specs.Sound.{cuts_of, terms_of}
use Rattle.vg_value_text.specs.declared.listing.Values.{Values}
use Rattle.vg_value_text.specs.Listed.{Terms}

abbrev pub terms_in : Values → Terms
terms_in v =
    record { whole = terms_of v.ssa; cut = if v.more then Some (cuts_of v.ssa) else None }
