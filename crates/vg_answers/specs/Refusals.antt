-- Refusals by numbers.
use Rattle.std.specs.Prelude.{ℕ, List, [], Option, Some, None, Result, Ok, Err, unwrap_or, Vec}
use Rattle.std.specs.declared.alloc.Global.{Global}
use Rattle.vg_text.specs.declared.place.Place.{Place}
use Rattle.vg_catalog.specs.Faults as catalog
use Rattle.vg_kernel.specs.Faults as kernel
use Rattle.vg_program.specs.Faults as program
use Rattle.vg_top.specs.declared.ending.Ending.{Ending}
use Rattle.vg_top.specs.declared.ending.Ending.TheVariants.{Instructions, Kernel, Program, Differs}
use Rattle.vg_answers.specs.declared.report.Report.{Report}

-- the number of a refusal among those of its kind of text, and the place that it names; zeros where
-- there is none
pub record Refusal : Type 0 where
  pub number : ℕ
  pub line : ℕ
  pub column : ℕ

abbrev pub no_refusal : Refusal
no_refusal = record { number = 0; line = 0; column = 0 }

abbrev pub placed : Option ℕ → Option Place → Refusal
placed number None = record { number = unwrap_or number 0; line = 0; column = 0 }
placed number (Some p) =
    record { number = unwrap_or number 0; line = p.line; column = p.column }

-- the refusal of a text that an ending tells of
abbrev pub refusal_of : Ending → Refusal
refusal_of (Instructions n f) = placed (catalog.number_of_fault f) (catalog.place_of_fault f)
refusal_of (Kernel n f) = placed (kernel.number_of_fault f) (kernel.place_of_fault f)
refusal_of (Program n f) = placed (program.number_of_fault f) (program.place_of_fault f)
refusal_of e = no_refusal

-- the text of the first difference, where an ending tells of one
abbrev pub difference_in : Ending → List ℕ
difference_in (Differs text) = text
difference_in e = []

abbrev pub refusal_in : Result (Vec ℕ Global) Ending → Refusal
refusal_in (Ok bytes) = no_refusal
refusal_in (Err e) = refusal_of e

-- what the code's value says of a refusal
abbrev pub refusal_seen : Report → Refusal
refusal_seen r = record { number = r.number; line = r.line; column = r.column }
