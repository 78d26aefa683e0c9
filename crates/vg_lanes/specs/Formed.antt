-- Lanes whose terms are well-formed.
use Rattle.vg_terms.specs.Term.{WellFormed}
use Rattle.vg_shapes.specs.Lane.{Lane, known}

abbrev pub IsFormed : Lane → Type 0
IsFormed (known t) = WellFormed t
IsFormed _ = Unit {0}
