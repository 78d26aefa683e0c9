-- What is told of the first difference between a kernel and a program.
use Rattle.std.specs.Prelude.{ℕ, Bool, true, false, List, ◌++◌, codes}
use Rattle.std.specs.Fmt.{decimal}
use Rattle.vg_terms.specs.declared.text.Names.{Names}
use Rattle.vg_terms.specs.Term.{Tree}
use Rattle.vg_terms.specs.Text.{text}
use Rattle.vg_program.specs.declared.param.Param.{Param}
use Rattle.vg_program.specs.Text.{address_text}
use Rattle.vg_events.specs.Events.{Label}
use Rattle.vg_known.specs.Difference as known
use Rattle.vg_value_text.specs.Names.{names_of}

-- what a byte event does
abbrev pub word_of : Bool → List ℕ
word_of true = codes "store "
word_of false = codes "load "

-- `opaque 3`: a line of the text
abbrev pub opaque_text : ℕ → List ℕ
opaque_text line = codes "opaque " ++ decimal line

-- `access load s+0 kernel 1 program 0`: a byte, and how many events each side has there
abbrev pub access_text : List Param → Label → ℕ → ℕ → List ℕ
access_text ps l a b =
    codes "access " ++ word_of l.writes ++ address_text ps l.address
    ++ codes " kernel " ++ decimal a ++ codes " program " ++ decimal b

-- `order 1 2`: two units by the numbers of their values
abbrev pub order_text : ℕ → ℕ → List ℕ
order_text v w = codes "order " ++ decimal v ++ codes " " ++ decimal w

-- `value 2 (add8 k:8 1:8) (add8 k:8 2:8)`: a store, and the terms of what the kernel and the program
-- write there
abbrev pub value_text : Names → ℕ → Tree → Tree → List ℕ
value_text names v t u =
    codes "value " ++ decimal v ++ codes " " ++ text names t ++ codes " " ++ text names u

-- with the names of these parameters
abbrev pub difference_text : List Param → known.Difference → List ℕ
difference_text ps known.params = codes "params"
difference_text ps (known.opaque line) = opaque_text line
difference_text ps (known.access l a b) = access_text ps l a b
difference_text ps (known.order v w) = order_text v w
difference_text ps (known.value v t u) = value_text (names_of ps) v t u
