-- Refusals by their numbers, names and places.
use Rattle.std.specs.Prelude.{ℕ, List, Option, Some, None, codes}
use Rattle.vg_text.specs.declared.place.Place.{Place}
use Rattle.vg_pseudo.specs.declared.fault.PseudoFault.{PseudoFault}
use Rattle.vg_pseudo.specs.declared.fault.PseudoFault.TheVariants.{Token, Shape, NestingTooDeep, Memory}

-- the number of a refusal; want of memory has none
abbrev pub number_of_fault : PseudoFault → Option ℕ
number_of_fault (Token p) = Some 1
number_of_fault (Shape p) = Some 2
number_of_fault (NestingTooDeep p) = Some 3
number_of_fault (Memory e) = None

-- the number and the name of a refusal, as `2 Shape`
abbrev pub name_of_fault : PseudoFault → List ℕ
name_of_fault (Token p) = codes "1 Token"
name_of_fault (Shape p) = codes "2 Shape"
name_of_fault (NestingTooDeep p) = codes "3 NestingTooDeep"
name_of_fault (Memory e) = codes "memory"

-- the place of a refusal
abbrev pub place_of_fault : PseudoFault → Option Place
place_of_fault (Token p) = Some p
place_of_fault (Shape p) = Some p
place_of_fault (NestingTooDeep p) = Some p
place_of_fault (Memory e) = None
