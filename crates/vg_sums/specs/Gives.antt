-- What a function of the code returned, seen by a view, against what its definition gives: nothing, where
-- a bound is passed. Want of memory says nothing.
use Rattle.std.specs.Prelude.{◌≡◌, Option, Some, None, Result, Ok, Err}
use Rattle.vg_sums.specs.declared.lost.Lost.{Lost}
use Rattle.vg_sums.specs.declared.lost.Lost.TheVariants.{Past, Memory}
use Rattle.vg_sums.specs.declared.sum.Sum.{Sum}
use Rattle.vg_sums.specs.Sums.{Polynomial, polynomial}

abbrev pub Gives : Result Sum Lost → Option Polynomial → Type 0
Gives (Ok x) given = given ≡ Some (polynomial x)
Gives (Err Past) given = given ≡ None
Gives (Err (Memory e)) given = Unit {0}

-- a number that fits, and so never passes a bound
abbrev pub GivesNumber : Result Sum Lost → Polynomial → Type 0
GivesNumber result given = Gives result (Some given)
