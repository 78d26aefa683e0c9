-- Steps that may fail, one after the other: `x ← first` goes on with what first gives, and the first error stays.
use Rattle.std.specs.Prelude.{Option, Some, None, Result, Ok, Err}

infixl 10 ◌>>=◌
abbrev pub ◌>>=◌ : {A B E : Type 0} → Result A E → (A → Result B E) → Result B E
(Ok x) >>= f = f x
(Err e) >>= f = Err e

-- what is there, or this fault
abbrev pub or_fault : {A E : Type 0} → Option A → E → Result A E
or_fault (Some x) fault = Ok x
or_fault None fault = Err fault
