-- What the functions that resolve names give, as the definition of names speaks of it.
use Rattle.std.specs.Prelude.{ℕ, List, [], ◌∷◌, Option, Some, None, Result, Ok, if◌then◌else◌}
use Rattle.vg_base.specs.Bind.{◌>>=◌}
use Rattle.vg_base.specs.Gives as returned
use Rattle.vg_text.specs.declared.place.Place.{Place}
use Rattle.vg_pseudo.specs.Names.{Scope, named}
use Rattle.vg_pseudo.specs.Resolve.{assigned_register, resolved}
use Rattle.vg_pseudo.specs.Tree.{Expression, number}
use Rattle.vg_pseudo.specs.Tree as tree
use Rattle.vg_pseudo.specs.Same.{same}
use Rattle.vg_pseudo.specs.Resolve as resolve
use Rattle.vg_pseudo.specs.Resolved.{Expr, Arguments, more, Target, bits, lane}
use Rattle.vg_names.specs.declared.name_fault.NameFault.{NameFault}
use Rattle.vg_names.specs.declared.name_fault.NameFault.TheVariants.{UnknownName, BareRegister, Memory}

-- the fault of an operation that an error tells; want of memory tells none
abbrev pub told : NameFault → Option resolve.NameFault
told (UnknownName place) = Some (resolve.unknown_name place)
told (BareRegister place) = Some (resolve.bare_register place)
told (Memory e) = None

-- the same value or fault, unless there was no memory
abbrev pub Gives : {X Y : Type 0} → (X → Y) → Result X NameFault → Result Y resolve.NameFault
    → Type 0
Gives view result given = returned.Gives told view result given

-- n, where a sum has it on its right and this index on its left
abbrev pub spread_by : Expression → Expression → Expression → Option ℕ
spread_by x (number place n) low = if same x low then Some n else None
spread_by x _ low = None

-- these arguments, and the others after them
abbrev pub list_behind : List Expr → Arguments → Arguments
list_behind [] xs = xs
list_behind (x ∷ done) xs = more x (list_behind done xs)

-- and where the others are still to be resolved
abbrev pub all_behind : List Expr → Result Arguments resolve.NameFault
    → Result Arguments resolve.NameFault
all_behind done r = r >>= λ xs. Ok (list_behind done xs)

-- the first argument, if there is one, and what is left
abbrev pub next_argument_of : Scope → tree.Arguments
    → Result (Option (Expr × tree.Arguments)) resolve.NameFault
next_argument_of s tree.end = Ok None
next_argument_of s (tree.more x xs) = do
  first ← resolved s x
  Ok (Some (first, xs))

-- the target `name[high:low]`
abbrev pub bits_of : Scope → Place → List ℕ → Expression → Expression
    → Result Target resolve.NameFault
bits_of s place n h l = do
  r ← assigned_register place (named s n)
  high ← resolved s h
  low ← resolved s l
  Ok (bits r.0 high low)

-- an element of so many bits as a target
abbrev pub lane_of : Scope → Place → List ℕ → ℕ → Expression → Result Target resolve.NameFault
lane_of s place n size k = do
  r ← assigned_register place (named s n)
  index ← resolved s k
  Ok (lane r.0 size index)
