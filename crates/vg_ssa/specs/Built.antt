-- Units that are numbered one after the other.
use Rattle.std.specs.Prelude.{◌<◌, ◌+◌, ◌^◌, ◌≡◌, ℕ, List, [], ◌∷◌, ◌++◌, length}
use Rattle.vg_base.specs.declared.width.Width.{Width}
use Rattle.vg_kernel.specs.Tree.{Expression, Statement, assign, store}
use Rattle.vg_shapes.specs.declared.ssa_unit.Operator.{Operator}
use Rattle.vg_shapes.specs.declared.ssa_unit.Operator.TheVariants.{Select}
use Rattle.vg_shapes.specs.declared.ssa_unit.SsaUnit.{SsaUnit}
use Rattle.vg_shapes.specs.declared.ssa_unit.SsaUnit.TheVariants.{Operation, Store}
use Rattle.vg_shapes.specs.declared.wanted.Wanted.{Wanted}
use Rattle.vg_shapes.specs.declared.wanted.Wanted.TheVariants.{Nothing}
use Rattle.vg_ssa.specs.declared.values.Values.{Values}
use Rattle.vg_ssa.specs.Numbering.{found, Numbered, numbered, operands}

-- the number of the first unit, the units so far, and what stands for the names that statements gave
pub record Built : Type 0 where
  pub first : ℕ
  pub units : List SsaUnit
  pub names : List Wanted

-- what values of the code hold
abbrev pub built : Values → Built
built v = record { first = v.first; units = v.units.items; names = v.names.items }

-- the number of the next unit
abbrev pub next : Built → ℕ
next b = b.first + length b.units

-- these units more
abbrev pub with_units : Built → List SsaUnit → Built
with_units b us = record { first = b.first; units = b.units ++ us; names = b.names }

-- a name more
abbrev pub with_name : Built → Wanted → Built
with_name b x = record b { names = b.names ++ x ∷ [] }

-- there are numbers for these units
abbrev pub CanTake : Built → List SsaUnit → Type 0
CanTake b us = next b + length us < 2 ^ 32

-- what was numbered is after the rest, and this stands for its value
pub record Numbers (b : Built) (p : Numbered) (new : Built) (x : Wanted) : Type 0 where
  pub built : new ≡ with_units b p.units
  pub value : x ≡ p.value

-- the units of an expression behind the rest
abbrev pub numbered_in : Built → Expression → Numbered
numbered_in b e = numbered (next b) b.names e

-- an operation of a width and an amount on what one, two or three expressions give
abbrev pub single_in : Built → Operator → Width → ℕ → Expression → Numbered
single_in b op w k x =
    let p = numbered_in b x in
    found (next b) p.units (Operation op w k (operands p.value Nothing Nothing))

abbrev pub pair_in : Built → Operator → Width → Expression → Expression → Numbered
pair_in b op w x y =
    let p = numbered_in b x in
    let q = numbered (next b + length p.units) b.names y in
    found (next b) (p.units ++ q.units) (Operation op w 0 (operands p.value q.value Nothing))

abbrev pub choice_in : Built → Width → Expression → Expression → Expression → Numbered
choice_in b w c x y =
    let o = numbered_in b c in
    let p = numbered (next b + length o.units) b.names x in
    let q = numbered (next b + length (o.units ++ p.units)) b.names y in
    found (next b) ((o.units ++ p.units) ++ q.units)
    (Operation Select w 0 (operands o.value p.value q.value))

-- the units of a statement, and what they leave
abbrev pub statement_units : Built → Statement → List SsaUnit
statement_units b (assign e) = (numbered_in b e).units
statement_units b (store w a e) =
    let p = numbered_in b e in
    p.units ++ Store a w p.value ∷ []

abbrev pub after_statement : Built → Statement → Built
after_statement b (assign e) = let p = numbered_in b e in with_name (with_units b p.units) p.value
after_statement b (store w a e) = with_units b (statement_units b (store w a e))
