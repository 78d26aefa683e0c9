-- Sums: polynomials with whole coefficients over atoms, and their values.
use Rattle.std.specs.Prelude.{ℕ, ◌+◌, ◌%◌, ◌^◌, ℤ, pos, ◌+ℤ◌, ◌*ℤ◌, Bool, int_lt, if◌then◌else◌}
use Rattle.std.specs.Ordering.{int_eq}
use Rattle.vg_base.specs.Number.{floor_shift}
use Rattle.vg_terms.specs.declared.value.Env.{Env}
use Rattle.vg_terms.specs.Value.{number_at}
use Rattle.vg_sums.specs.declared.kind.Kind.{Kind}
use Rattle.vg_sums.specs.declared.kind.Kind.TheVariants.{Leaf, Floor, Positive, Negative, Zero, Bitwise}
use Rattle.vg_sums.specs.declared.sum.Sum.{Sum}
use Rattle.vg_sums.specs.declared.sum.Sum.TheVariants.{Number, Plus'}
use Rattle.vg_sums.specs.Bitwise.{bitwise_value}

-- A whole number; or an atom times a sum, with another sum added. An atom is of a kind and, unless it is
-- a leaf, of a sum: `plus kind of factor rest`.
pub data Polynomial : Type 0 where
  number : ℤ → Polynomial
  plus : Kind → Polynomial → Polynomial → Polynomial → Polynomial

-- a sum without the places of its parts in memory
abbrev pub polynomial : Sum → Polynomial
polynomial (Number z) = number z
polynomial (Plus' kind p of q factor r rest) =
    plus kind (polynomial of) (polynomial factor) (polynomial rest)

abbrev pub nothing : Polynomial
nothing = number (pos 0)

-- 1 where it holds, else 0
abbrev pub truth : Bool → ℤ
truth b = if b then pos 1 else pos 0

-- the number of an atom of a sum of value z
abbrev pub atom_value : Env → Kind → ℤ → ℤ
atom_value env (Leaf w k) z = pos (number_at env.pairs k % 2 ^ w)
atom_value env (Floor k) z = floor_shift z k
atom_value env Positive z = if int_lt z (pos 0) then pos 0 else z
atom_value env Negative z = truth (int_lt z (pos 0))
atom_value env Zero z = truth (int_eq z (pos 0))
atom_value env (Bitwise op w) z = bitwise_value op w z

abbrev pub sum_value : Env → Polynomial → ℤ
sum_value env (number z) = z
sum_value env (plus kind of factor rest) =
    atom_value env kind (sum_value env of) *ℤ sum_value env factor +ℤ sum_value env rest

-- the numbers and atoms of a sum, those in atoms among them
abbrev pub size : Polynomial → ℕ
size (number z) = 1
size (plus kind of factor rest) = 1 + size of + size factor + size rest
