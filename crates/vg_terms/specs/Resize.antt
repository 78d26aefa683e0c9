-- A term cut to fewer bits.
use Rattle.std.specs.Prelude.{ℕ, Bool, true, false, nat_eq, if◌then◌else◌}
use Rattle.vg_terms.specs.declared.term.OneOp.TheVariants.{Trunc}
use Rattle.vg_terms.specs.declared.term.TwoOp.{TwoOp}
use Rattle.vg_terms.specs.declared.term.TwoOp.TheVariants.{Add, Mul, And, Or, Xor}
use Rattle.vg_terms.specs.Term.{Tree, one, two, width_of}

-- the low n bits of a term: the term itself where it has n bits
abbrev pub low : ℕ → Tree → Tree
low n x = if nat_eq (width_of x) n then x else one Trunc n 0 x

-- an operation of width w on the low n bits of two terms
abbrev pub low_two : TwoOp → ℕ → ℕ → Tree → Tree → Tree
low_two op w n x y = two op w (low n x) (low n y)

-- the low bits of the operation are those of the operation on low bits
abbrev pub keeps_low : TwoOp → Bool
keeps_low Add = true
keeps_low Mul = true
keeps_low And = true
keeps_low Or = true
keeps_low Xor = true
keeps_low _ = false
